pub mod Text
pub mod Writers
