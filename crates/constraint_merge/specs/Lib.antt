pub mod Chained
pub mod Joined
