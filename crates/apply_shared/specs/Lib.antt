pub mod Thinned
pub mod Turns
