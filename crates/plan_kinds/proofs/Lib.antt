pub mod Table
pub mod Coding
