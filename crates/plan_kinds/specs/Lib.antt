pub mod Rows
pub mod Coding
pub mod Records
