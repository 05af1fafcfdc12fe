pub mod Merging
pub mod Uniting
