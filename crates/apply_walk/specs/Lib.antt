pub mod Walks
pub mod Rests
