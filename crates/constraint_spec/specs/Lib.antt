pub mod Answers
pub mod Values
pub mod Sets
pub mod Meets
pub mod Room
