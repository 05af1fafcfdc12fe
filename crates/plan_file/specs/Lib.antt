pub mod Answer
pub mod Bytes
pub mod Answers
pub mod State
pub mod Steps
