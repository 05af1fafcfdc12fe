pub mod Answers
pub mod Parents
pub mod Classes
pub mod Listed
