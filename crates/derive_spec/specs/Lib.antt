pub mod Answers
pub mod Columns
pub mod Operators
pub mod Deriving
pub mod Residuals
