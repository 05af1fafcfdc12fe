pub mod Answers
pub mod Shapes
pub mod OneExpression
pub mod OneOperator
pub mod Meaning
