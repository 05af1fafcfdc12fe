pub mod NewOperators
pub mod AnswerRules
