pub mod PlaceLaws
pub mod RankAnswers
pub mod OrderLaws
pub mod RankLaws
pub mod NumberLaws
pub mod NumberedExamples
