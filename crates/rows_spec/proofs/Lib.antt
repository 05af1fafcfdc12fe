pub mod InOrderLaws
pub mod ValueLaws
pub mod TypingLaws
pub mod FewExpressions
pub mod CompareLaws
pub mod SqlExamples
