pub mod RecordTests
pub mod StepsTaken
pub mod StepCases
pub mod Finish
pub mod ReadingExamples
