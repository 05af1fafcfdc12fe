pub mod Floats
pub mod PlaceAnswers
pub mod SetTyped
pub mod Contents
pub mod Settling
pub mod PlaceExamples
