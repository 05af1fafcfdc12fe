pub mod RangeLaws
pub mod RangeExamples
