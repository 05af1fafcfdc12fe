pub mod MergedReady
pub mod AppliedReady
pub mod EveryAnswer
pub mod DerivedReady
