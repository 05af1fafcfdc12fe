pub mod Texts
pub mod LongInputs
