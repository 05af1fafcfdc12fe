pub mod Acts
pub mod CellLaws
pub mod Settles
