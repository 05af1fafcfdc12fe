pub mod Wides
pub mod SetWide
pub mod KnownLaws
pub mod Steps
