pub mod TruthLaws
pub mod Tables
