pub mod Loops
pub mod Classes
pub mod FactsTyped
pub mod Lengths
