pub mod Wrotes
pub mod Signs
pub mod Whole
pub mod Writings
