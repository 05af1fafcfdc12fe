pub mod Actions
pub mod Cells
