pub mod Compare
pub mod InOrder
pub mod Values
pub mod Typing
pub mod Cells
pub mod Evaluate
