pub mod Kept
pub mod Checked
pub mod Settled
