pub mod Plans
pub mod Append
pub mod Records
pub mod Extends
