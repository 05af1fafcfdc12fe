pub mod Exact
pub mod Kinds
pub mod Scalars
pub mod Coded
