pub mod Collecting
pub mod Starting
pub mod Walking
pub mod Answering
