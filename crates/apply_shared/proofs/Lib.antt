pub mod Within
pub mod Marks
pub mod Chains
pub mod Frames
pub mod Thinning
pub mod Unread
