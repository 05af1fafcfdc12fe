pub mod Guards
pub mod Entries
pub mod RestLaws
pub mod Stepping
pub mod WalkTurns
