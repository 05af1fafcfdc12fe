pub mod Places
pub mod Identities
