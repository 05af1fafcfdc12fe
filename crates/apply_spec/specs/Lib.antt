pub mod Told
pub mod Facts
pub mod Conjuncts
pub mod Apply
pub mod Entries
pub mod Meaning
pub mod Conditions
pub mod Wanted
