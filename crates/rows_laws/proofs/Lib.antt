pub mod ReferenceLaws
pub mod NodeRules
pub mod Appended
pub mod ValueKinds
