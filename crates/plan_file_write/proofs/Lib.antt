pub mod WriteLaws
pub mod SamePlan
