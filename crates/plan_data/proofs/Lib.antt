pub mod CodeLaws
pub mod NodeLaws
