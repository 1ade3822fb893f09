pub mod FitLaws
pub mod HandedLaws
