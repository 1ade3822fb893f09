pub mod TestLaws
pub mod PickLaws
