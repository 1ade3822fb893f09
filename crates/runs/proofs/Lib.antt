pub mod RunLaws
pub mod RowLaws
pub mod LeftLaws
