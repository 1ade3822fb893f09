pub mod PixelLaws
pub mod RowLaws
pub mod LeftLaws
pub mod RunLaws
pub mod BeginLaws
