pub mod ItemLaws
pub mod PlaceLaws
