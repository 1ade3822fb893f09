pub mod HeadingLaws
pub mod NextLaws
pub mod Promises
