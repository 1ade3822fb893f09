pub mod RestLaws
pub mod GoingLaws
pub mod FoundLaws
