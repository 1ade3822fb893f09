pub mod TurnLaws
pub mod GoingLaws
pub mod EndingLaws
pub mod BeginLaws
pub mod Promises
