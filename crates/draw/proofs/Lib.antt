pub mod CodeLaws
pub mod Promises
