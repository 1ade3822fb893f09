pub mod Outlines
pub mod Standing
