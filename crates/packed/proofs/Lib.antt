pub mod Part
pub mod Edges
