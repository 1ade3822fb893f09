pub mod LengthLaws
pub mod TotalLaws
pub mod ChosenLaws
