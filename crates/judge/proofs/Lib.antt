pub mod TurnLaws
pub mod LeftLaws
pub mod BitLaws
pub mod WholeLaws
