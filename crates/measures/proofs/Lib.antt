pub mod SaidLaws
pub mod StandLaws
