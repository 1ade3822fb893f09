pub mod LimitLaws
pub mod FieldsLaws
pub mod OutlinedLaws
pub mod StandingLaws
