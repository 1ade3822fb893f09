pub mod CommandLaws
pub mod StepLaws
