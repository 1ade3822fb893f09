pub mod FieldLaws
pub mod ValueLaws
pub mod HeadLaws
