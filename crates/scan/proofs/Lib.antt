pub mod FirstLaws
pub mod ByteLaws
pub mod AlikeLaws
pub mod WordLaws
