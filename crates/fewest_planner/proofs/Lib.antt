pub mod ReadLaws
pub mod CallLaws
