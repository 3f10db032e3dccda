pub mod PartLaws
pub mod StripLaws
