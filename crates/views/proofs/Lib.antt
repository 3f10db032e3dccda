pub mod PartLaws
pub mod LookUpLaws
