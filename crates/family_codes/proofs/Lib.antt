pub mod FamilyLaws
pub mod LimitLaws
