pub mod RecoveryLaws
pub mod FamilyLaws
