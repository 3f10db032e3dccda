pub mod FamilyRecovery
