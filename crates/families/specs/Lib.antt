pub mod FamilySheets
