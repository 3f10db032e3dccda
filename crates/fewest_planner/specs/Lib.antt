pub mod FewestReads
pub mod FewestCall
