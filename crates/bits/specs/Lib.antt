pub mod BitSets
pub mod Numerals
pub mod Lists
