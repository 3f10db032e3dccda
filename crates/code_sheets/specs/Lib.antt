pub mod CodeSheets
pub mod CodeReading
