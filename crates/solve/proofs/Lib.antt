pub mod RowLaws
pub mod OddPatternLaws
pub mod GatherLaws
