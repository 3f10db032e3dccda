pub mod RowLaws
pub mod ReadingLaws
pub mod SheetLaws
pub mod ReadBackLaws
pub mod WriteLaws
