pub mod ReadingLaws
pub mod FrontLaws
pub mod ReadBackLaws
pub mod StepsWrittenLaws
pub mod SheetWrittenLaws
