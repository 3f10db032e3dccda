mod NumberLaws
pub mod AnswerLaws
pub mod PlanLaws
pub mod EntryLaws
pub mod PricedOutLaws
