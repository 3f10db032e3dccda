pub mod PlanSheets
pub mod InnerPlanSheets
