pub mod Planning
pub mod Demand3
pub mod InnerPlan
pub mod InnerWork
