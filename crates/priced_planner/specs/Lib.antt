pub mod PricedPlanner
pub mod InnerPriced
