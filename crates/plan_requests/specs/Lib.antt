pub mod PlanRequests
