pub mod SymbolListLaws
pub mod AwayLaws
pub mod AvoidLaws
pub mod RequestLaws
pub mod SwapPlanLaws
pub mod PricedLaws
pub mod CallLaws
