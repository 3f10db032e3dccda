pub mod InnerStepSymbols
pub mod InnerPasses
