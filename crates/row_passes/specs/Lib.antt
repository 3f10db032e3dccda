pub mod InnerPasses
