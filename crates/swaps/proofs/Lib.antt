pub mod UnionLaws
pub mod SwapLaws
