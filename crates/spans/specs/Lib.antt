pub mod InnerSpans
pub mod Gone
pub mod Equations
pub mod Soundness
