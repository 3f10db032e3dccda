pub mod InnerSums
pub mod InnerStarts
