pub mod Swaps
pub mod InnerSwaps
