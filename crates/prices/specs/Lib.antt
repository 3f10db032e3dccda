pub mod Prices
pub mod Kinds
pub mod InnerPrices
