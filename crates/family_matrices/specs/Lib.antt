pub mod InnerDataSums
