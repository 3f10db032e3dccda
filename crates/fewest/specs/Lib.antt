pub mod InnerFewest
