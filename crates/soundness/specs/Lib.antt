pub mod InnerColumns
pub mod Survivors
