pub mod Views
pub mod Places
