pub mod Strips
pub mod Places
