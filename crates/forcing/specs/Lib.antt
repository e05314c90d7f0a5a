pub mod Places
pub mod Force
