pub mod Places
pub mod Regions
pub mod Thirds
pub mod Sizes
