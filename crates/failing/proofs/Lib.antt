pub mod Probed
pub mod Spoiled
