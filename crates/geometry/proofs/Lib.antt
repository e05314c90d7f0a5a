pub mod OneUse
pub mod Rounded
