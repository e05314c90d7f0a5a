pub mod Carried
pub mod Moving
