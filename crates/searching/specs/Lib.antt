pub mod Looks
pub mod LogReads
