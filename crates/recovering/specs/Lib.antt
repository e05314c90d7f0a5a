pub mod Copies
pub mod HomeReads
pub mod Volumes
