pub mod OneSector
pub mod Stored
pub mod Counted
