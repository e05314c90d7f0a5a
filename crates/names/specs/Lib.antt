pub mod Names
pub mod Versions
pub mod Orders
