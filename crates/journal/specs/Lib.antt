pub mod Calls
pub mod Formats
pub mod Decisions
pub mod Books
pub mod Runs
pub mod Ties
pub mod Recoveries
