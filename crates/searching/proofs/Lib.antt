pub mod Seen
pub mod Listed
pub mod Steps
pub mod Taken
pub mod Logs
