pub mod Stands
pub mod Tallies
pub mod Trials
