pub mod Cuts
pub mod DoneWrites
pub mod Survival
