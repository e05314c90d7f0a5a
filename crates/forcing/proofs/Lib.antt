pub mod Wrote
pub mod CarriedHomes
pub mod ChangedPages
pub mod HeadsAndEnds
pub mod ForceWrites
