pub mod TwinWrites
pub mod TwinReads
pub mod Standing
pub mod TwinCuts
pub mod Renewing
pub mod Surveying
