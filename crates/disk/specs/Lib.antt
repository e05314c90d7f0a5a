pub mod Sectors
pub mod Layers
pub mod Faults
pub mod Rules
pub mod WriteLists
