pub mod Chains
pub mod Roots
pub mod Extents
pub mod Leaves
pub mod Faults
