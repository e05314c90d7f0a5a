pub mod KeyOrder
pub mod LookUps
pub mod Sorting
