pub mod ByteOrder
pub mod Chains
pub mod Stored
pub mod Texts
