pub mod Bytes
pub mod Records
pub mod Fields
pub mod Decoding
pub mod Writes
