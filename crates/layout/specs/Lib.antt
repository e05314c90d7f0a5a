pub mod Padded
pub mod Anchors
pub mod Ends
pub mod Heads
pub mod Headers
pub mod Leaders
pub mod Tags
