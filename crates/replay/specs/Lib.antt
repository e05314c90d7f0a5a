pub mod Moves
pub mod Replays
