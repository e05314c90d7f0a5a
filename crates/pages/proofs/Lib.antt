pub mod Cursor
pub mod Places
pub mod Reread
pub mod Fits
pub mod Exact
pub mod Edits
