pub mod Windows
pub mod WindowSound
pub mod OfWindow
