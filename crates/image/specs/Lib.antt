pub mod Images
pub mod ImageSound
pub mod OfImage
