pub mod NeverOther
pub mod SameImages
pub mod Telling
