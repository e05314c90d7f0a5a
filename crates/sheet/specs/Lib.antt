pub mod Twins
pub mod Pages
pub mod Surveys
