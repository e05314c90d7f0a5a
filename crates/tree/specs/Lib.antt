pub mod Tree
pub mod Laws
