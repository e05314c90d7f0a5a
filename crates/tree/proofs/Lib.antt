pub mod Nodes
pub mod Pages
pub mod Shapes
pub mod Stand
