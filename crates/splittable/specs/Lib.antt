pub mod Ranges
pub mod Places
pub mod Parts
pub mod Nodes
pub mod Fields
pub mod ShapeFields
pub mod Laws
