pub mod Layout
pub mod Rows
pub mod Canonical
pub mod Laws
