mod Views
pub mod Keeps
pub mod Reached
pub mod Halving
