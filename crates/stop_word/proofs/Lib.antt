pub mod Gathered
pub mod Least
pub mod Keeps
pub mod Reached
