pub mod Keeps
pub mod Reached
