pub mod Gathered
pub mod Front
pub mod Keeps
pub mod Reached
pub mod Begun
pub mod Worked
