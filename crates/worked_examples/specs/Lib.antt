pub mod Inputs
pub mod Trees
