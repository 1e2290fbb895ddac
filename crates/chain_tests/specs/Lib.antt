pub mod Own
pub mod Pipelines
pub mod Worked
