pub mod Claims
pub mod Skips
pub mod Verdicts
