pub mod Steps
pub mod Towers
pub mod OneLine
pub mod Verdicts
mod Skips
