pub mod Steps
pub mod Patterns
pub mod Ranges
pub mod Lists
pub mod Axes
pub mod Further
pub mod AllHeads
