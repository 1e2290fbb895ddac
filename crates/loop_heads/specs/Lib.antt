pub mod Tokens
pub mod Claims
pub mod Heads
