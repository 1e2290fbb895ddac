pub mod Bytes
pub mod Signs
pub mod Keywords
pub mod Tokens
pub mod Limits
pub mod Lines
pub mod Literals
pub mod Laws
