pub mod Rule
pub mod Steps
pub mod Tells
pub mod Rights
pub mod Ends
pub mod Fields
pub mod Laws
