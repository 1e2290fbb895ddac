pub mod Taken
pub mod Rule
pub mod Steps
pub mod Reached
pub mod Seats
pub mod Fields
pub mod Pools
pub mod Laws
