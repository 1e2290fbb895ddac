pub mod Numbers
pub mod Rule
pub mod Steps
pub mod Tells
pub mod Seats
pub mod Fields
pub mod Laws
