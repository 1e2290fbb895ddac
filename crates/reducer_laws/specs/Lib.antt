pub mod Ends
pub mod Groups
pub mod Laws
pub mod Numbers
pub mod Standing
pub mod formers
