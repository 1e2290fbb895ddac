pub mod Cats
pub mod ChainText
pub mod Chains
pub mod Elements
pub mod Laws
pub mod Reduces
pub mod Stages
