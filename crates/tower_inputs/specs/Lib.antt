pub mod InputKinds
pub mod Inputs
pub mod Laws
pub mod Towers
