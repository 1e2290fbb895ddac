pub mod AsOften
pub mod Laws
