pub mod Evaluated
pub mod Fitting
pub mod Laws
pub mod ReduceLines
