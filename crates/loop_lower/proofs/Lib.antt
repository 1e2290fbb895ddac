pub mod CatLemmas
pub mod EndLemmas
pub mod FitLemmas
pub mod ItemLemmas
pub mod LowerLemmas
pub mod PartLemmas
pub mod Shared
