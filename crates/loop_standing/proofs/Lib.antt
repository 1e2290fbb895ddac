pub mod MergeLemmas
pub mod StandLemmas
