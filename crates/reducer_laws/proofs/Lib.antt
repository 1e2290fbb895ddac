pub mod EndLemmas
pub mod ExtremeLemmas
pub mod GroupLemmas
pub mod KeyLemmas
pub mod NumberLemmas
