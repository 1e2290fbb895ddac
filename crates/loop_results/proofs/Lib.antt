pub mod ExtremeLemmas
pub mod KeyLemmas
pub mod Layers
pub mod OrderLemmas
