mod GrowthLemmas
mod KeyedLemmas
mod TreeLemmas
