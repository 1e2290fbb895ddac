pub mod CatLemmas
pub mod ChainLemmas
pub mod FewLemmas
pub mod RangeLemmas
