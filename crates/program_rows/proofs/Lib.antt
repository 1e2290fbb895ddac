pub mod FitLemmas
pub mod InputLemmas
pub mod PairLemmas
pub mod RowLemmas
