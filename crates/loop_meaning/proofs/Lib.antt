pub mod BehindLemmas
pub mod CountLemmas
pub mod EmitLemmas
pub mod FewLemmas
pub mod FlowLemmas
pub mod HeadItems
pub mod HeadLemmas
pub mod ItemLemmas
pub mod KindLemmas
pub mod OnceLemmas
pub mod PatternLemmas
pub mod ReduceLines
pub mod RunLemmas
pub mod StayLemmas
pub mod StopLemmas
pub mod StoreLemmas
mod WorkedItems
