pub mod BaseScope
pub mod DeedLemmas
pub mod FirstMet
pub mod NameLemmas
pub mod Parts
