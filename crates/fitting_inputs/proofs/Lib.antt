pub mod BlockLemmas
pub mod EntryFacts
mod EntrySpots
pub mod FreshNames
pub mod HeadScopes
pub mod ItemLemmas
pub mod KindedLines
pub mod LegalRuns
pub mod NameLemmas
pub mod PatternLemmas
mod ReduceEntries
pub mod ReducerFacts
pub mod RunLemmas
pub mod SiteLemmas
pub mod StepLemmas
pub mod StoreLemmas
pub mod StrictRuns
