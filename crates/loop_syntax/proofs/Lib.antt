pub mod KnownLines
mod LawLemmas
pub mod LineSizeLemmas
mod ReadLemmas
pub mod Shared
pub mod SomeExprs
pub mod SomeLines
pub mod TextLaws
pub mod TreeLemmas
pub mod WellFormedTexts
pub mod WellNamed
