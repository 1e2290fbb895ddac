pub mod LineForms
pub mod Nesting
pub mod RefusalTexts
pub mod SkippedFaults
pub mod Texts
pub mod LineSizes
pub mod TreeLines
pub mod WellFormed
