mod CopyLemmas
mod DisplayLemmas
pub mod InputLemmas
mod KindLemmas
mod RowLemmas
mod TextLemmas
mod TowerLemmas
