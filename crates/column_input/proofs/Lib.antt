mod ChunkLemmas
mod ColumnLemmas
mod HeaderLemmas
mod KeptLemmas
mod RecordsLemmas
mod TableLemmas
mod TextsLemmas
mod WholeLemmas
