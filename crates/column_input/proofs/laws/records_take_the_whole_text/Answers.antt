use Rattle.std.proofs.Common.{◌+◌, length, refl, inl, arith}
use Rattle.csv.specs.Reading.{strip_bom}
use Rattle.csv.specs.declared.parser.State.TheVariants as st
use Rattle.column_input.proofs.WholeLemmas.{reads_all}
use Rattle.column_input.proofs.laws.records_take_the_whole_text.Goals as goal

pub returns : goal.returns
returns c bytes = reads_all (length (strip_bom bytes) + 1) st.StartRecord (strip_bom bytes) (inl refl) (omega arith)
