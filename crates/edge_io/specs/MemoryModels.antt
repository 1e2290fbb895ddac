-- What contracts see of files and of a sink in memory, and what a read and a put make of it.
-- Source: this project.
use Rattle.std.specs.Prelude.{◌≡◌, ℕ, ◌+◌, List, [], ◌++◌, take, Option, Some, None, Result, Bool, is_some, if◌then◌else◌, refl}
use Rattle.std.specs.Ordering.{nat_cmp}
use Rattle.std.specs.Coded.{Coded, code_by, coded×, coded_ℕ, coded_list}
use Rattle.std.specs.FinMap as map
use Rattle.std.specs.FinSet as set
use Rattle.edge_io.specs.declared.files.ReadStop.{ReadStop}
use Rattle.edge_io.specs.Reading.{Held, read_answer}
use Rattle.edge_io.specs.Counts.{counted}

-- Files in memory: what is held, the numbers of the reads that are named to fail, how many reads were
-- made, and how many of them failed. Both counts stand still at the last value of a counter.
pub record FilesModel : Type 0 where
  pub held : Held
  pub failing : set.FinSet nat_cmp
  pub reads : ℕ
  pub faults : ℕ

abbrev pub files_code : Coded FilesModel
files_code =
    code_by ((Held × set.FinSet nat_cmp) × (ℕ × ℕ))
    (coded× (coded× (map.code (coded_list coded_ℕ) (coded_list coded_ℕ)) (set.code coded_ℕ)) (coded× coded_ℕ coded_ℕ))
    (λ m. ((m.held, m.failing), (m.reads, m.faults)))
    (λ p. record { held = p.0.0; failing = p.0.1; reads = p.1.0; faults = p.1.1 })
    (λ _. refl)

-- no files, and no read that is named to fail
abbrev pub no_files : FilesModel
no_files = record { held = map.empty; failing = set.empty; reads = 0; faults = 0 }

-- the files with these bytes under the name, in place of what it held
abbrev pub files_with : FilesModel → List ℕ → List ℕ → FilesModel
files_with m name bytes = record m { held = map.insert m.held name bytes }

-- the files with this read named to fail
abbrev pub with_failing_read : FilesModel → ℕ → FilesModel
with_failing_read m call = record m { failing = set.insert m.failing call }

-- the answer of a read by what is held, where no read fails and memory is there
abbrev pub held_answer : FilesModel → List ℕ → ℕ → Result (List ℕ) ReadStop
held_answer m name limit = read_answer (map.get m.held name) limit

-- whether the next read is one that is named to fail
abbrev pub fails_next_read : FilesModel → Bool
fails_next_read m = set.contains m.failing (m.reads + 1)

-- the files after one more read
abbrev pub after_read : FilesModel → FilesModel
after_read m = record m { reads = counted m.reads; faults = if fails_next_read m then counted m.faults else m.faults }

-- A sink in memory: its bytes, its room, how many bytes each put that is named to fail keeps, by the
-- put's number, how many puts were made, and how many of them failed.
pub record SinkModel : Type 0 where
  pub bytes : List ℕ
  pub room : ℕ
  pub failing : map.FinMap nat_cmp ℕ
  pub puts : ℕ
  pub faults : ℕ

abbrev pub sink_code : Coded SinkModel
sink_code =
    code_by ((List ℕ × ℕ) × (map.FinMap nat_cmp ℕ × (ℕ × ℕ)))
    (coded× (coded× (coded_list coded_ℕ) coded_ℕ) (coded× (map.code coded_ℕ coded_ℕ) (coded× coded_ℕ coded_ℕ)))
    (λ m. ((m.bytes, m.room), (m.failing, (m.puts, m.faults))))
    (λ p. record { bytes = p.0.0; room = p.0.1; failing = p.1.0; puts = p.1.1.0; faults = p.1.1.1 })
    (λ _. refl)

-- nothing written, no room, and no put that is named to fail
abbrev pub new_sink : SinkModel
new_sink = record { bytes = []; room = 0; failing = map.empty; puts = 0; faults = 0 }

-- the sink with this put named to fail, after it has kept so many bytes
abbrev pub with_failing_put : SinkModel → ℕ → ℕ → SinkModel
with_failing_put m call keep = record m { failing = map.insert m.failing call keep }

-- how many bytes the next put keeps where it is named to fail
abbrev pub kept_by_next_put : SinkModel → Option ℕ
kept_by_next_put m = map.get m.failing (m.puts + 1)

-- the sink with a piece after its bytes, but for its room
abbrev pub with_piece : SinkModel → List ℕ → SinkModel
with_piece m piece = record m { bytes = m.bytes ++ piece }

-- what a put appends: the piece, or its first bytes where it keeps only so many
abbrev pub appended : Option ℕ → List ℕ → List ℕ
appended None piece = piece
appended (Some keep) piece = take keep piece

-- the sink after one more put of the piece, but for its room
abbrev pub after_put : SinkModel → List ℕ → SinkModel
after_put m piece =
    record m {
      bytes = m.bytes ++ appended (kept_by_next_put m) piece;
      puts = counted m.puts;
      faults = if is_some (kept_by_next_put m) then counted m.faults else m.faults;
    }

-- the counts of puts and faults after a put that keeps so many bytes, or that doesn't fail
abbrev pub after_begun_put : SinkModel → Option ℕ → SinkModel
after_begun_put m kept =
    record m { puts = counted m.puts; faults = if is_some kept then counted m.faults else m.faults }

-- the sinks differ at most in their room
abbrev pub SameButRoom : SinkModel → SinkModel → Type 0
SameButRoom before now = now ≡ record before { room = now.room }
