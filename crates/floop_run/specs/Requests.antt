-- What a request asks of the program.
-- Source: this project.
use Rattle.std.specs.Prelude.{ℕ, ◌+◌, List, [], length, unwrap_or, Option, Some, None, Result, Ok, Err}
use Rattle.program_words.specs.declared.command.Call.{Call}
use Rattle.program_words.specs.declared.setting.Setting.TheVariants as setting
use Rattle.program_words.specs.Settings.{names_in}
use Rattle.program_words.specs.Values.{value_of}
use Rattle.program_words.specs.Requests.{Request, request_of}

-- what the words are to a top call
abbrev pub request_in : Call → List (List ℕ) → Result Request (List ℕ)
request_in call words = request_of call words

-- the loop file's name, which each command must be given
abbrev pub loop_file : Request → List ℕ
loop_file r = unwrap_or (value_of setting.Loop r) []

abbrev pub names_of : Option (List ℕ) → List (List ℕ)
names_of None = []
names_of (Some value) = names_in value

-- the names of the data files, in order; where the setting isn't given there are none, and the table is that of no file
abbrev pub data_names : Request → List (List ℕ)
data_names r = names_of (value_of setting.Data r)

-- how many reads a call makes at most: one of the loop file and one for each name of a data file; none where the words are
-- no request
abbrev pub most_reads : Result Request (List ℕ) → ℕ
most_reads (Err text) = 0
most_reads (Ok request) = 1 + length (data_names request)
