-- The texts of refused data files.
-- Source: this project.
use Rattle.std.specs.Prelude.{ℕ, List, ◌++◌, codes}
use Rattle.std.specs.Fmt.{decimal}
use Rattle.column_input.specs.Text.{refusal_text}
use Rattle.data_files.specs.declared.stop.DataFile.TheVariants as file
use Rattle.data_files.specs.declared.stop.DataRefusal.{DataRefusal}
use Rattle.data_files.specs.declared.stop.DataRefusal.TheVariants as refusal
use Rattle.data_files.specs.Tables.{data_file_limit}

-- what a refused data file is called
abbrev pub data_text : DataRefusal → List ℕ
data_text (refusal.TooLong file.Only) = codes "data file: over " ++ decimal data_file_limit ++ codes " bytes"
data_text (refusal.TooLong (file.OneOf n)) =
    codes "data file " ++ decimal n ++ codes ": over " ++ decimal data_file_limit ++ codes " bytes"
data_text (refusal.NoTable file.Only why) = codes "data: " ++ refusal_text why
data_text (refusal.NoTable (file.OneOf n) why) = codes "data file " ++ decimal n ++ codes ": " ++ refusal_text why
