-- The lines of SHOW FILES.
use Rattle.std.specs.Prelude.{ℕ, List, codes, ◌++◌}
use Rattle.std.specs.Fmt.{decimal}
use Rattle.sasi_host.specs.declared.name.FileName.{FileName}
use Rattle.sasi_model.specs.Lines.{line}
use Rattle.sasi_names.specs.NameText.{name_text}
use Rattle.sasi_print.specs.declared.file_lines.FileState.{FileState}
use Rattle.sasi_print.specs.declared.file_lines.FileState.TheVariants.{Building, Current, Obsolete}

abbrev pub state_word : FileState → List ℕ
state_word Current = codes "current"
state_word Obsolete = codes "obsolete"
state_word Building = codes "building"

-- the name of a file, its state, and how many cursors hold it
abbrev pub file_text : FileName → FileState → ℕ → List ℕ
file_text name state pinned = name_text name ++ codes " " ++ state_word state ++ codes " pinned " ++ decimal pinned

-- the number of files
abbrev pub file_count_line : ℕ → List ℕ
file_count_line files = line (codes "(" ++ decimal files ++ codes " files)")
