-- Files that are kept open from call to call, to be read or to be written.
use Rattle.std.specs.Prelude.{◌≡◌, ℕ, ◌<◌, Bool, false, Contains, Option, None, Some, get_or, nat_eq}
use Rattle.std.specs.Ordering.{on, eq_of_both}
use Rattle.sasi_host.specs.declared.name.FileName.{FileName}
use Rattle.sasi_host.specs.Names.{name_eq, rank}
use Rattle.sasi_filehost.specs.declared.file_key.FileKey.{FileKey}
use Rattle.sasi_filehost.specs.declared.read_files.ReadFiles.{ReadFiles}
use Rattle.sasi_filehost.specs.declared.written_files.OpenFile.{OpenFile}
use Rattle.sasi_filehost.specs.declared.written_files.WrittenFiles.{WrittenFiles}

-- a name by its numbers
abbrev pub key_of : FileName → FileKey
key_of name = record { rank = rank name.kind; number = name.number; index = name.index; part = name.part }

-- all numbers are the same
abbrev pub key_eq : FileKey → FileKey → Bool
key_eq = eq_of_both (eq_of_both (eq_of_both (on (λ k. k.rank) nat_eq) (on (λ k. k.number) nat_eq)) (on (λ k. k.index) nat_eq)) (on (λ k. k.part) nat_eq)

-- ---- to be read

-- none that is kept open is under this name
abbrev pub IsClosed : ReadFiles → FileName → Type 0
IsClosed read name = (entry : _) → Contains read.files.entries entry → key_eq (key_of name) entry.0 ≡ false

-- each that is kept open was before, under the same name
abbrev pub OpensNone : ReadFiles → ReadFiles → Type 0
OpensNone old new = (entry : _) → Contains new.files.entries entry → Contains old.files.entries entry

-- ---- to be written

-- a slot has the file of this name
abbrev pub is_of : FileName → Option OpenFile → Bool
is_of name None = false
is_of name (Some file) = name_eq file.name name

-- no slot has it
abbrev pub IsUnwritten : WrittenFiles → FileName → Type 0
IsUnwritten written name = (at : ℕ) → at < 8 → is_of name (get_or written.slots at None) ≡ false
