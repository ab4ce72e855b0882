-- A compaction: some files of a table become one. It is begun with the files and the indexes that the table has then, and with the
-- number of the file that it makes, so that each file of a later flush has a greater number.
use Rattle.std.specs.Prelude.{◌≡◌, ◌<◌, ℕ, true, not, nat_le, if◌then◌else◌, List, [], ◌∷◌, ◌++◌, map, suc, Some}
use Rattle.std.specs.List.{AllByRecursion, filter}
use Rattle.sasi_cells.specs.Maps.{merged}
use Rattle.sasi_manifest.specs.declared.files.ListedFile.{ListedFile}
use Rattle.sasi_manifest.specs.declared.files.PartNumber.{PartNumber}
use Rattle.sasi_manifest.specs.ListedFiles.{is_among}
use Rattle.sasi_layout.specs.Layout.{File, Layout, TableParts, drawn, numbered}
use Rattle.sasi_layout.specs.NumbersInOrder.{Rising}

pub record Compaction : Type 0 where
  -- the number of the table
  pub table : ℕ
  -- that of the data file that is made
  pub output : ℕ
  -- those of the data files that are taken in
  pub sources : List ℕ
  -- those of the indexes that the table had, rising
  pub indexes : List ℕ

-- that of a table with all its files and these indexes, under the number after the last used one
abbrev pub begun : ℕ → ℕ → TableParts → List ℕ → Compaction
begun used table t indexes = record { table = table; output = suc used; sources = map (λ (f : ListedFile). f.number) (map (λ (f : File). f.listed) t.files); indexes = indexes }

-- ---- files by their numbers

-- the files with these numbers
abbrev pub chosen : List ℕ → List File → List File
chosen numbers files = filter (λ f. is_among numbers f.listed.number) files

-- and those without
abbrev pub others : List ℕ → List File → List File
others numbers files = filter (λ f. not (is_among numbers f.listed.number)) files

-- with one more, in the order of the numbers
abbrev pub insert_file : File → List File → List File
insert_file f [] = f ∷ []
insert_file f (g ∷ gs) = if nat_le f.listed.number g.listed.number then f ∷ g ∷ gs else g ∷ insert_file f gs

-- ---- what it makes

-- the indexes that it was begun with and that are still defined
abbrev pub indexes_left : Compaction → List ℕ → List ℕ
indexes_left c numbers = filter (is_among numbers) c.indexes

-- the parts that its last unit draws after the last used one: one for each of those
abbrev pub compact_parts : ℕ → Compaction → List ℕ → List PartNumber
compact_parts used c numbers = drawn used (indexes_left c numbers)

-- the file that it makes, as the manifest lists it
abbrev pub listed_output : ℕ → Compaction → List ℕ → ListedFile
listed_output used c numbers = record { number = c.output; parts = compact_parts used c numbers }

-- with the merge of its sources
abbrev pub output_file : ℕ → Compaction → TableParts → File
output_file used c t = record { listed = listed_output used c t.numbers; holds = merged (map (λ (f : File). f.holds) (chosen c.sources t.files)) }

-- the table with that file in the place of its sources
abbrev pub compact_table : ℕ → Compaction → TableParts → TableParts
compact_table used c t = record t { files = insert_file (output_file used c t) (others c.sources t.files) }

-- ---- what holds of one that is under way

-- **Its sources are the first files of the table, and each file behind them is later than its output.**
pub record TakesFirst (high : ℕ) (c : Compaction) (fs : List ListedFile) : Type 0 where
  pub older : List ListedFile
  pub later : List ListedFile
  pub parts : fs ≡ older ++ later
  pub named : AllByRecursion (λ (f : ListedFile). is_among c.sources f.number ≡ true) older
  pub below : AllByRecursion (λ n. n < c.output) c.sources
  pub some : 0 < c.output
  pub rise : Rising c.output high later

-- the same of the parts of a table
abbrev pub TakesFirstOf : ℕ → Compaction → TableParts → Type 0
TakesFirstOf high c t = TakesFirst high c (map (λ (f : File). f.listed) t.files)

-- and so in a layout, whose table it is of
pub record IsRunning (c : Compaction) (l : Layout) : Type 0 where
  pub row : TableParts
  pub there : numbered 1 c.table l.tables ≡ Some row
  pub takes : TakesFirstOf l.used.«data» c row
