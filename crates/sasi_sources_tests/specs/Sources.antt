-- Sources of candidates over the fixture.
use Rattle.std.specs.Prelude.{◌≡◌, ℕ, List, [], ◌∷◌, Option}
use Rattle.std.specs.List.{AllByRecursion}
use Rattle.sasi_types.specs.declared.column.ColumnType.{ColumnType}
use Rattle.sasi_types.specs.declared.column.ColumnType.TheVariants as kinds
use Rattle.sasi_host.specs.declared.name.FileName.{FileName}
use Rattle.sasi_host.specs.Names.{Folder, data_name}
use Rattle.sasi_machine.specs.TableRows.{AreStored}
use Rattle.sasi_memindex.specs.Book.{Book}
use Rattle.sasi_memtable.specs.MemtableView.{MemtableView}
use Rattle.sasi_scan.specs.Numbered.{views_numbered}

-- the maps with these numbers have keys of texts, and texts
abbrev pub AreTextMaps : Book → List ℕ → Type 0
AreTextMaps book numbers = AllByRecursion (λ (m : MemtableView). AreStored kinds.Text m.partitions) (views_numbered book numbers)

-- so have the maps 1 to 3
abbrev pub HasTextMaps : Book → Type 0
HasTextMaps book = AreTextMaps book (1 ∷ 2 ∷ 3 ∷ [])

-- a source that wasn't asked yet: it reads no other file than the data file 7, and what it gives of the maps can be printed
pub record Begins {C : Type 0} (Opens : C → FileName → Type 0) (Ready : C → Option Folder → Book → Type 0) (Prints : C → Option Folder → Book → ColumnType → Type 0) (source : C) : Type 0 where
  pub opens : (name : FileName) → Opens source name → name ≡ data_name 7
  pub ready : (seen : Option Folder) (book : Book) → Ready source seen book
  pub prints : (seen : Option Folder) (book : Book) → HasTextMaps book → Prints source seen book kinds.Text
