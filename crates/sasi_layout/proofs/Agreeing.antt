-- Changes of files that a layout doesn't list: a data file of a later number, a segment of the log that isn't live, and segments below the floor.
use Rattle.std.specs.Prelude.{ℕ, suc, List, map, ◌<◌, ◌∷◌, []}
use Rattle.std.proofs.Common.{ap, arith}
use Rattle.std.specs.FinMap.{get}
use Rattle.std.specs.List.{AllByRecursion}
use Rattle.sasi_host.specs.Disk.{Same}
use Rattle.sasi_host.specs.Names.{Folder, log_name, manifest_name, seal_name, data_name}
use Rattle.sasi_manifest.specs.declared.files.PartNumber.{PartNumber}
use Rattle.sasi_folder.proofs.FolderLaws.{kinds_apart, numbers_apart}
use Rattle.sasi_layout.proofs.ListingLaws.{rising_bound}
use Rattle.sasi_layout.proofs.ShapeLaws.{tables_agree}
use Rattle.sasi_manifest.specs.ListedFiles.{index_name}
use Rattle.sasi_layout.specs.Frames.{AgreeOn, AgreeOnFiles, AgreeOnTables, AreAlike, DeletesOld, OthersSame}
use Rattle.sasi_layout.specs.Layout.{File, Layout, TableParts, bare, bare_table, listed_of}
use Rattle.sasi_layout.specs.NumbersInOrder.{HasFilesInOrder, HasNumbersInOrder, Rising}

-- the files of the tables have lower numbers
abbrev pub AreBelow : ℕ → List TableParts → Type 0
AreBelow number ts = AllByRecursion (λ (t : TableParts). AllByRecursion (λ (f : File). f.listed.number < number) t.files) ts

rising_below : (low high : ℕ) (fs : List File) → Rising low high (map (λ (f : File). f.listed) fs) → AllByRecursion (λ (f : File). f.listed.number < suc high) fs
rising_below low high [] rise = tt
rising_below low high (f ∷ fs) rise = (omega (arith, rising_bound f.listed.number high (map (λ (f : File). f.listed) fs) rise.1), rising_below f.listed.number high fs rise.1)

all_below : (high last : ℕ) (ts : List TableParts) → AllByRecursion (HasFilesInOrder high last) (map listed_of ts) → AreBelow (suc high) ts
all_below high last [] in_order = tt
all_below high last (t ∷ ts) in_order = (rising_below 0 high t.files in_order.0.rise, all_below high last ts in_order.1)

parts_alike : (x y : Folder) (number : ℕ) → OthersSame x y number → (n : ℕ) (ps : List PartNumber) → n < number → AreAlike x y (map (index_name n) ps)
parts_alike x y number others n [] below = tt
parts_alike x y number others n (p ∷ ps) below = (others (index_name n p) (omega arith) (omega (arith, below)), parts_alike x y number others n ps below)

files_alike : (x y : Folder) (number : ℕ) → OthersSame x y number → (fs : List File) → AllByRecursion (λ (f : File). f.listed.number < number) fs → AgreeOnFiles x y fs
files_alike x y number others [] below = tt
files_alike x y number others (f ∷ fs) below = ((others (data_name f.listed.number) (omega arith) (omega (arith, below.0)), parts_alike x y number others f.listed.number f.listed.parts below.0), files_alike x y number others fs below.1)

pub tables_alike : (x y : Folder) (number : ℕ) → OthersSame x y number → (ts : List TableParts) → AreBelow number ts → AgreeOnTables x y (map bare_table ts)
tables_alike x y number others [] below = tt
tables_alike x y number others (t ∷ ts) below = (files_alike x y number others t.files below.0, tables_alike x y number others ts below.1)

-- where no file changes but those of the next data number, those of the tables are the same
pub tables_others : (l : Layout) (x y : Folder) → HasNumbersInOrder l → OthersSame x y (suc l.used.«data») → AgreeOnTables x y (map bare_table l.tables)
tables_others l x y in_order others = tables_alike x y (suc l.used.«data») others l.tables (all_below l.used.«data» l.last l.tables in_order.files)

-- segments below the floor
pub agree_deleted : (l : Layout) (x y : Folder) → DeletesOld l.floor x y → AgreeOn (bare l) x y
agree_deleted l x y others = record {
  seals = λ n. others (seal_name n) (λ segment below. kinds_apart _ _ (omega arith));
  manifest = others (manifest_name l.used.manifest) (λ segment below. kinds_apart _ _ (omega arith));
  logs = λ segment above under. others (log_name segment) (λ dead below. numbers_apart _ _ (omega (arith, above, below)));
  files = tables_agree x y (λ name file. others name (λ segment below. kinds_apart _ _ (omega (arith, file)))) (map bare_table l.tables);
}

-- nothing
pub agree_same : (l : Layout) (x y : Folder) → Same x y → AgreeOn l x y
agree_same l x y same = record {
  seals = λ n. ap (λ (f : Folder). get f (seal_name n)) same;
  manifest = ap (λ (f : Folder). get f (manifest_name l.used.manifest)) same;
  logs = λ segment above under. ap (λ (f : Folder). get f (log_name segment)) same;
  files = tables_agree x y (λ name file. ap (λ (f : Folder). get f name) same) l.tables;
}
