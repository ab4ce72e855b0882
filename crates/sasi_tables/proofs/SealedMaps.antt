-- A data file whose partitions are written: what its seal asks of its index files, and what it leaves.
use Rattle.std.proofs.Common.{◌≡◌, ◌||◌, ℕ, Bool, true, false, nat_eq, List, [], ◌∷◌, map, sym, ap, ◌∙◌, subst, refl, arith}
use Rattle.std.specs.Prelude.{Result, Ok, Err, OnOk}
use Rattle.std.proofs.lemmas.Bool.Decides.{nat_tests}
use Rattle.std.specs.List.{AllByRecursion, list_any}
use Rattle.sasi_types.specs.declared.index_def.IndexDef.{IndexDef}
use Rattle.sasi_types.specs.declared.partitioner.Partitioner.{Partitioner}
use Rattle.sasi_host.specs.declared.name.FileName.{FileName}
use Rattle.sasi_host.specs.Names.{data_name}
use Rattle.sasi_host.specs.View.{IsAbsent, View}
use Rattle.sasi_host.specs.Disk.{AnyChange, Changes, FileChange, IsFileDurable, Within}
use Rattle.sasi_host.proofs.ChangeLaws.{within_on}
use Rattle.sasi_host.proofs.ContentLaws.{absent_where, contents_other}
use Rattle.sasi_datawrite.specs.Format.{Content, data_bytes}
use Rattle.sasi_folder.proofs.FolderLaws.{kinds_apart}
use Rattle.sasi_manifest.specs.ListedFiles.{index_name, is_name_of, names_of}
use Rattle.sasi_layout.specs.Moves.{new_listed_file}
use Rattle.sasi_manifest.specs.declared.files.PartNumber.{PartNumber}
use Rattle.sasi_pairs.specs.Gathered.{GatheredIndex, defs_of}
use Rattle.sasi_pairs.specs.PairViews.{IsPairing, PairView}
use Rattle.sasi_pairs.specs.SealedFiles.{AreAbsent, AreDefined, AreDurable, HasDurableIndex}
use Rattle.sasi_tables.specs.Flushing.{AreFree, AreWritten}
use Rattle.sasi_tables.proofs.FlushedFiles.{named_data}

-- ---- which indexes the parts are of

-- the numbers of the indexes
numbers : List IndexDef → List ℕ
numbers defs = map (λ (def : IndexDef). def.number) defs

either : (a b : Bool) → b ≡ true → (a || b) ≡ true
either true b is = refl
either false b is = is

has_def : List IndexDef → ℕ → Bool
has_def defs number = list_any (λ (def : IndexDef). nat_eq number def.number) defs

own_found : (number : ℕ) (def : IndexDef) (defs : List IndexDef) → number ≡ def.number → has_def (def ∷ defs) number ≡ true
unfolding has_def
own_found number def defs is =
    let same : nat_eq number def.number ≡ true = grind (arith, nat_tests, is) in
    ap (λ b. b || has_def defs number) same

numbers_found : (all defs : List IndexDef) → ((number : ℕ) → has_def defs number ≡ true → has_def all number ≡ true) → AllByRecursion (λ number. has_def all number ≡ true) (numbers defs)
unfolding numbers has_def
numbers_found all [] among = tt
numbers_found all (def ∷ defs) among =
    (among def.number (own_found def.number def defs refl), numbers_found all defs (λ number has. among number (either (nat_eq number def.number) (has_def defs number) has)))

parts_found : (defs : List IndexDef) (parts : List PartNumber) → AllByRecursion (λ number. has_def defs number ≡ true) (map (λ (p : PartNumber). p.index) parts) → AreDefined defs parts
unfolding has_def
parts_found defs [] all = tt
parts_found defs (p ∷ parts) all = (all.0, parts_found defs parts all.1)

-- each part is of one of the indexes, where the parts have the numbers of their definitions
pub all_defined : (indexes : List GatheredIndex) (defs : List IndexDef) (parts : List PartNumber) → defs_of indexes ≡ defs → map (λ (p : PartNumber). p.index) parts ≡ map (λ (def : IndexDef). def.number) defs → AreDefined (defs_of indexes) parts
unfolding numbers
all_defined indexes defs parts same numbered =
    subst (λ (ds : List IndexDef). AreDefined ds parts) (sym same)
    (parts_found defs parts (subst (λ (ns : List ℕ). AllByRecursion (λ number. has_def defs number ≡ true) ns) (sym numbered) (numbers_found defs defs (λ number has. has))))

-- ---- which names are free

names_absent : (v : View) (number : ℕ) (parts : List PartNumber) → AllByRecursion (λ (name : FileName). IsAbsent v name) (map (index_name number) parts) → AreAbsent v number parts
names_absent v number [] free = tt
names_absent v number (p ∷ parts) free = (free.0, names_absent v number parts free.1)

-- the names of the index files are free
pub parts_absent : (v : View) (number : ℕ) (parts : List PartNumber) → AreFree v (names_of (new_listed_file number parts)) → AreAbsent v number parts
parts_absent v number parts free = names_absent v number parts free.1

still_absent : (a b : View) (file : FileName) (number : ℕ) (parts : List PartNumber) → file ≡ data_name file.number → Changes (FileChange file AnyChange) a b → AreAbsent a number parts → AreAbsent b number parts
still_absent a b file number [] named change free = tt
still_absent a b file number (p ∷ parts) named change free = (
  absent_where a b (index_name number p) (contents_other a b file (index_name number p) AnyChange (λ same. kinds_apart (index_name number p) (data_name file.number) (omega arith) (same ∙ named)) change) free.0,
  still_absent a b file number parts named change free.1,
)

-- and are so while the data file is written, which another writer names otherwise
pub absent_on : (a b : View) (file other : FileName) (number : ℕ) (parts : List PartNumber) → file ≡ data_name number → other ≡ file → Changes (FileChange file AnyChange) a b → AreAbsent a number parts → AreAbsent b other.number parts
absent_on a b file other number parts named same change free =
    let is : file.number ≡ number = ap (λ (f : FileName). f.number) named in
    subst (λ (n : ℕ). AreAbsent b n parts) (sym (ap (λ (f : FileName). f.number) same ∙ is))
    (still_absent a b file number parts (named ∙ ap data_name (sym is)) change free)

-- ---- what changes

module _ (file : FileName) (number : ℕ) (parts : List PartNumber) (named : file ≡ data_name number) where
  -- the data file is one of them
  pub data_within : (a b : View) → Changes (FileChange file AnyChange) a b → Changes (Within (is_name_of (new_listed_file number parts))) a b
  data_within a b change = named_data (new_listed_file number parts) a b (subst (λ f. Changes (FileChange f AnyChange) a b) named change)

  -- and then the others
  pub files_within : (a b c : View) (other : FileName) → other ≡ file → Changes (FileChange file AnyChange) a b → Changes (Within (is_name_of (record { number = other.number; parts = parts }))) b c → Changes (Within (is_name_of (new_listed_file number parts))) a c
  files_within a b c other same change sealed =
      within_on (is_name_of (new_listed_file number parts)) a b c (data_within a b change)
      (subst (λ (n : ℕ). Changes (Within (is_name_of (record { number = n; parts = parts }))) b c) (ap (λ (f : FileName). f.number) (same ∙ named)) sealed)

-- ---- what is durable

-- the files are those that were asked for
pub written_all : (v : View) (pair : PairView) (number : ℕ) (partitioner : Partitioner) (defs : List IndexDef) (parts : List PartNumber) (content : Content) → pair.writer.file ≡ data_name number → pair.writer.partitioner ≡ partitioner → defs_of pair.indexes ≡ defs
    → AreDurable v pair parts content → AreWritten v number partitioner defs parts content
written_all v pair number partitioner defs parts content file partitioner_is defs_are durable = record {
  «data» = subst (λ f. IsFileDurable v f (data_bytes partitioner content)) file (subst (λ p. IsFileDurable v pair.writer.file (data_bytes p content)) partitioner_is durable.«data»);
  indexes = subst (λ (n : ℕ). AllByRecursion (HasDurableIndex v n partitioner defs content) parts) (ap (λ (f : FileName). f.number) file)
      (subst (λ p. AllByRecursion (HasDurableIndex v pair.writer.file.number p defs content) parts) partitioner_is
      (subst (λ (ds : List IndexDef). AllByRecursion (HasDurableIndex v pair.writer.file.number pair.writer.partitioner ds content) parts) defs_are durable.indexes));
}

-- and are those of the same number, partitioner and definitions
pub written_as : (v : View) (m n : ℕ) (p q : Partitioner) (ds es : List IndexDef) (parts : List PartNumber) (content : Content) → m ≡ n → p ≡ q → ds ≡ es → AreWritten v m p ds parts content → AreWritten v n q es parts content
written_as v m n p q ds es parts content number partitioner defs written =
    subst (λ k. AreWritten v k q es parts content) number (subst (λ k. AreWritten v m k es parts content) partitioner (subst (λ k. AreWritten v m p k parts content) defs written))

-- where the seal succeeds
pub sealed_written : {A E : Type 0} (result : Result A E) (a b : View) (pair : PairView) (number : ℕ) (partitioner : Partitioner) (defs : List IndexDef) (parts : List PartNumber) (content : Content) → pair.writer.file ≡ data_name number
    → pair.writer.partitioner ≡ partitioner → defs_of pair.indexes ≡ defs → IsPairing a pair content → OnOk result ((c : Content) → IsPairing a pair c → AreDurable b pair parts c) → OnOk result (AreWritten b number partitioner defs parts content)
sealed_written (Ok x) a b pair number partitioner defs parts content file partitioner_is defs_are pairing durable = written_all b pair number partitioner defs parts content file partitioner_is defs_are (durable content pairing)
sealed_written (Err e) a b pair number partitioner defs parts content file partitioner_is defs_are pairing durable = tt
