-- The index files of a data file, one after another.
use Rattle.std.proofs.Common.{◌≡◌, ◌≢◌, ℕ, zero, suc, ◌+◌, ◌<◌, List, [], ◌∷◌, Bool, true, false, length, get_or, map, take, drop, sym, ap, ◌∙◌, subst, refl, arith}
use Rattle.std.specs.Prelude.{Contains, ◌||◌}
use Rattle.std.specs.List.{AllByRecursion, list_any}
use Rattle.std.specs.List.Sorted.{IsStrictlySortedBy}
use Rattle.std.specs.Ordering.{nat_cmp}
use Rattle.std.specs.FinMap.{get}
use Rattle.std.proofs.Math.Seq.{take-suc}
use Rattle.std.proofs.lemmas.Bool.Decides.{nat_tests}
use Rattle.sasi_host.specs.declared.name.FileName.{FileName}
use Rattle.sasi_host.specs.Names.{Folder, data_name, name_eq}
use Rattle.sasi_host.specs.View.{IsAbsent, View}
use Rattle.sasi_host.specs.Disk.{AnyChange, Changes, FileChange, IsSynced, Same, Within}
use Rattle.sasi_host.proofs.ChangeLaws.{changes_as, stays, step_within, within_on}
use Rattle.sasi_indexwrite.proofs.Lists.{all_join}
use Rattle.sasi_indexwrite.specs.Files.{HoldsIndex}
use Rattle.sasi_indexwrite.specs.Stored.{stored}
use Rattle.sasi_indexwrite.specs.TermsSoFar.{AreSortedPostings}
use Rattle.sasi_manifest.specs.declared.files.ListedFile.{ListedFile}
use Rattle.sasi_manifest.specs.declared.files.PartNumber.{PartNumber}
use Rattle.sasi_manifest.specs.ListedFiles.{index_name, is_name_of}
use Rattle.sasi_pairs.specs.Gathered.{GatheredIndex, IsBuilt}
use Rattle.sasi_pairs.specs.SealedFiles.{AreAbsent, AreAmong, HasSyncedIndex, IsTaken, has_index, is_index_of}
use Rattle.sasi_pairs.proofs.CauseLaws.{IsQuiet, quiet_none, quiet_on}
use Rattle.sasi_pairs.proofs.Replaced.{all_taken, left_there, others_left, taken_there}
use Rattle.sasi_pairs.proofs.SyncedFiles.{absent_kept, before_apart, behind_apart, indexes_kept, numbers}

-- ---- names

pub name_itself : (name : FileName) → name_eq name name ≡ true
name_itself name = grind (arith, nat_tests)

index_among : (number : ℕ) (parts : List PartNumber) (at : ℕ) (d : PartNumber) → at < length parts → list_any (name_eq (index_name number (get_or parts at d))) (map (index_name number) parts) ≡ true
index_among number [] at d lt = absurd (omega arith)
index_among number (p ∷ parts) zero d lt = ap (λ (b : Bool). b || list_any (name_eq (index_name number p)) (map (index_name number) parts)) (name_itself (index_name number p))
index_among number (p ∷ parts) (suc at) d lt = by (name_eq (index_name number (get_or parts at d)) (index_name number p)) (index_among number parts at d (omega arith))
  where
    by : (b : Bool) → list_any (name_eq (index_name number (get_or parts at d))) (map (index_name number) parts) ≡ true → (b || list_any (name_eq (index_name number (get_or parts at d))) (map (index_name number) parts)) ≡ true
    by true rest = refl
    by false rest = rest

-- a data file is none of its index files
pub data_not_index : (number : ℕ) (parts : List PartNumber) → list_any (name_eq (data_name number)) (map (index_name number) parts) ≡ false
data_not_index number [] = refl
data_not_index number (p ∷ parts) = data_not_index number parts

or_true : (a b : Bool) → (a || b) ≡ false → b ≡ false
or_true true b e = absurd (cc)
or_true false b e = e

-- what changes the index files alone changes these files alone
pub index_change : (a b : View) (file : ListedFile) → Changes (Within (is_index_of file)) a b → Changes (Within (is_name_of file)) a b
index_change a b file change =
    changes_as a b (Within (is_index_of file)) (Within (is_name_of file)) change
    (λ x y step name other. step name (or_true (name_eq name (data_name file.number)) (is_index_of file name) other))

-- and so does what changes the data file alone
pub data_change : (a b : View) (file : ListedFile) (name : FileName) → name ≡ data_name file.number → Changes (FileChange name AnyChange) a b → Changes (Within (is_name_of file)) a b
data_change a b file name is change =
    step_within (is_name_of file) name AnyChange a b (ap (λ (n : FileName). is_name_of file n) is ∙ ap (λ (b : Bool). b || is_index_of file (data_name file.number)) (name_itself (data_name file.number))) change

-- nothing is done, as a change of some files
pub within_none : (mine : FileName → Bool) (v : View) → Changes (Within mine) v v
within_none mine v = changes_as v v Same (Within mine) (stays v) (λ x y same name other. ap (λ (f : Folder). get f name) same)

-- ---- one after another

-- The files of the first so many parts are written: these indexes are left, and can be written in the place of the other parts.
pub record HasWritten (start now : View) (number : ℕ) (all left : List GatheredIndex) (parts : List PartNumber) (at : ℕ) : Type 0 where
  pub done : AllByRecursion (HasSyncedIndex now number all) (take at parts)
  pub from : (i : GatheredIndex) → Contains left i → Contains all i
  pub built : AllByRecursion (λ i. IsBuilt i.def) left
  pub gathered : AllByRecursion (λ i. AreSortedPostings i.postings) left
  pub defined : AreAmong left (drop at parts)
  pub absent : AreAbsent now number (drop at parts)
  pub changes : Changes (Within (is_index_of (record { number = number; parts = parts }))) start now
  pub quiet : IsQuiet start now

pub written_none : (v : View) (number : ℕ) (all : List GatheredIndex) (parts : List PartNumber) → AllByRecursion (λ i. IsBuilt i.def) all → AllByRecursion (λ i. AreSortedPostings i.postings) all
    → AreAmong all parts → AreAbsent v number parts → HasWritten v v number all all parts 0
written_none v number all parts built gathered defined absent = record {
  done = tt;
  from = λ i has. has;
  built = built;
  gathered = gathered;
  defined = defined;
  absent = absent;
  changes = within_none (is_index_of (record { number = number; parts = parts })) v;
  quiet = quiet_none v;
}

defined_left : (number : ℕ) (left rest : List GatheredIndex) (taken : GatheredIndex) (parts : List PartNumber) → IsTaken number left taken rest → AllByRecursion (λ p. p.index ≢ number) parts → AreAmong left parts → AreAmong rest parts
defined_left number left rest taken [] is apart defined = tt
defined_left number left rest taken (p ∷ parts) is apart defined = (others_left number p.index left rest taken is apart.0 defined.0, defined_left number left rest taken parts is apart.1 defined.1)

tail_of : {X : Type 0} (P : X → Type 0) (xs : List X) (at : ℕ) → at < length xs → AllByRecursion P (drop at xs) → AllByRecursion P (drop (suc at) xs)
tail_of P [] at lt all = absurd (omega arith)
tail_of P (x ∷ xs) zero lt all = all.1
tail_of P (x ∷ xs) (suc at) lt all = tail_of P xs at (omega arith) all

module _ (start now : View) (number : ℕ) (all left : List GatheredIndex) (parts : List PartNumber) (at : ℕ) (written : HasWritten start now number all left parts at)
    (d : PartNumber) (within : at < length parts) (rest : List GatheredIndex) (taken : GatheredIndex) (is : IsTaken (get_or parts at d).index left taken rest) where
  -- the next one can be written
  pub next_built : IsBuilt taken.def
  next_built = (all_taken (λ i. IsBuilt i.def) (get_or parts at d).index left rest taken is written.built).0

  pub next_gathered : AreSortedPostings taken.postings
  next_gathered = (all_taken (λ i. AreSortedPostings i.postings) (get_or parts at d).index left rest taken is written.gathered).0

  file_is_mine : is_index_of (record { number = number; parts = parts }) (index_name number (get_or parts at d)) ≡ true
  file_is_mine = index_among number parts at d within

  module _ (next : View) (change : Changes (FileChange (index_name number (get_or parts at d)) AnyChange) now next) where
    pub next_changes : Changes (Within (is_index_of (record { number = number; parts = parts }))) start next
    next_changes =
        within_on (is_index_of (record { number = number; parts = parts })) start now next written.changes
        (step_within (is_index_of (record { number = number; parts = parts })) (index_name number (get_or parts at d)) AnyChange now next file_is_mine change)

    -- and then one more is
    pub written_more : IsStrictlySortedBy nat_cmp (numbers parts) → HoldsIndex next (index_name number (get_or parts at d)) taken.def.mode taken.def.kind (stored taken.def.mode taken.postings)
        → IsSynced next (index_name number (get_or parts at d)) → IsQuiet now next → HasWritten start next number all rest parts (at + 1)
    written_more rises holds synced quiet =
        let part = get_or parts at d in
        let more : at + 1 ≡ suc at = omega arith in
        let mine : HasSyncedIndex next number all part = record {
          index = taken;
          listed = written.from taken (taken_there part.index left rest taken is);
          numbered = is.numbered;
          holds = holds;
          synced = synced;
        } in
        record {
          done = subst (λ (n : ℕ). AllByRecursion (HasSyncedIndex next number all) (take n parts)) (sym more)
              (subst (λ (l : List PartNumber). AllByRecursion (HasSyncedIndex next number all) l) (sym (take-suc parts at d within))
              (all_join (HasSyncedIndex next number all) (take at parts) (part ∷ []) (indexes_kept now next number all part (take at parts) (before_apart parts at d within rises) change written.done) (mine, tt)));
          from = λ i has. written.from i (left_there part.index left rest taken is i has);
          built = (all_taken (λ i. IsBuilt i.def) part.index left rest taken is written.built).1;
          gathered = (all_taken (λ i. AreSortedPostings i.postings) part.index left rest taken is written.gathered).1;
          defined = subst (λ (n : ℕ). AreAmong rest (drop n parts)) (sym more)
              (defined_left part.index left rest taken (drop (suc at) parts) is (behind_apart parts at d within rises) (tail_of (λ p. has_index left p.index ≡ true) parts at within written.defined));
          absent = subst (λ (n : ℕ). AreAbsent next number (drop n parts)) (sym more)
              (absent_kept now next number part (drop (suc at) parts) (behind_apart parts at d within rises) change (tail_of (λ p. IsAbsent now (index_name number p)) parts at within written.absent));
          changes = next_changes;
          quiet = quiet_on start now next written.quiet quiet;
        }
