-- Files that were written and synced stay so, while others are written.
use Rattle.std.proofs.Common.{◌≡◌, ◌≢◌, ℕ, zero, suc, ◌<◌, ◌≤◌, List, [], ◌∷◌, length, get_or, map, take, drop, sym, ap, ◌∙◌, arith}
use Rattle.std.specs.List.{AllByRecursion}
use Rattle.std.specs.List.Sorted.{IsStrictlySortedBy}
use Rattle.std.specs.Ordering.{nat_cmp}
use Rattle.std.specs.declared.cmp.Ordering.TheVariants.{Less, Equal}
use Rattle.std.proofs.lemmas.Cmp.{nat_cmp_total, tied_itself}
use Rattle.std.specs.Cmp.{nat_cmp_is}
use Rattle.std.specs.FinMap.{get}
use Rattle.sasi_host.specs.declared.name.FileName.{FileName}
use Rattle.sasi_host.specs.Names.{Folder}
use Rattle.sasi_host.specs.View.{View}
use Rattle.sasi_host.specs.Disk.{AnyChange, Changes, FileChange, IsSynced, Relation}
use Rattle.sasi_host.proofs.ContentLaws.{contents_kept, holds_where}
use Rattle.sasi_manifest.specs.declared.files.PartNumber.{PartNumber}
use Rattle.sasi_manifest.specs.ListedFiles.{IndexesRise, NumbersRise, index_name}
use Rattle.sasi_pairs.specs.Gathered.{GatheredIndex}
use Rattle.sasi_pairs.specs.SealedFiles.{AreAbsent, HasSyncedIndex}

-- a synced file stays so, where each change of the folder leaves it
pub synced_kept : (a b : View) (S : Relation) (name : FileName) → ((x y : Folder) → S x y → get y name ≡ get x name) → Changes S a b → IsSynced a name → IsSynced b name
synced_kept a b S name keeps change synced folder left read now reads there =
    let was = change.image folder now in
    synced was.0 left read was.1 (sym (contents_kept a b S name keeps change) ∙ reads) (sym (keeps was.0 folder was.2) ∙ there)

-- and so does a synced index file
pub index_kept : (a b : View) (S : Relation) (number : ℕ) (indexes : List GatheredIndex) (p : PartNumber) → ((x y : Folder) → S x y → get y (index_name number p) ≡ get x (index_name number p))
    → Changes S a b → HasSyncedIndex a number indexes p → HasSyncedIndex b number indexes p
index_kept a b S number indexes p keeps change has = record {
  index = has.index;
  listed = has.listed;
  numbered = has.numbered;
  holds = record {
    bytes = has.holds.bytes;
    is_index = has.holds.is_index;
    holds = holds_where a b S (index_name number p) has.holds.bytes change (contents_kept a b S (index_name number p) keeps change) has.holds.holds;
  };
  synced = synced_kept a b S (index_name number p) keeps change has.synced;
}

-- ---- parts of different indexes

other_part : (number : ℕ) (p q : PartNumber) → p.index ≢ q.index → index_name number p ≢ index_name number q
other_part number p q apart same = apart (ap (λ (n : FileName). n.index) same)

-- those that are there stay so while the file of another part is written
pub indexes_kept : (a b : View) (number : ℕ) (indexes : List GatheredIndex) (part : PartNumber) (parts : List PartNumber) → AllByRecursion (λ p. p.index ≢ part.index) parts
    → Changes (FileChange (index_name number part) AnyChange) a b → AllByRecursion (HasSyncedIndex a number indexes) parts → AllByRecursion (HasSyncedIndex b number indexes) parts
indexes_kept a b number indexes part [] apart change has = tt
indexes_kept a b number indexes part (p ∷ parts) apart change has = (
  index_kept a b (FileChange (index_name number part) AnyChange) number indexes p (λ x y step. step.others (index_name number p) (other_part number p part apart.0)) change has.0,
  indexes_kept a b number indexes part parts apart.1 change has.1,
)

-- and those that aren't there stay away
pub absent_kept : (a b : View) (number : ℕ) (part : PartNumber) (parts : List PartNumber) → AllByRecursion (λ p. p.index ≢ part.index) parts
    → Changes (FileChange (index_name number part) AnyChange) a b → AreAbsent a number parts → AreAbsent b number parts
absent_kept a b number part [] apart change absent = tt
absent_kept a b number part (p ∷ parts) apart change absent = (
  contents_kept a b (FileChange (index_name number part) AnyChange) (index_name number p) (λ x y step. step.others (index_name number p) (other_part number p part apart.0)) change ∙ absent.0,
  absent_kept a b number part parts apart.1 change absent.1,
)

not_less : (m n : ℕ) → nat_cmp m n ≡ Less → m ≢ n
not_less m n less same =
    let tied : nat_cmp m m ≡ Equal = tied_itself nat_cmp_total m in
    let here : nat_cmp m m ≡ Less = ap (nat_cmp m) same ∙ less in
    cc

abbrev pub numbers : List PartNumber → List ℕ
numbers parts = map (λ (p : PartNumber). p.index) parts

below_each : (n : ℕ) (parts : List PartNumber) → AllByRecursion (λ y. nat_cmp n y ≡ Less) (numbers parts) → AllByRecursion (λ p. p.index ≢ n) parts
below_each n [] all = tt
below_each n (p ∷ parts) all = ((λ same. not_less n p.index all.0 (sym same)), below_each n parts all.1)

below_at : (n : ℕ) (parts : List PartNumber) (at : ℕ) (d : PartNumber) → at < length parts → AllByRecursion (λ y. nat_cmp n y ≡ Less) (numbers parts) → n ≢ (get_or parts at d).index
below_at n [] at d lt all = absurd (omega arith)
below_at n (p ∷ parts) zero d lt all = not_less n p.index all.0
below_at n (p ∷ parts) (suc at) d lt all = below_at n parts at d (omega arith) all.1

-- the parts before one, and those behind it, are of other indexes
pub before_apart : (parts : List PartNumber) (at : ℕ) (d : PartNumber) → at < length parts → IsStrictlySortedBy nat_cmp (numbers parts) → AllByRecursion (λ p. p.index ≢ (get_or parts at d).index) (take at parts)
unfolding IsStrictlySortedBy
before_apart [] at d lt rises = absurd (omega arith)
before_apart (p ∷ parts) zero d lt rises = tt
before_apart (p ∷ parts) (suc at) d lt rises = (below_at p.index parts at d (omega arith) rises.0, before_apart parts at d (omega arith) rises.1)

pub behind_apart : (parts : List PartNumber) (at : ℕ) (d : PartNumber) → at < length parts → IsStrictlySortedBy nat_cmp (numbers parts) → AllByRecursion (λ p. p.index ≢ (get_or parts at d).index) (drop (suc at) parts)
unfolding IsStrictlySortedBy
behind_apart [] at d lt rises = absurd (omega arith)
behind_apart (p ∷ parts) zero d lt rises = below_each p.index parts rises.0
behind_apart (p ∷ parts) (suc at) d lt rises = behind_apart parts at d (omega arith) rises.1

rise_above : (low high : ℕ) (parts : List PartNumber) → low ≤ high → NumbersRise high (numbers parts) → NumbersRise low (numbers parts)
rise_above low high [] le rise = tt
rise_above low high (p ∷ parts) le rise = (omega (arith, rise.0), rise.1)

each_above : (n : ℕ) (parts : List PartNumber) → NumbersRise n (numbers parts) → AllByRecursion (λ y. nat_cmp n y ≡ Less) (numbers parts)
each_above n [] rise = tt
each_above n (p ∷ parts) rise = (sym (nat_cmp_is n p.index Less rise.0), each_above n parts (rise_above n p.index parts (omega (arith, rise.0)) rise.1))

-- numbers that rise are in their order
pub sorted_of_rising : (parts : List PartNumber) → IndexesRise parts → IsStrictlySortedBy nat_cmp (numbers parts)
unfolding IsStrictlySortedBy
sorted_of_rising [] rise = tt
sorted_of_rising (p ∷ []) rise = (tt, tt)
sorted_of_rising (p ∷ q ∷ parts) rise = (each_above p.index (q ∷ parts) rise, sorted_of_rising (q ∷ parts) rise.1)
