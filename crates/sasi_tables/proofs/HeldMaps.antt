-- The maps of tables: what a change of one leaves of them.
use Rattle.std.proofs.Common.{◌≡◌, ℕ, Bool, zero, suc, ◌<◌, ◌≤◌, true, false, nat_eq, List, [], ◌∷◌, ◌++◌, length, map, set, slice_get, Option, None, Some, refl, sym, ap, subst, ◌∙◌, inl, inr, ⊎_elim, arith, length-append}
use Rattle.std.specs.Prelude.{◌⊎◌, Contains}
use Rattle.std.specs.FinMap.{get}
use Rattle.std.specs.Option.{option_map_or}
use Rattle.std.proofs.lemmas.Bool.Decides.{nat_tests}
use Rattle.std.proofs.lemmas.List.{map-append}
use Rattle.std.proofs.lemmas.List.Elements.{Contains-append_cases, Contains-append_left, Contains-append_right, Contains-push, Contains-push_cases}
use Rattle.std.specs.List.{AllByRecursion}
use Rattle.sasi_memindex.specs.declared.map_part.MapPart.{MapPart}
use Rattle.sasi_memindex.specs.Book.{Book}
use Rattle.sasi_memtable.specs.MemtableView.{empty_memtable}
use Rattle.sasi_types.specs.declared.partitioner.Partitioner.TheVariants.{Lead8}
use Rattle.sasi_tables.specs.declared.table_maps.TableMaps.{TableMaps}
use Rattle.sasi_tables.specs.Held.{AreMapped, HasIndexes, HeldTable, IsIndexed, OthersStay, Rise, Subject, held_by, held_of, in_memory, map_in, maps_with, numbers_of, partitions_of, unflushed_maps}
use Rattle.sasi_model.specs.Abbreviations.{Partitions}
use Rattle.sasi_tables.proofs.TablesInMemory.{all_push, inside_there, length_set, there_inside}

-- ---- lists

-- an item of a list with one item set
pub set_there : {A : Type 0} (xs : List A) (at : ℕ) (new : A) (i : ℕ) (x : A) → slice_get (set xs at new) i ≡ Some x → ((i ≡ at) × (x ≡ new)) ⊎ ((i ≡ at → ⊥) × (slice_get xs i ≡ Some x))
set_there [] at new i x e = cc
set_there (y ∷ xs) zero new zero x e = let same : new ≡ x = cc in inl (refl, sym same)
set_there (y ∷ xs) zero new (suc i) x e = inr ((λ s. cc), e)
set_there (y ∷ xs) (suc at) new zero x e = inr ((λ s. cc), e)
set_there (y ∷ xs) (suc at) new (suc i) x e =
    ⊎_elim (λ here. inl (ap (λ k. suc k) here.0, here.1)) (λ there. inr ((λ s. there.0 (omega (arith, s))), there.1)) (set_there xs at new i x e)

-- the items but one, and that one
pub set_other : {A : Type 0} (xs : List A) (at : ℕ) (y : A) (i : ℕ) → (i ≡ at → ⊥) → slice_get (set xs at y) i ≡ slice_get xs i
set_other [] at y i differ = refl
set_other (x ∷ xs) zero y zero differ = absurd (differ refl)
set_other (x ∷ xs) zero y (suc i) differ = refl
set_other (x ∷ xs) (suc at) y zero differ = refl
set_other (x ∷ xs) (suc at) y (suc i) differ = set_other xs at y i (λ same. differ (ap (λ k. suc k) same))

pub set_at : {A : Type 0} (xs : List A) (at : ℕ) (x y : A) → slice_get xs at ≡ Some x → slice_get (set xs at y) at ≡ Some y
set_at [] at x y there = cc
set_at (z ∷ xs) zero x y there = refl
set_at (z ∷ xs) (suc at) x y there = set_at xs at x y there

-- an item of a list with one item more
pub push_there : {A : Type 0} (xs : List A) (new : A) (i : ℕ) (x : A) → slice_get (xs ++ new ∷ []) i ≡ Some x → ((i ≡ length xs) × (x ≡ new)) ⊎ ((i < length xs) × (slice_get xs i ≡ Some x))
push_there [] new zero x e = let same : new ≡ x = cc in inl (refl, sym same)
push_there [] new (suc i) x e = cc
push_there (y ∷ xs) new zero x e = inr (omega arith, e)
push_there (y ∷ xs) new (suc i) x e =
    ⊎_elim (λ here. inl (ap (λ k. suc k) here.0, here.1)) (λ there. inr (omega (arith, there.0), there.1)) (push_there xs new i x e)

pub one_there : {A : Type 0} (x y : A) (o : Option A) → o ≡ Some x → o ≡ Some y → x ≡ y
one_there x y o first second = cc

-- ---- numbers

pub other_number : (a b : ℕ) → (a ≡ b → ⊥) → nat_eq a b ≡ false
other_number a b differ = by (nat_eq a b) refl
  where
    by : (t : Bool) → nat_eq a b ≡ t → t ≡ false
    by true is = absurd (differ (grind (arith, nat_tests)))
    by false is = refl

-- ---- lists of numbers

pub first_in : (n : ℕ) (ns : List ℕ) → Contains (n ∷ ns) n
first_in n ns = (0, omega arith, refl)

pub later_in : (n : ℕ) (ns : List ℕ) (k : ℕ) → Contains ns k → Contains (n ∷ ns) k
later_in n ns k has = Contains-append_right (n ∷ []) ns k has

pub none_in : (k : ℕ) → Contains [] k → ⊥
none_in k has = absurd (omega (arith, has.1))

pub only_in : (n k : ℕ) → Contains (n ∷ []) k → n ≡ k
only_in n k has = ⊎_elim (λ (none : Contains [] k). absurd (none_in k none)) (λ (same : n ≡ k). same) (Contains-push_cases [] n k has)

-- a number of all of which something holds
all_in : (P : ℕ → Type 0) (ns : List ℕ) (k : ℕ) → AllByRecursion P ns → Contains ns k → P k
all_in P [] k all has = absurd (none_in k has)
all_in P (n ∷ ns) k all has =
    ⊎_elim (λ (here : Contains (n ∷ []) k). subst P (only_in n k here) all.0) (λ (later : Contains ns k). all_in P ns k all.1 later) (Contains-append_cases (n ∷ []) ns k has)

pub in_all : (P : ℕ → Type 0) (ns : List ℕ) → ((k : ℕ) → Contains ns k → P k) → AllByRecursion P ns
in_all P [] each = tt
in_all P (n ∷ ns) each = (each n (first_in n ns), in_all P ns (λ k has. each k (later_in n ns k has)))

-- the last of rising numbers is above the others
pub rise_last : (ns : List ℕ) (last k : ℕ) → Rise (ns ++ last ∷ []) → Contains ns k → k < last
rise_last [] last k rise has = absurd (none_in k has)
rise_last (n ∷ ns) last k rise has =
    ⊎_elim (λ (here : Contains (n ∷ []) k). subst (λ i. i < last) (only_in n k here) (all_in (λ i. n < i) (ns ++ last ∷ []) last rise.0 (Contains-push ns last)))
    (λ (later : Contains ns k). rise_last ns last k rise.1 later)
    (Contains-append_cases (n ∷ []) ns k has)

pub rise_push : (ns : List ℕ) (last : ℕ) → Rise ns → ((k : ℕ) → Contains ns k → k < last) → Rise (ns ++ last ∷ [])
rise_push [] last rise below = (tt, tt)
rise_push (n ∷ ns) last rise below =
    (all_push (λ k. n < k) ns last rise.0 (below n (first_in n ns)), rise_push ns last rise.1 (λ k has. below k (later_in n ns k has)))

-- what all frozen maps and the memtable have, each map has
pub numbers_all : (P : Partitions → Type 0) (book : Book) (t : TableMaps) → AllByRecursion P (partitions_of (map (map_in book) t.frozen)) → P (map_in book t.memtable).partitions → (number : ℕ) → Contains (numbers_of t) number → P (map_in book number).partitions
numbers_all P book t frozen memtable number has =
    ⊎_elim (λ (old : Contains t.frozen number). all_in (λ n. P (map_in book n).partitions) t.frozen number (each t.frozen frozen) old)
    (λ (same : t.memtable ≡ number). subst (λ n. P (map_in book n).partitions) same memtable)
    (Contains-push_cases t.frozen t.memtable number has)
  where
    each : (ns : List ℕ) → AllByRecursion P (partitions_of (map (map_in book) ns)) → AllByRecursion (λ n. P (map_in book n).partitions) ns
    each [] all = tt
    each (n ∷ ns) all = (all.0, each ns all.1)

-- the maps of a table are those of its numbers
pub unflushed_numbers : (book : Book) (t : TableMaps) → maps_with book (numbers_of t) ≡ unflushed_maps (in_memory (held_by book t))
unflushed_numbers book t = map-append (λ n. (map_in book n).partitions) t.frozen (t.memtable ∷ []) ∙ ap (λ (l : List Partitions). l ++ (map_in book t.memtable).partitions ∷ []) (each t.frozen)
  where
    each : (ns : List ℕ) → maps_with book ns ≡ partitions_of (map (map_in book) ns)
    each [] = refl
    each (n ∷ ns) = ap (λ (l : List Partitions). (map_in book n).partitions ∷ l) (each ns)

-- ---- the maps

-- the maps of all tables but the one at a position stay
abbrev pub OtherTablesStay : ℕ → List TableMaps → Book → Book → Type 0
OtherTablesStay at ts book after = (i : ℕ) (x : TableMaps) (number : ℕ) → (i ≡ at → ⊥) → slice_get ts i ≡ Some x → Contains (numbers_of x) number → get after number ≡ get book number

-- maps that stay
map_same : (book after : Book) (number : ℕ) → get after number ≡ get book number → map_in after number ≡ map_in book number
map_same book after number same = ap (λ (o : Option MapPart). option_map_or (λ (part : MapPart). part.map) o (empty_memtable Lead8)) same

pub maps_same : (book after : Book) (ns : List ℕ) → ((number : ℕ) → Contains ns number → get after number ≡ get book number) → map (map_in after) ns ≡ map (map_in book) ns
maps_same book after [] same = refl
maps_same book after (n ∷ ns) same =
    let here = map_same book after n (same n (first_in n ns)) in
    let rest = maps_same book after ns (λ k has. same k (later_in n ns k has)) in
    λ i. here i ∷ rest i

-- a table's maps that stay
held_same : (book after : Book) (t : TableMaps) → ((number : ℕ) → Contains (numbers_of t) number → get after number ≡ get book number) → held_by after t ≡ held_by book t
held_same book after t same =
    let frozen = maps_same book after t.frozen (λ n has. same n (Contains-append_left t.frozen (t.memtable ∷ []) n has)) in
    let memtable = map_same book after t.memtable (same t.memtable (Contains-push t.frozen t.memtable)) in
    λ i. record { number = t.number; frozen = frozen i; memtable = memtable i; first = t.first }

-- all stay
pub held_stay : (book after : Book) (ts : List TableMaps) → ((i : ℕ) (x : TableMaps) (number : ℕ) → slice_get ts i ≡ Some x → Contains (numbers_of x) number → get after number ≡ get book number) → held_of after ts ≡ held_of book ts
held_stay book after [] same = refl
held_stay book after (t ∷ ts) same =
    let here = held_same book after t (λ n has. same 0 t n refl has) in
    let rest = held_stay book after ts (λ i x n there has. same (suc i) x n there has) in
    λ i. here i ∷ rest i

-- the maps of one table change
pub held_set : (book after : Book) (ts : List TableMaps) (at : ℕ) (t new : TableMaps) → slice_get ts at ≡ Some t → OtherTablesStay at ts book after → held_of after (set ts at new) ≡ set (held_of book ts) at (held_by after new)
held_set book after [] at t new there others = cc
held_set book after (z ∷ ts) zero t new there others =
    let rest = held_stay book after ts (λ i x n found has. others (suc i) x n (λ same. cc) found has) in
    ap (λ (l : List HeldTable). held_by after new ∷ l) rest
held_set book after (z ∷ ts) (suc at) t new there others =
    let here = held_same book after z (λ n has. others 0 z n (λ same. cc) refl has) in
    let rest = held_set book after ts at t new there (λ i x n differ found has. others (suc i) x n (λ same. differ (omega (arith, same))) found has) in
    λ i. here i ∷ rest i

-- what is held at a position
pub held_there : (book : Book) (ts : List TableMaps) (at : ℕ) (t : TableMaps) → slice_get ts at ≡ Some t → slice_get (held_of book ts) at ≡ Some (held_by book t)
held_there book [] at t there = cc
held_there book (z ∷ ts) zero t there = let same : z ≡ t = cc in ap (λ (k : TableMaps). Some (held_by book k)) same
held_there book (z ∷ ts) (suc at) t there = held_there book ts at t there

pub held_numbers : (book : Book) (ts : List TableMaps) → map (λ (t : HeldTable). t.number) (held_of book ts) ≡ map (λ (t : TableMaps). t.number) ts
held_numbers book [] = refl
held_numbers book (t ∷ ts) = ap (λ (l : List ℕ). t.number ∷ l) (held_numbers book ts)

pub held_length : (book : Book) (ts : List TableMaps) → length (held_of book ts) ≡ length ts
held_length book [] = refl
held_length book (t ∷ ts) = ap (λ k. suc k) (held_length book ts)

-- ---- their indexes

-- a map that has indexes is there
pub indexed_there : (wanted : List Subject) (o : Option MapPart) → HasIndexes wanted o → (part : MapPart) × (o ≡ Some part) × IsIndexed wanted part
indexed_there wanted None has = absurd has
indexed_there wanted (Some part) has = (part, refl, has)

module _ (book : Book) (last : ℕ) (wanted : List (List Subject)) (ts : List TableMaps) (mapped : AreMapped book last wanted ts) where
  -- each map of a table is there, with its indexes
  pub mapped_there : (at : ℕ) (t : TableMaps) → slice_get ts at ≡ Some t → (number : ℕ) → Contains (numbers_of t) number → (part : MapPart) × (subjects : List Subject) × (slice_get wanted at ≡ Some subjects) × (get book number ≡ Some part) × IsIndexed subjects part
  mapped_there at t there number own =
      let found = inside_there wanted at (omega (arith, mapped.counted, there_inside ts at t there)) in
      let has = indexed_there found.0 (get book number) (mapped.indexed at t found.0 number there found.1 own) in
      (has.0, found.0, found.1, has.1, has.2)

  -- a change of one map of a table leaves those of the other tables
  pub others_stay : (after : Book) (at : ℕ) (t : TableMaps) (number : ℕ) → slice_get ts at ≡ Some t → Contains (numbers_of t) number → OthersStay number book after → OtherTablesStay at ts book after
  others_stay after at t number there own others i x n differ found has =
      others n (other_number n number (λ same. differ (mapped.apart i at x t n found there has (subst (λ k. Contains (numbers_of t) k) (sym same) own))))

  -- and so does that of a map under a new number
  pub news_stay : (after : Book) (number : ℕ) → last < number → OthersStay number book after → (i : ℕ) (x : TableMaps) (n : ℕ) → slice_get ts i ≡ Some x → Contains (numbers_of x) n → get after n ≡ get book n
  news_stay after number new others i x n found has = others n (other_number n number (λ same. absurd (omega (arith, same, new, mapped.used i x n found has))))

  -- All maps stay.
  pub mapped_stay : (after : Book) → ((i : ℕ) (x : TableMaps) (number : ℕ) → slice_get ts i ≡ Some x → Contains (numbers_of x) number → get after number ≡ get book number) → AreMapped after last wanted ts
  mapped_stay after same = record {
    counted = mapped.counted;
    apart = mapped.apart;
    rising = mapped.rising;
    used = mapped.used;
    indexed = λ i x subjects n one two has. subst (HasIndexes subjects) (sym (same i x n one has)) (mapped.indexed i x subjects n one two has);
  }

  -- The maps of one table change, and their indexes with them. It has no others but its own and new ones.
  pub mapped_set : (after : Book) (most : ℕ) (also : List (List Subject)) (at : ℕ) (t new : TableMaps) → slice_get ts at ≡ Some t → last ≤ most
      → ((number : ℕ) → Contains (numbers_of new) number → Contains (numbers_of t) number ⊎ ((last < number) × (number ≤ most))) → Rise (numbers_of new) → OtherTablesStay at ts book after → length also ≡ length wanted
      → ((i : ℕ) → (i ≡ at → ⊥) → slice_get also i ≡ slice_get wanted i) → ((subjects : List Subject) (number : ℕ) → slice_get also at ≡ Some subjects → Contains (numbers_of new) number → HasIndexes subjects (get after number))
      → AreMapped after most also (set ts at new)
  mapped_set after most also at t new there le own rise others counted same has = record {
    counted = counted ∙ mapped.counted ∙ sym (length_set ts at new);
    apart = λ i j x y n one two first second.
        ⊎_elim (λ (here : (i ≡ at) × (x ≡ new)).
        ⊎_elim (λ (also : (j ≡ at) × (y ≡ new)). here.0 ∙ sym also.0)
        (λ (kept : (j ≡ at → ⊥) × (slice_get ts j ≡ Some y)). here.0 ∙ sym (one_of j y n kept.1 second (in_new x n here.1 first)))
        (set_there ts at new j y two))
        (λ (kept : (i ≡ at → ⊥) × (slice_get ts i ≡ Some x)).
        ⊎_elim (λ (also : (j ≡ at) × (y ≡ new)). one_of i x n kept.1 first (in_new y n also.1 second) ∙ sym also.0)
        (λ (both : (j ≡ at → ⊥) × (slice_get ts j ≡ Some y)). mapped.apart i j x y n kept.1 both.1 first second)
        (set_there ts at new j y two))
        (set_there ts at new i x one);
    rising = λ i x one.
        ⊎_elim (λ (here : (i ≡ at) × (x ≡ new)). subst (λ (r : TableMaps). Rise (numbers_of r)) (sym here.1) rise)
        (λ (kept : (i ≡ at → ⊥) × (slice_get ts i ≡ Some x)). mapped.rising i x kept.1)
        (set_there ts at new i x one);
    used = λ i x n one first.
        ⊎_elim (λ (here : (i ≡ at) × (x ≡ new)).
        ⊎_elim (λ (old : Contains (numbers_of t) n). omega (arith, le, mapped.used at t n there old)) (λ (more : (last < n) × (n ≤ most)). more.1) (own n (in_new x n here.1 first)))
        (λ (kept : (i ≡ at → ⊥) × (slice_get ts i ≡ Some x)). omega (arith, le, mapped.used i x n kept.1 first))
        (set_there ts at new i x one);
    indexed = λ i x subjects n one two first.
        ⊎_elim (λ (here : (i ≡ at) × (x ≡ new)). has subjects n (subst (λ k. slice_get also k ≡ Some subjects) here.0 two) (in_new x n here.1 first))
        (λ (kept : (i ≡ at → ⊥) × (slice_get ts i ≡ Some x)).
        subst (HasIndexes subjects) (sym (others i x n kept.0 kept.1 first)) (mapped.indexed i x subjects n kept.1 (sym (same i kept.0) ∙ two) first))
        (set_there ts at new i x one);
  }
    where
      in_new : (x : TableMaps) (n : ℕ) → x ≡ new → Contains (numbers_of x) n → Contains (numbers_of new) n
      in_new x n is first = subst (λ (r : TableMaps). Contains (numbers_of r) n) is first

      one_of : (j : ℕ) (y : TableMaps) (n : ℕ) → slice_get ts j ≡ Some y → Contains (numbers_of y) n → Contains (numbers_of new) n → j ≡ at
      one_of j y n found second first =
          ⊎_elim (λ (old : Contains (numbers_of t) n). mapped.apart j at y t n found there second old)
          (λ (more : (last < n) × (n ≤ most)). absurd (omega (arith, more.0, mapped.used j y n found second)))
          (own n first)

  -- One table more has a map under the next number, and no other.
  pub mapped_push : (after : Book) (subjects : List Subject) (new : TableMaps) → numbers_of new ≡ suc last ∷ [] → OthersStay (suc last) book after → HasIndexes subjects (get after (suc last)) → AreMapped after (suc last) (wanted ++ subjects ∷ []) (ts ++ new ∷ [])
  mapped_push after subjects new number others has = record {
    counted = omega (arith, mapped.counted, length-append wanted (subjects ∷ []), length-append ts (new ∷ []));
    apart = λ i j x y n one two first second.
        ⊎_elim (λ (here : (i ≡ length ts) × (x ≡ new)).
        ⊎_elim (λ (also : (j ≡ length ts) × (y ≡ new)). here.0 ∙ sym also.0)
        (λ (old : (j < length ts) × (slice_get ts j ≡ Some y)). absurd (omega (arith, mapped.used j y n old.1 second, is_new x n here.1 first)))
        (push_there ts new j y two))
        (λ (was : (i < length ts) × (slice_get ts i ≡ Some x)).
        ⊎_elim (λ (also : (j ≡ length ts) × (y ≡ new)). absurd (omega (arith, mapped.used i x n was.1 first, is_new y n also.1 second)))
        (λ (old : (j < length ts) × (slice_get ts j ≡ Some y)). mapped.apart i j x y n was.1 old.1 first second)
        (push_there ts new j y two))
        (push_there ts new i x one);
    rising = λ i x one.
        ⊎_elim (λ (here : (i ≡ length ts) × (x ≡ new)). subst Rise (sym (ap numbers_of here.1 ∙ number)) (tt, tt))
        (λ (was : (i < length ts) × (slice_get ts i ≡ Some x)). mapped.rising i x was.1)
        (push_there ts new i x one);
    used = λ i x n one first.
        ⊎_elim (λ (here : (i ≡ length ts) × (x ≡ new)). omega (arith, is_new x n here.1 first))
        (λ (was : (i < length ts) × (slice_get ts i ≡ Some x)). omega (arith, mapped.used i x n was.1 first))
        (push_there ts new i x one);
    indexed = λ i x found n one two first.
        ⊎_elim (λ (here : (i ≡ length ts) × (x ≡ new)).
        ⊎_elim (λ (also : (i ≡ length wanted) × (found ≡ subjects)).
        subst (λ (s : List Subject). HasIndexes s (get after n)) (sym also.1) (subst (λ (k : ℕ). HasIndexes subjects (get after k)) (is_new x n here.1 first) has))
        (λ (old : (i < length wanted) × (slice_get wanted i ≡ Some found)). absurd (omega (arith, here.0, old.0, mapped.counted)))
        (push_there wanted subjects i found two))
        (λ (was : (i < length ts) × (slice_get ts i ≡ Some x)).
        ⊎_elim (λ (also : (i ≡ length wanted) × (found ≡ subjects)). absurd (omega (arith, also.0, was.0, mapped.counted)))
        (λ (old : (i < length wanted) × (slice_get wanted i ≡ Some found)).
        subst (HasIndexes found) (sym (news_stay after (suc last) (omega arith) others i x n was.1 first)) (mapped.indexed i x found n was.1 old.1 first))
        (push_there wanted subjects i found two))
        (push_there ts new i x one);
  }
    where
      is_new : (x : TableMaps) (n : ℕ) → x ≡ new → Contains (numbers_of x) n → suc last ≡ n
      is_new x n is first = only_in (suc last) n (subst (λ (l : List ℕ). Contains l n) (ap numbers_of is ∙ number) first)

  -- the maps before it stay
  pub held_push : (after : Book) (new : TableMaps) → OthersStay (suc last) book after → held_of after (ts ++ new ∷ []) ≡ held_of book ts ++ held_by after new ∷ []
  held_push after new others =
      map-append (held_by after) ts (new ∷ [])
      ∙ ap (λ (l : List HeldTable). l ++ held_by after new ∷ []) (held_stay book after ts (news_stay after (suc last) (omega arith) others))
