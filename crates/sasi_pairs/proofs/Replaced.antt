-- Lists of indexes, of which the first so many were changed, or one was taken out.
use Rattle.std.proofs.Common.{◌≡◌, ◌≢◌, ℕ, zero, suc, ◌+◌, ◌<◌, ◌≤◌, List, [], ◌∷◌, ◌++◌, Bool, true, false, length, get_or, map, take, drop, sym, ap, ◌∙◌, subst, refl, arith, ⊎_elim}
use Rattle.std.specs.Prelude.{slice_set, nat_eq, Option, None, Some, Contains, if◌then◌else◌, ◌||◌}
use Rattle.std.specs.List.{AllByRecursion, list_any, position, position_from}
use Rattle.std.proofs.Math.Seq.{drop-cons, map-set_same}
use Rattle.std.proofs.lemmas.Bool.{eqb-true}
use Rattle.std.proofs.lemmas.Iterator.Adapters.{position_from-zero}
use Rattle.std.proofs.lemmas.List.{append-nil, drop_all, length-map, take-append-drop, take_all}
use Rattle.std.proofs.lemmas.List.Elements.{Contains-append_cases, Contains-append_left, Contains-append_right, Contains-get_or}
use Rattle.std.proofs.lemmas.List.Quantifiers.{position-Some}
use Rattle.sasi_types.specs.declared.class.Class.{Class}
use Rattle.sasi_types.specs.declared.index_def.IndexDef.{IndexDef}
use Rattle.sasi_types.specs.declared.tree.Pair.{Pair}
use Rattle.sasi_manifest.specs.declared.files.PartNumber.{PartNumber}
use Rattle.sasi_model.specs.Cells.{Partition}
use Rattle.sasi_memindex.specs.Book.{IsMissing}
use Rattle.sasi_indexwrite.proofs.Lists.{all_at}
use Rattle.sasi_pairs.specs.Gathered.{CanTake, GatheredIndex, LacksClass, defs_of, with_partition}
use Rattle.sasi_pairs.specs.SealedFiles.{AreAmong, AreDefined, IsTaken, has_index}

-- ---- the first so many

module _ {X : Type 0} (f : X → X) where
  replaced_at : (xs : List X) (at : ℕ) (d : X) → at < length xs → get_or (map f (take at xs) ++ drop at xs) at d ≡ get_or xs at d
  replaced_at [] at d lt = absurd (omega arith)
  replaced_at (x ∷ xs) zero d lt = refl
  replaced_at (x ∷ xs) (suc at) d lt = replaced_at xs at d (omega arith)

  replaced_more : (xs : List X) (at : ℕ) (d : X) → at < length xs → slice_set (map f (take at xs) ++ drop at xs) at (f (get_or xs at d)) ≡ map f (take (suc at) xs) ++ drop (suc at) xs
  replaced_more [] at d lt = absurd (omega arith)
  replaced_more (x ∷ xs) zero d lt = refl
  replaced_more (x ∷ xs) (suc at) d lt = ap (λ (l : List X). f x ∷ l) (replaced_more xs at d (omega arith))

  replaced_length : (xs : List X) (at : ℕ) → length (map f (take at xs) ++ drop at xs) ≡ length xs
  replaced_length [] zero = refl
  replaced_length [] (suc at) = refl
  replaced_length (x ∷ xs) zero = refl
  replaced_length (x ∷ xs) (suc at) = ap (λ (n : ℕ). suc n) (replaced_length xs at)

  replaced_all : (xs : List X) (at : ℕ) → length xs ≤ at → map f (take at xs) ++ drop at xs ≡ map f xs
  replaced_all xs at past = ap (λ (l : List X). map f l ++ drop at xs) (take_all at xs past) ∙ ap (λ (l : List X). map f xs ++ l) (drop_all at xs past) ∙ append-nil (map f xs)

-- ---- definitions

-- what holds of each definition
pub all_of_defs : (P : IndexDef → Type 0) (indexes : List GatheredIndex) → AllByRecursion P (defs_of indexes) → AllByRecursion (λ i. P i.def) indexes
all_of_defs P [] all = tt
all_of_defs P (i ∷ indexes) all = (all.0, all_of_defs P indexes all.1)

pub defs_of_all : (P : IndexDef → Type 0) (indexes : List GatheredIndex) → AllByRecursion (λ i. P i.def) indexes → AllByRecursion P (defs_of indexes)
defs_of_all P [] all = tt
defs_of_all P (i ∷ indexes) all = (all.0, defs_of_all P indexes all.1)

-- the definition of an index is among those of all
pub def_contained : (indexes : List GatheredIndex) (i : GatheredIndex) → Contains indexes i → Contains (defs_of indexes) i.def
def_contained indexes i has =
    (has.0, omega (arith, has.1, length-map indexes (λ (j : GatheredIndex). j.def)), def_at indexes has.0 has.1 ∙ ap (λ (j : GatheredIndex). j.def) has.2)
  where
    def_at : (xs : List GatheredIndex) (k : ℕ) → k < length xs → get_or (defs_of xs) k i.def ≡ (get_or xs k i).def
    def_at [] k lt = absurd (omega arith)
    def_at (x ∷ xs) zero lt = refl
    def_at (x ∷ xs) (suc k) lt = def_at xs k (omega arith)

among : (number : ℕ) (indexes : List GatheredIndex) → list_any (λ (def : IndexDef). nat_eq number def.number) (defs_of indexes) ≡ has_index indexes number
among number [] = refl
among number (i ∷ indexes) = ap (λ (b : Bool). nat_eq number i.def.number || b) (among number indexes)

-- parts of definitions are parts of indexes
pub parts_among : (indexes : List GatheredIndex) (parts : List PartNumber) → AreDefined (defs_of indexes) parts → AreAmong indexes parts
parts_among indexes [] all = tt
parts_among indexes (p ∷ parts) all = (sym (among p.index indexes) ∙ all.0, parts_among indexes parts all.1)

-- ---- one more of them takes a partition

-- the definitions stay
pub defs_set : (xs : List GatheredIndex) (at : ℕ) (new d : GatheredIndex) → new.def ≡ (get_or xs at d).def → defs_of (slice_set xs at new) ≡ defs_of xs
defs_set xs at new d same = map-set_same (λ (i : GatheredIndex). i.def) xs at new d same

module _ (pair : Pair) (part : Partition) (all xs : List GatheredIndex) (at : ℕ) (filled : xs ≡ map (with_partition pair part) (take at all) ++ drop at all) where
  same_length : length xs ≡ length all
  same_length = ap (λ (l : List GatheredIndex). length l) filled ∙ replaced_length (with_partition pair part) all at

  pub filled_all : length xs ≤ at → xs ≡ map (with_partition pair part) all
  filled_all past = filled ∙ replaced_all (with_partition pair part) all at (omega (arith, same_length))

  module _ (d : GatheredIndex) (within : at < length xs) where
    inside : at < length all
    inside = omega (arith, within, same_length)

    same : get_or xs at d ≡ get_or all at d
    same = ap (λ (l : List GatheredIndex). get_or l at d) filled ∙ replaced_at (with_partition pair part) all at d inside

    pub can_take : AllByRecursion (CanTake part) all → CanTake part (get_or xs at d)
    can_take can = subst (λ (i : GatheredIndex). CanTake part i) (sym same) (all_at (CanTake part) all d at inside can)

    pub filled_more : (new : GatheredIndex) → new ≡ with_partition pair part (get_or xs at d) → slice_set xs at new ≡ map (with_partition pair part) (take (at + 1) all) ++ drop (at + 1) all
    filled_more new is =
        let more : at + 1 ≡ suc at = omega arith in
        ap (λ (l : List GatheredIndex). slice_set l at new) filled
        ∙ ap (λ (i : GatheredIndex). slice_set (map (with_partition pair part) (take at all) ++ drop at all) at i) (is ∙ ap (with_partition pair part) same)
        ∙ replaced_more (with_partition pair part) all at d inside
        ∙ ap (λ (n : ℕ). map (with_partition pair part) (take n all) ++ drop n all) (sym more)

    pub lacks : (classes now : List Class) (class : Class) → now ≡ classes → IsMissing now (get_or xs at d).def.rule class → LacksClass classes (defs_of all) class
    lacks classes now class same_classes is = record {
      def = (get_or all at d).def;
      listed = def_contained all (get_or all at d) (Contains-get_or all at d inside);
      missing = subst (λ (i : GatheredIndex). IsMissing classes i.def.rule class) same (subst (λ (c : List Class). IsMissing c (get_or xs at d).def.rule class) same_classes is);
    }

-- ---- one is taken out

none_from : {X : Type 0} (p : X → Bool) (i : ℕ) (xs : List X) → position_from p i xs ≡ None → list_any p xs ≡ true → ⊥
none_from p i [] none any = cc
none_from p i (x ∷ xs) none any = by (p x) none any (none_from p (i + 1) xs)
  where
    by : (b : Bool) → (if b then Some i else position_from p (i + 1) xs) ≡ None → (b || list_any p xs) ≡ true → (position_from p (i + 1) xs ≡ None → list_any p xs ≡ true → ⊥) → ⊥
    by true n a rest = cc
    by false n a rest = rest n a

-- one is found where one has the number
pub some_found : (number : ℕ) (indexes now : List GatheredIndex) (found : Option ℕ) → found ≡ position (λ i. nat_eq number i.def.number) now → found ≡ None → now ≡ indexes → has_index indexes number ≡ true → ⊥
some_found number indexes now found is none same has =
    none_from (λ (i : GatheredIndex). nat_eq number i.def.number) 0 indexes
    (sym (position_from-zero (λ (i : GatheredIndex). nat_eq number i.def.number) indexes) ∙ ap (λ (l : List GatheredIndex). position (λ (i : GatheredIndex). nat_eq number i.def.number) l) (sym same) ∙ sym is ∙ none) has

-- and it is taken out
pub taken_at : (number : ℕ) (indexes now new : List GatheredIndex) (found : Option ℕ) (at : ℕ) (taken : GatheredIndex) → found ≡ position (λ i. nat_eq number i.def.number) now → found ≡ Some at → now ≡ indexes
    → taken ≡ get_or indexes at taken → new ≡ take at indexes ++ drop (at + 1) indexes → IsTaken number indexes taken new
taken_at number indexes now new found at taken is some same value left =
    let place : position (λ (i : GatheredIndex). nat_eq number i.def.number) indexes ≡ Some at = ap (λ (l : List GatheredIndex). position (λ (i : GatheredIndex). nat_eq number i.def.number) l) (sym same) ∙ sym is ∙ some in
    let here = position-Some (λ (i : GatheredIndex). nat_eq number i.def.number) indexes at taken place in
    let more : at + 1 ≡ suc at = omega arith in
    record {
      numbered = sym (eqb-true number taken.def.number (ap (λ (i : GatheredIndex). nat_eq number i.def.number) value ∙ here.1));
      front = take at indexes;
      back = drop (at + 1) indexes;
      was = sym (take-append-drop at indexes)
          ∙ ap (λ (l : List GatheredIndex). take at indexes ++ l) (drop-cons indexes at taken here.0 ∙ ap (λ (i : GatheredIndex). i ∷ drop (suc at) indexes) (sym value) ∙ ap (λ (n : ℕ). taken ∷ drop n indexes) (sym more));
      left = left;
    }

all_but : (P : GatheredIndex → Type 0) (front back : List GatheredIndex) (taken : GatheredIndex) → AllByRecursion P (front ++ taken ∷ back) → P taken × AllByRecursion P (front ++ back)
all_but P [] back taken all = all
all_but P (i ∷ front) back taken all = let rest = all_but P front back taken all.1 in (rest.0, (all.0, rest.1))

-- what all of them have, it has, and so have those that are left
pub all_taken : (P : GatheredIndex → Type 0) (number : ℕ) (indexes rest : List GatheredIndex) (taken : GatheredIndex) → IsTaken number indexes taken rest → AllByRecursion P indexes → P taken × AllByRecursion P rest
all_taken P number indexes rest taken is all =
    let parts = all_but P is.front is.back taken (subst (λ (l : List GatheredIndex). AllByRecursion P l) is.was all) in
    (parts.0, subst (λ (l : List GatheredIndex). AllByRecursion P l) (sym is.left) parts.1)

-- those that are left were there, and so was it
pub left_there : (number : ℕ) (indexes rest : List GatheredIndex) (taken : GatheredIndex) → IsTaken number indexes taken rest → (i : GatheredIndex) → Contains rest i → Contains indexes i
left_there number indexes rest taken is i has =
    subst (λ (l : List GatheredIndex). Contains l i) (sym is.was) (⊎_elim
    (λ in_front. Contains-append_left is.front (taken ∷ is.back) i in_front)
    (λ behind. Contains-append_right is.front (taken ∷ is.back) i (Contains-append_right (taken ∷ []) is.back i behind))
    (Contains-append_cases is.front is.back i (subst (λ (l : List GatheredIndex). Contains l i) is.left has)))

pub taken_there : (number : ℕ) (indexes rest : List GatheredIndex) (taken : GatheredIndex) → IsTaken number indexes taken rest → Contains indexes taken
taken_there number indexes rest taken is =
    subst (λ (l : List GatheredIndex). Contains l taken) (sym is.was) (Contains-append_right is.front (taken ∷ is.back) taken (Contains-get_or (taken ∷ is.back) 0 taken (omega arith)))

any_but : (p : GatheredIndex → Bool) (front back : List GatheredIndex) (taken : GatheredIndex) → p taken ≡ false → list_any p (front ++ taken ∷ back) ≡ true → list_any p (front ++ back) ≡ true
any_but p [] back taken apart any = sym (ap (λ (b : Bool). b || list_any p back) apart) ∙ any
any_but p (i ∷ front) back taken apart any = by (p i) any (any_but p front back taken apart)
  where
    by : (b : Bool) → (b || list_any p (front ++ taken ∷ back)) ≡ true → (list_any p (front ++ taken ∷ back) ≡ true → list_any p (front ++ back) ≡ true) → (b || list_any p (front ++ back)) ≡ true
    by true a rest = refl
    by false a rest = rest a

-- another number is still there
pub others_left : (number other : ℕ) (indexes rest : List GatheredIndex) (taken : GatheredIndex) → IsTaken number indexes taken rest → other ≢ number → has_index indexes other ≡ true → has_index rest other ≡ true
others_left number other indexes rest taken is apart has =
    subst (λ (l : List GatheredIndex). has_index l other ≡ true) (sym is.left)
    (any_but (λ (i : GatheredIndex). nat_eq other i.def.number) is.front is.back taken (by (nat_eq other taken.def.number) refl)
    (subst (λ (l : List GatheredIndex). has_index l other ≡ true) is.was has))
  where
    by : (b : Bool) → nat_eq other taken.def.number ≡ b → b ≡ false
    by false e = refl
    by true e = absurd (apart (eqb-true other taken.def.number e ∙ is.numbered))
