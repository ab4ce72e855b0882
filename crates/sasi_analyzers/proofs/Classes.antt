-- The classes of a kit's objects.
use Rattle.std.proofs.Common.{◌≡◌, ◌<◌, ◌+◌, ℕ, zero, suc, Bool, true, false, List, [], ◌∷◌, map, take, length, Option, None, Some, is_some, ◌||◌, refl, sym, ap, ◌∙◌, arith, get_or, slice_set, slice_index_or}
use Rattle.std.proofs.Math.Seq.{map-set_same}
use Rattle.std.proofs.lemmas.List.{take-set-le, drop-set-lt}
use Rattle.std.specs.List.{slice_get}
use Rattle.sasi_types.specs.declared.class.Class.{Class}
use Rattle.sasi_types.specs.declared.class.Class.TheVariants.{NonTokenizing, Standard}
use Rattle.sasi_analyzers.specs.Kits.{same_class, has_class, first_position, FindsFirst, KeepsOthers}

same_itself : (class : Class) → same_class class class ≡ true
same_itself NonTokenizing = refl
same_itself Standard = refl

behind : (b : Bool) {rest : Bool} → rest ≡ true → (b || rest) ≡ true
behind true h = refl
behind false h = h

pub found_is_there : (class : Class) (classes : List Class) (at : ℕ) → slice_get classes at ≡ Some class → has_class class classes ≡ true
found_is_there class [] at h = absurd cc
found_is_there class (c ∷ classes) zero h =
    let is : c ≡ class = cc in
    rw (is, same_itself class) refl
found_is_there class (c ∷ classes) (suc at) h = behind (same_class class c) (found_is_there class classes at h)

pub finds_has : (class : Class) (classes : List Class) (found : Option ℕ) → FindsFirst class classes found → is_some found ≡ has_class class classes
finds_has class classes (Some at) h = sym (found_is_there class classes at h.0)
finds_has class classes None h = sym h

neither : (b rest : Bool) → (b || rest) ≡ false → (b ≡ false) × (rest ≡ false)
neither true rest h = absurd cc
neither false rest h = (refl, h)

-- the object that is found is the first one
pub first_is : (class : Class) (classes : List Class) (at : ℕ) → slice_get classes at ≡ Some class → has_class class (take at classes) ≡ false → first_position class classes ≡ at
first_is class [] at h before = absurd cc
first_is class (c ∷ classes) zero h before =
    let is : c ≡ class = cc in
    rw (is, same_itself class) refl
first_is class (c ∷ classes) (suc at) h before =
    let apart = neither (same_class class c) (has_class class (take at classes)) before in
    let rest : first_position class classes ≡ at = first_is class classes at h apart.1 in
    rw apart.0 (omega arith)

same_means : (c d : Class) → (same_class c d || false) ≡ true → d ≡ c
same_means NonTokenizing NonTokenizing h = refl
same_means NonTokenizing Standard h = absurd cc
same_means Standard NonTokenizing h = absurd cc
same_means Standard Standard h = refl

both : (b rest : Bool) → b ≡ false → rest ≡ false → (b || rest) ≡ false
both true rest h k = h
both false rest h k = k

-- an object of the class with none before it is found
pub found_first : {A : Type 0} (kind : A → Class) (class : Class) (items : List A) (at : ℕ) (item : A) → at < length items → item ≡ get_or items at item → has_class class (kind item ∷ []) ≡ true → has_class class (map kind (take at items)) ≡ false → FindsFirst class (map kind items) (Some at)
found_first kind class [] at item within is of before = absurd (omega arith)
found_first {A} kind class (i ∷ items) zero item within is of before = (ap (λ (c : Class). Some c) (ap kind (sym is) ∙ same_means class (kind item) of), refl)
found_first kind class (i ∷ items) (suc at) item within is of before =
    let apart = neither (same_class class (kind i)) (has_class class (map kind (take at items))) before in
    let rest = found_first kind class items at item (omega arith) is of apart.1 in
    (rest.0, both (same_class class (kind i)) (has_class class (take at (map kind items))) apart.0 rest.1)

-- an object in place of one of its class
pub kept : {A : Type 0} (kind : A → Class) (items : List A) (at : ℕ) (new other : A) → kind new ≡ kind (slice_index_or items at other) → map kind (slice_set items at new) ≡ map kind items
kept kind items at new other same = map-set_same kind items at new other same

-- an object in place of the first one of its class
pub others_kept : {A : Type 0} (class : Class) (classes : List Class) (items : List A) (at : ℕ) (new : A) → FindsFirst class classes (Some at) → KeepsOthers class classes items (slice_set items at new)
others_kept class classes items at new found =
    let first : first_position class classes ≡ at = first_is class classes at found.0 found.1 in
    rw first (take-set-le at items at new (omega arith), drop-set-lt (at + 1) items at new (omega arith))
