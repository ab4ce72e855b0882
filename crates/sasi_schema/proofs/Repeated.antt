-- Names that stand in the list before.
use Rattle.std.proofs.Common.{◌≡◌, ℕ, ◌+◌, ◌<◌, Bool, true, false, not, ◌||◌, if◌then◌else◌, List, [], ◌∷◌, length, map, take, drop, get_or, Some, refl, sym, ap, ◌∙◌, add-one}
use Rattle.std.specs.List.{list_any}
use Rattle.std.proofs.Math.Seq.{drop-cons, take-suc}
use Rattle.std.specs.Ordering.{is_eq}
use Rattle.std.specs.Cmp.Lexicographic.{nat_list_eq_equiv}
use Rattle.std.proofs.lemmas.List.{get_or-map, length-map}
use Rattle.std.proofs.lemmas.List.Folds.{list_any-append}
use Rattle.std.proofs.lemmas.Map.Text.{is_eq-slice_cmp}
use Rattle.sasi_types.specs.Key.{key_cmp}
use Rattle.sasi_model.specs.Statements.{same}
use Rattle.sasi_model.specs.Refusals.{repeat_rules}
use Rattle.sasi_model.specs.Abbreviations.{first_refusal, ColumnRepeated}

-- a name that doesn't stand before
pub repeat_past : (names : List (List ℕ)) (i : ℕ) (name : List ℕ) → i < length names → name ≡ get_or names i name → list_any (same name) (take i names) ≡ false
    → first_refusal (repeat_rules (take i names) (drop i names)) ≡ first_refusal (repeat_rules (take (i + 1) names) (drop (i + 1) names))
repeat_past names i name inside is new = rw (add-one, take-suc names i name inside, drop-cons names i name inside, ← is, new) refl

-- one that does
pub repeat_here : (names : List (List ℕ)) (i : ℕ) (name : List ℕ) → i < length names → name ≡ get_or names i name → list_any (same name) (take i names) ≡ true
    → first_refusal (repeat_rules (take i names) (drop i names)) ≡ Some (ColumnRepeated name)
repeat_here names i name inside is there = rw (drop-cons names i name inside, ← is, there) refl

-- the order has two names equal exactly where they are the same
alike : (name q : List ℕ) → is_eq (key_cmp name q) ≡ same q name
alike name q = is_eq-slice_cmp name q ∙ nat_list_eq_equiv.symm name q

or_second : (a b : Bool) → (b || (a || false)) ≡ (if a then true else b)
or_second true true = refl
or_second true false = refl
or_second false true = refl
or_second false false = refl

-- a set with one more name
pub seen_more : (names : List (List ℕ)) (i : ℕ) (name copy q : List ℕ) (before after : Bool) → i < length names → name ≡ get_or names i name → copy ≡ name → before ≡ list_any (same q) (take i names)
    → after ≡ (if is_eq (key_cmp copy q) then true else before) → after ≡ list_any (same q) (take (i + 1) names)
seen_more names i name copy q before after inside is copied was now =
    now ∙ rw (copied, was, alike name q, add-one, take-suc names i name inside, ← is, list_any-append (same q) (take i names) (name ∷ []))
    (sym (or_second (same q name) (list_any (same q) (take i names))))

-- a name that was new in the set doesn't stand before
pub was_new : (names : List (List ℕ)) (i : ℕ) (name copy : List ℕ) (before added : Bool) → copy ≡ name → before ≡ list_any (same copy)
    (take i names) → added ≡ not before → added ≡ true → list_any (same name) (take i names) ≡ false
was_new names i name copy before added copied was added_is new = ap (λ (n : List ℕ). list_any (same n) (take i names)) (sym copied) ∙ sym was ∙ by before (sym added_is ∙ new)
  where
    by : (b : Bool) → not b ≡ true → b ≡ false
    by true e = cc
    by false e = refl

pub was_old : (names : List (List ℕ)) (i : ℕ) (name copy : List ℕ) (before added : Bool) → copy ≡ name → before ≡ list_any (same copy)
    (take i names) → added ≡ not before → added ≡ false → list_any (same name) (take i names) ≡ true
was_old names i name copy before added copied was added_is old = ap (λ (n : List ℕ). list_any (same n) (take i names)) (sym copied) ∙ sym was ∙ by before (sym added_is ∙ old)
  where
    by : (b : Bool) → not b ≡ false → b ≡ true
    by true e = refl
    by false e = cc

-- the name of a column that was read
pub name_at : {A : Type 0} (columns : List (List ℕ × A)) (i : ℕ) (column : List ℕ × A) → i < length columns → column ≡ get_or columns i column → column.0 ≡ get_or (map (λ c. c.0) columns) i column.0
name_at {A} columns i column inside is = ap (λ (c : List ℕ × A). c.0) is ∙ sym (get_or-map (λ (c : List ℕ × A). c.0) columns i column column.0 inside)

pub names_inside : {A : Type 0} (columns : List (List ℕ × A)) (i : ℕ) → i < length columns → i < length (map (λ c. c.0) columns)
names_inside columns i inside = rw length-map inside
