-- Where a name stands among columns.
use Rattle.std.proofs.Common.{◌≡◌, ℕ, suc, ◌+◌, ◌<◌, true, false, ◌||◌, if◌then◌else◌, List, [], ◌∷◌, length, map, drop, get_or, Option, None, Some, is_some, refl, sym, ap, ◌∙◌, arith, add-one}
use Rattle.std.specs.List.{list_any}
use Rattle.std.specs.Cmp.Lexicographic.{same_text}
use Rattle.std.proofs.Math.Seq.{drop-cons}
use Rattle.sasi_model.specs.Statements.{same}
use Rattle.sasi_model.specs.State.{Column, position_in}
use Rattle.sasi_model.specs.Abbreviations.{one_more, column_at, name_or_none}
use Rattle.sasi_schema.specs.Numbers.{IsKeyAt}

-- a position, counted from a later one
abbrev pub from_position : ℕ → Option ℕ → Option ℕ
from_position i None = None
from_position i (Some n) = Some (i + n)

pub from_none : (o : Option ℕ) → from_position 0 o ≡ o
from_none None = refl
from_none (Some n) = ap Some (omega arith)

pub from_more : (i : ℕ) (o : Option ℕ) → from_position i (one_more o) ≡ from_position (suc i) o
from_more i None = refl
from_more i (Some n) = ap Some (omega arith)

-- a column of another name is passed
pub position_past : (name : List ℕ) (columns : List Column) (i : ℕ) (column : Column) → i < length columns → column ≡ get_or columns i column → same name column.0 ≡ false
    → from_position i (position_in name (drop i columns)) ≡ from_position (i + 1) (position_in name (drop (i + 1) columns))
position_past name columns i column inside is other =
    rw (add-one, drop-cons columns i column inside, ← is, other) (from_more i (position_in name (drop (suc i) columns)))

-- the column of the name is found
pub position_here : (name : List ℕ) (columns : List Column) (i : ℕ) (column : Column) → i < length columns → column ≡ get_or columns i column → same name column.0 ≡ true
    → from_position i (position_in name (drop i columns)) ≡ Some i
position_here name columns i column inside is found = rw (drop-cons columns i column inside, ← is, found) (ap Some (omega arith))

-- what is found is inside, and has the name
pub position_below : (name : List ℕ) (columns : List Column) (p : ℕ) → position_in name columns ≡ Some p → p < length columns
position_below name [] p is = cc
position_below name (c ∷ cs) p is =
    elim (same name c.0) as (λ b. (if b then Some 0 else one_more (position_in name cs)) ≡ Some p → p < suc (length cs)) [
      | true ↦ λ e. let here : 0 ≡ p = cc in omega arith
      | false ↦ λ e. elim (position_in name cs) as (λ o. position_in name cs ≡ o → one_more o ≡ Some p → p < suc (length cs)) [
        | None ↦ λ _ e. cc
        | Some q ↦ λ there e. let later : suc q ≡ p = cc in omega (arith, position_below name cs q there)
      ] refl e
    ] is

pub position_named : (name : List ℕ) (columns : List Column) (p : ℕ) → position_in name columns ≡ Some p → name_or_none (column_at p columns) ≡ name
position_named name [] p is = cc
position_named name (c ∷ cs) p is =
    elim (same name c.0) as (λ b. same name c.0 ≡ b → (if b then Some 0 else one_more (position_in name cs)) ≡ Some p → name_or_none (column_at p (c ∷ cs)) ≡ name) [
      | true ↦ λ find_table e. let here : 0 ≡ p = cc in rw (← here) (sym (same_text name c.0 (sym find_table)))
      | false ↦ λ _ e. elim (position_in name cs) as (λ o. position_in name cs ≡ o → one_more o ≡ Some p → name_or_none (column_at p (c ∷ cs)) ≡ name) [
        | None ↦ λ _ e. cc
        | Some q ↦ λ there e. let later : suc q ≡ p = cc in rw (← later) (position_named name cs q there)
      ] refl e
    ] refl is

-- the position of a name is that of a key
pub position_is_key : (name : List ℕ) (columns : List Column) (p : ℕ) → position_in name columns ≡ Some p → IsKeyAt p columns
position_is_key name columns p is = rw (position_named name columns p is) is

-- a name has a position where it is one of the columns'
pub is_placed : (name : List ℕ) (columns : List Column) → is_some (position_in name columns) ≡ list_any (same name) (map (λ c. c.0) columns)
is_placed name [] = refl
is_placed name (c ∷ cs) =
    elim (same name c.0) as (λ b. is_some (if b then Some 0 else one_more (position_in name cs)) ≡ (b || list_any (same name) (map (λ c. c.0) cs))) [
      | true ↦ refl
      | false ↦ more (position_in name cs) ∙ is_placed name cs
    ]
  where
    more : (o : Option ℕ) → is_some (one_more o) ≡ is_some o
    more None = refl
    more (Some n) = refl
