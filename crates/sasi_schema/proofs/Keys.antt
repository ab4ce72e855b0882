-- The key column.
use Rattle.std.proofs.Common.{◌≡◌, inl, inr, ℕ, ◌+◌, ◌<◌, Bool, true, false, ◌==◌, List, [], ◌∷◌, length, map, drop, get_or, Option, None, Some, is_some, unwrap_or, refl, sym, ap, ◌∙◌, add-one, arith}
use Rattle.std.specs.List.{list_any, remove}
use Rattle.std.specs.Option.{option_map, option_map_or}
use Rattle.sasi_types.specs.declared.column.ColumnType.{ColumnType}
use Rattle.std.proofs.Math.Seq.{drop-cons}
use Rattle.std.proofs.lemmas.Option.{slice_get_cases, slice_get_read}
use Rattle.sasi_model.specs.Statements.{same}
use Rattle.sasi_model.specs.State.{Column, Definition, position_in, key_column}
use Rattle.sasi_model.specs.Abbreviations.{column_at, key_name, key_position, name_or_none, type_or_text, types_of, KeyMissing, NoColumn, first_refusal, key_type}
use Rattle.sasi_model.specs.Refusals.{RefusalRule, is_key, key_missing, names_in}
use Rattle.sasi_model.specs.Step.{primary_key}
use Rattle.sasi_model.specs.Stored.{column_types}
use Rattle.sasi_schema.specs.Checks.{key_rules}
use Rattle.sasi_schema.specs.Numbers.{IsKeyAt}
use Rattle.sasi_schema.proofs.Positions.{position_below, position_is_key, is_placed}

-- the key is a column
pub key_below : (key : ℕ) (columns : List Column) → IsKeyAt key columns → key < length columns
key_below key columns is = position_below _ columns key is

-- the column that was read is the one at the position
pub name_read : (columns : List Column) (p : ℕ) (column : Column) → p < length columns → column ≡ get_or columns p column → column.0 ≡ name_or_none (column_at p columns)
name_read columns p column inside is = sym (ap name_or_none (slice_get_read columns (length columns) p column refl inside is))

pub type_read : (columns : List Column) (p : ℕ) (column : Column) → p < length columns → column ≡ get_or columns p column → column.1 ≡ type_or_text (column_at p columns)
type_read columns p column inside is = sym (ap type_or_text (slice_get_read columns (length columns) p column refl inside is))

-- the key column is there
pub key_is : (d : Definition) → IsKeyAt d.key d.columns → key_column d ≡ Some (key_name d, key_type d)
key_is d is =
    elim (slice_get_cases d.columns d.key).1 [
      | inl (column, below, got, read) ↦ rw got refl
      | inr past ↦ absurd (omega (arith, key_below d.key d.columns is))
    ]

-- and so the columns have types
pub column_types_are : (d : Definition) → IsKeyAt d.key d.columns → column_types d ≡ Some (types_of d)
column_types_are d is = ap (option_map (λ (column : Column). column.1 ∷ map (λ c. c.1) (remove d.columns d.key))) (key_is d is)

pub types_are : (d : Definition) (types : List ColumnType) → column_types d ≡ Some types → types_of d ≡ types
types_are d types is = by (key_column d) is
  where
    by : (o : Option Column) → option_map (λ (column : Column). column.1 ∷ map (λ c. c.1) (remove d.columns d.key)) o ≡ Some types
        → type_or_text o ∷ map (λ (c : Column). c.1) (remove d.columns d.key) ≡ types
    by None e = cc
    by (Some column) e = cc

-- its name is that of the key
pub is_key_by_name : (d : Definition) (name : List ℕ) → IsKeyAt d.key d.columns → same name (key_name d) ≡ is_key d name
is_key_by_name d name is = sym (ap (λ (o : Option Column). option_map_or (λ column. same name column.0) o false) (key_is d is))

-- the rule that it is missing
pub key_missing_is : (d : Definition) (applies : Bool) → IsKeyAt d.key d.columns → key_missing d applies ≡ (applies, KeyMissing (key_name d)) ∷ []
key_missing_is d applies is =
    let none : List RefusalRule = [] in
    ap (λ (o : Option Column). option_map_or (λ column. (applies, KeyMissing column.0) ∷ []) o none) (key_is d is)

-- a key that is a column is passed
pub key_past : (columns : List Column) (keys : List (List ℕ)) (i : ℕ) (key : List ℕ) → i < length keys → key ≡ get_or keys i key → is_some (position_in key columns) ≡ true
    → first_refusal (key_rules columns (drop i keys)) ≡ first_refusal (key_rules columns (drop (i + 1) keys))
key_past columns keys i key inside is there = rw (add-one, drop-cons keys i key inside, ← is, ← is_placed key columns, there) refl

-- one that isn't is told
pub key_here : (columns : List Column) (keys : List (List ℕ)) (i : ℕ) (key : List ℕ) → i < length keys → key ≡ get_or keys i key → is_some (position_in key columns) ≡ false
    → first_refusal (key_rules columns (drop i keys)) ≡ Some (NoColumn key)
key_here columns keys i key inside is none = rw (drop-cons keys i key inside, ← is, ← is_placed key columns, none) refl

-- where the keys are columns and there is one, the table has a key
pub made_key : (columns : List Column) (keys : List (List ℕ)) → first_refusal (key_rules columns keys) ≡ None → (length keys == 0) ≡ false
    → (primary_key columns keys ≡ Some (key_position columns keys)) × IsKeyAt (key_position columns keys) columns
made_key columns [] passed some = cc
made_key columns (key ∷ keys) passed some =
    elim (position_in key columns) as (λ o. position_in key columns ≡ o → (o ≡ Some (unwrap_or o 0)) × IsKeyAt (unwrap_or o 0) columns) [
      | Some p ↦ λ is. (refl, position_is_key key columns p is)
      | None ↦ λ is. absurd (missing (sym (is_placed key columns) ∙ ap is_some is) passed)
    ] refl
  where
    missing : list_any (same key) (names_in columns) ≡ false → first_refusal (key_rules columns (key ∷ keys)) ≡ None → ⊥
    missing none passed = let e : Some (NoColumn key) ≡ None = rw none at passed in cc
