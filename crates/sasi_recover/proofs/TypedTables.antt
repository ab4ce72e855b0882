-- The types of the columns of a listed table.
use Rattle.std.proofs.Common.{◌≡◌, ℕ, zero, suc, ◌<◌, Bool, true, false, List, [], ◌∷◌, length, map, Option, Some, None, refl, arith}
use Rattle.std.specs.Prelude.{cond, slice_get}
use Rattle.std.specs.Option.{option_map}
use Rattle.std.specs.List.{AllByRecursion, remove}
use Rattle.std.proofs.lemmas.List.{length-map}
use Rattle.std.proofs.lemmas.List.Edits.{length-remove}
use Rattle.sasi_model.specs.Statements.{same}
use Rattle.sasi_model.specs.State.{Column, position_in}
use Rattle.sasi_model.specs.Abbreviations.{type_or_text, types_of}
use Rattle.sasi_layout.specs.Serving.{IsTyped}
use Rattle.sasi_manifest.specs.declared.listed.ListedTable.{ListedTable}
use Rattle.sasi_manifest.specs.ListedDefinition.{ListedDefinition}
use Rattle.sasi_manifest.specs.ListedTables.{listed}

inside : (name : List ℕ) (cs : List Column) (k : ℕ) → position_in name cs ≡ Some k → k < length cs
inside name [] k is = cc
inside name (c ∷ cs) k is = by (same name c.0) (position_in name cs) is (λ j has. inside name cs j has)
  where
    by : (b : Bool) (o : Option ℕ) → cond b (Some 0) (option_map (λ n. suc n) o) ≡ Some k → ((j : ℕ) → o ≡ Some j → j < length cs) → k < length (c ∷ cs)
    by true o first rest = let e : 0 ≡ k = (let s : Some 0 ≡ Some k = first in cc) in omega (arith, e)
    by false None never rest = cc
    by false (Some j) later rest = let e : suc j ≡ k = (let s : Some (suc j) ≡ Some k = later in cc) in omega (arith, e, rest j refl)

column_there : (cs : List Column) (k : ℕ) → k < length cs → (c : Column) × (slice_get cs k ≡ Some c)
column_there [] k within = absurd (omega (arith, within))
column_there (c ∷ cs) zero within = (c, refl)
column_there (c ∷ cs) (suc k) within = column_there cs k (omega (arith, within))

-- the key column is there, and there are at most 64 columns
pub typed_of : (t : ListedTable) → IsTyped (listed t).definition
typed_of t =
    let d = (listed t).definition in
    let within = inside _ d.columns d.key t.table.key_is_there in
    let column = column_there d.columns d.key within in
    record {
      types = types_by d.columns d.key column.0 column.1;
      few = omega (arith, t.table.few, length-remove d.columns d.key within, length-map (remove d.columns d.key) (λ (c : Column). c.1));
    }
  where
    types_by : (cs : List Column) (k : ℕ) (c : Column) → slice_get cs k ≡ Some c
        → option_map (λ (column : Column). column.1 ∷ map (λ (c : Column). c.1) (remove cs k)) (slice_get cs k) ≡ Some (types_of (record { name = (listed t).definition.name; columns = cs; key = k; indexes = [] }))
    types_by cs k c is = by (slice_get cs k) c is
      where
        by : (o : Option Column) (c : Column) → o ≡ Some c → option_map (λ (column : Column). column.1 ∷ map (λ (c : Column). c.1) (remove cs k)) o ≡ Some (type_or_text o ∷ map (λ (c : Column). c.1) (remove cs k))
        by None c is = cc
        by (Some d) c is = refl

pub all_typed : (ts : List ListedTable) → AllByRecursion (λ (t : ListedDefinition). IsTyped t.definition) (map listed ts)
all_typed [] = tt
all_typed (t ∷ ts) = (typed_of t, all_typed ts)
