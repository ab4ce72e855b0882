-- Indexes by their names, and the numbers of tables that have a name.
use Rattle.std.proofs.Common.{◌≡◌, ℕ, suc, ◌+◌, ◌<◌, ◌≤◌, true, false, List, [], ◌∷◌, length, map, drop, get_or, if◌then◌else◌, None, Some, refl, arith, add-one}
use Rattle.std.specs.List.{find}
use Rattle.std.proofs.Math.Seq.{drop-cons}
use Rattle.std.proofs.lemmas.List.Folds.{find-append}
use Rattle.sasi_model.specs.Indexes.{index_named, index_of, indexes_of}
use Rattle.sasi_model.specs.State.{Definition, Index}
use Rattle.sasi_model.specs.Abbreviations.{one_more}
use Rattle.sasi_model.specs.Tokens.{same}
use Rattle.sasi_schema.specs.declared.table.Table.{Table}
use Rattle.sasi_schema.specs.Defined.{definitions}
use Rattle.sasi_schema.specs.Numbers.{number_of_table}

-- a table without an index of that name is passed
pub index_past : (name : List ℕ) (tables : List Table) (i : ℕ) (t : Table) → i < length tables → t ≡ get_or tables i t
    → find (λ i. same i.name name) (map index_of t.indexes) ≡ None → index_named name (definitions (drop i tables)) ≡ index_named name (definitions (drop (i + 1) tables))
index_past name tables i t inside is none =
    rw (add-one, drop-cons tables i t inside, ← is, find-append (λ (x : Index). same x.name name) (map index_of t.indexes) (indexes_of (definitions (drop (suc i) tables))), none) refl

-- the index is found in a table
pub index_here : (name : List ℕ) (tables : List Table) (i : ℕ) (t : Table) (found : Index) → i < length tables → t ≡ get_or tables i t
    → find (λ i. same i.name name) (map index_of t.indexes) ≡ Some found → index_named name (definitions (drop i tables)) ≡ Some found
index_here name tables i t found inside is some =
    rw (drop-cons tables i t inside, ← is, find-append (λ (x : Index). same x.name name) (map index_of t.indexes) (indexes_of (definitions (drop (suc i) tables))), some) refl

-- the number of a table is one of the numbers from 1
pub number_within : (name : List ℕ) (ds : List Definition) (n : ℕ) → number_of_table name ds ≡ Some n → (1 ≤ n) × (n ≤ length ds)
number_within name [] n is = cc
number_within name (d ∷ ds) n is =
    elim (same d.name name) as (λ b. (if b then Some 1 else one_more (number_of_table name ds)) ≡ Some n → (1 ≤ n) × (n ≤ suc (length ds))) [
      | true ↦ λ e. let here : 1 ≡ n = cc in (omega arith, omega arith)
      | false ↦ λ e. elim (number_of_table name ds) as (λ o. number_of_table name ds ≡ o → one_more o ≡ Some n → (1 ≤ n) × (n ≤ suc (length ds))) [
        | None ↦ λ _ e. cc
        | Some q ↦ λ there e. let later : suc q ≡ n = cc in (omega arith, omega (arith, (number_within name ds q there).1))
      ] refl e
    ] is
