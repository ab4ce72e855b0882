-- The key column is one of the columns.
use Rattle.std.proofs.Common.{◌≡◌, ◌<◌, ℕ, suc, true, false, List, [], ◌∷◌, length, Option, Some, None, refl, arith, if◌then◌else◌}
use Rattle.sasi_host.specs.Names.{Bytes}
use Rattle.sasi_model.specs.Statements.{same}
use Rattle.sasi_model.specs.State.{Column, position_in}
use Rattle.sasi_model.specs.Abbreviations.{one_more}
use Rattle.sasi_schema.specs.Numbers.{IsKeyAt}

within_more : (o : Option ℕ) (count k : ℕ) → ((j : ℕ) → o ≡ Some j → j < count) → one_more o ≡ Some k → k < suc count
within_more None count k below is = cc
within_more (Some j) count k below is = let e : suc j ≡ k = cc in omega (arith, e, below j refl)

position_within : (name : Bytes) (columns : List Column) (k : ℕ) → position_in name columns ≡ Some k → k < length columns
position_within name [] k is = cc
position_within name (c ∷ cs) k is =
    elim (same name c.0) as (λ t. (if t then Some 0 else one_more (position_in name cs)) ≡ Some k → k < suc (length cs)) [
      | true ↦ λ e. (let z : 0 ≡ k = cc in omega (arith, z))
      | false ↦ λ e. within_more (position_in name cs) (length cs) k (position_within name cs) e
    ] is

pub key_within : (key : ℕ) (columns : List Column) → IsKeyAt key columns → key < length columns
key_within key columns is = position_within _ columns key is
