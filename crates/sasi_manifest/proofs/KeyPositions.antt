-- The key column is the first of its name.
use Rattle.std.proofs.Common.{◌≡◌, ◌<◌, ℕ, zero, suc, Bool, true, false, List, [], ◌∷◌, ◌++◌, length, Some, refl, ap, arith}
use Rattle.std.proofs.lemmas.List.Folds.{list_any-append}
use Rattle.std.proofs.lemmas.Cmp.{nat_list_eq_equiv}
use Rattle.std.specs.Prelude.{◌||◌}
use Rattle.std.specs.List.{list_any}
use Rattle.sasi_host.specs.Names.{Bytes}
use Rattle.sasi_model.specs.Statements.{same}
use Rattle.sasi_model.specs.State.{Column, position_in}
use Rattle.sasi_model.specs.Abbreviations.{column_at, name_or_none, one_more}
use Rattle.sasi_model.specs.Refusals.{names_in}
use Rattle.sasi_schema.specs.Numbers.{IsKeyAt}
use Rattle.sasi_manifest.specs.Naming.{IsFree, AreApart}

no_either : (a b : Bool) → (a || b) ≡ false → (a ≡ false) × (b ≡ false)
no_either true b none = cc
no_either false b none = (refl, none)

parts_free : (taken : List Bytes) (n name : Bytes) → IsFree (taken ++ n ∷ []) name → IsFree taken name × (same name n ≡ false)
parts_free taken n name free =
    let both = no_either (list_any (same name) taken) (list_any (same name) (n ∷ [])) (rw (list_any-append (same name) taken (n ∷ [])) at free) in
    (both.0, (no_either (same name n) false both.1).0)

-- a name after those that are taken is none of them
free_at : (taken : List Bytes) (columns : List Column) (k : ℕ) → AreApart taken (names_in columns) → k < length columns → IsFree taken (name_or_none (column_at k columns))
free_at taken [] k apart within = absurd (omega (arith, within))
free_at taken (c ∷ cs) zero apart within = apart.0
free_at taken (c ∷ cs) (suc k) apart within = (parts_free taken c.0 (name_or_none (column_at k cs)) (free_at (taken ++ c.0 ∷ []) cs k apart.1 (omega (arith, within)))).0

itself : (name : Bytes) → same name name ≡ true
itself name = nat_list_eq_equiv.refl name

position_at : (taken : List Bytes) (columns : List Column) (k : ℕ) → AreApart taken (names_in columns) → k < length columns → position_in (name_or_none (column_at k columns)) columns ≡ Some k
position_at taken [] k apart within = absurd (omega (arith, within))
position_at taken (c ∷ cs) zero apart within = rw (itself c.0) refl
position_at taken (c ∷ cs) (suc k) apart within =
    let within' : k < length cs = omega (arith, within) in
    let other = (parts_free taken c.0 (name_or_none (column_at k cs)) (free_at (taken ++ c.0 ∷ []) cs k apart.1 within')).1 in
    rw other (ap one_more (position_at (taken ++ c.0 ∷ []) cs k apart.1 within'))

pub key_at : (key : ℕ) (columns : List Column) → AreApart [] (names_in columns) → key < length columns → IsKeyAt key columns
key_at key columns apart within = position_at [] columns key apart within
