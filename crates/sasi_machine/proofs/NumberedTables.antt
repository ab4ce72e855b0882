-- The table of a name, by its number.
use Rattle.std.proofs.Common.{◌≡◌, ◌⊎◌, inl, inr, ℕ, zero, suc, ◌-◌, ◌<◌, true, false, if◌then◌else◌, List, [], ◌∷◌, length, slice_get, Option, None, Some, refl, ap, ◌∙◌, arith}
use Rattle.sasi_types.specs.declared.decorated_key.DecoratedKey.{DecoratedKey}
use Rattle.sasi_model.specs.Cells.{Partition}
use Rattle.sasi_model.specs.Changes.{changed_behind}
use Rattle.sasi_model.specs.Statements.{same}
use Rattle.sasi_model.specs.State.{Definition, Table, apply, definition_of, table_of, with_table}
use Rattle.sasi_model.specs.Abbreviations.{definitions, one_more}
use Rattle.sasi_schema.specs.Numbers.{number_of_table}

-- a number is that of the first, or of a later table
pub record IsLater (name : List ℕ) (d : Definition) (ds : List Definition) (at : ℕ) : Type 0 where
  pub other : same d.name name ≡ false
  pub index : ℕ
  pub index_is : at ≡ suc index
  pub later : number_of_table name ds ≡ Some (suc index)

later_from : (name : List ℕ) (d : Definition) (ds : List Definition) (at : ℕ) (number : Option ℕ) → number_of_table name ds ≡ number
    → ((n : ℕ) → number ≡ Some n → 0 < n) → same d.name name ≡ false → one_more number ≡ Some (suc at) → IsLater name d ds at
later_from name d ds at None is some other more = cc
later_from name d ds at (Some zero) is some other more = absurd (omega (arith, some 0 refl))
later_from name d ds at (Some (suc index)) is some other more = let e : suc (suc index) ≡ suc at = cc in record { other = other; index = index; index_is = omega arith; later = is }

one_more_some : (o : Option ℕ) (n : ℕ) → one_more o ≡ Some n → 0 < n
one_more_some None n e = cc
one_more_some (Some k) n e = let is : suc k ≡ n = cc in omega arith

pub number_some : (name : List ℕ) (ds : List Definition) (n : ℕ) → number_of_table name ds ≡ Some n → 0 < n
number_some name [] n is = cc
number_some name (d ∷ ds) n is =
    elim (same d.name name) as (λ b. (if b then Some 1 else one_more (number_of_table name ds)) ≡ Some n → 0 < n) [
      | true ↦ λ e. let one : 1 ≡ n = cc in omega arith
      | false ↦ λ e. one_more_some (number_of_table name ds) n e
    ] is

pub first_or_later : (name : List ℕ) (d : Definition) (ds : List Definition) (at : ℕ) → number_of_table name (d ∷ ds) ≡ Some (suc at) → ((same d.name name ≡ true) × (at ≡ 0)) ⊎ IsLater name d ds at
first_or_later name d ds at is =
    elim (same d.name name) as (λ b. same d.name name ≡ b → (if b then Some 1 else one_more (number_of_table name ds)) ≡ Some (suc at)
    → ((same d.name name ≡ true) × (at ≡ 0)) ⊎ IsLater name d ds at) [
      | true ↦ λ named e. let one : 1 ≡ suc at = cc in inl (named, omega arith)
      | false ↦ λ other e. inr (later_from name d ds at (number_of_table name ds) refl (λ n there. number_some name ds n there) other e)
    ] refl is

-- ---- the table of a name

pub record IsTableAt (name : List ℕ) (ts : List Table) (at : ℕ) (d : Definition) : Type 0 where
  pub table : Table
  pub definition_is : table.definition ≡ d
  pub found : table_of name ts ≡ Some table
  pub there : slice_get ts at ≡ Some table
  pub inside : at < length ts
  pub changed : (f : Table → Table) (key : DecoratedKey) (change : Partition) → f table ≡ apply key change table → with_table name f ts ≡ changed_behind at key change ts

first_at : (name : List ℕ) (t : Table) (ts : List Table) (d : Definition) → same t.definition.name name ≡ true → definition_of name (definitions (t ∷ ts)) ≡ Some d → IsTableAt name (t ∷ ts) 0 d
first_at name t ts d named found = record {
  table = t;
  definition_is = (let e : Some t.definition ≡ Some d = rw named at found in cc);
  found = rw named refl;
  there = refl;
  inside = omega arith;
  changed = λ f key change is. rw named (ap (λ (first : Table). first ∷ ts) is);
}

later_at : (name : List ℕ) (t : Table) (ts : List Table) (at : ℕ) (d : Definition) → same t.definition.name name ≡ false → IsTableAt name ts at d → IsTableAt name (t ∷ ts) (suc at) d
later_at name t ts at d other later = record {
  table = later.table;
  definition_is = later.definition_is;
  found = rw other later.found;
  there = later.there;
  inside = omega (arith, later.inside);
  changed = λ f key change is. rw other (ap (λ (rest : List Table). t ∷ rest) (later.changed f key change is));
}

pub table_at : (name : List ℕ) (ts : List Table) (at : ℕ) (d : Definition) → number_of_table name (definitions ts) ≡ Some (suc at) → definition_of name (definitions ts) ≡ Some d → IsTableAt name ts at d
table_at name [] at d is found = cc
table_at name (t ∷ ts) at d is found =
    elim (first_or_later name t.definition (definitions ts) at is) [
      | inl first ↦ rw first.1 (first_at name t ts d first.0 found)
      | inr later ↦ rw later.index_is (later_at name t ts later.index d later.other (table_at name ts later.index d later.later (rw later.other at found)))
    ]

-- by the number itself
pub table_numbered : (name : List ℕ) (ts : List Table) (number : ℕ) (d : Definition) → number_of_table name (definitions ts) ≡ Some number → definition_of name (definitions ts) ≡ Some d → IsTableAt name ts (number - 1) d
table_numbered name ts number d is found =
    let some = number_some name (definitions ts) number is in
    let suc_is : number ≡ suc (number - 1) = omega arith in
    table_at name ts (number - 1) d (is ∙ ap Some suc_is) found

-- ---- the definition of a name

pub defined_at : (ts : List Table) (at : ℕ) (t : Table) → slice_get ts at ≡ Some t → slice_get (definitions ts) at ≡ Some t.definition
defined_at [] at t there = cc
defined_at (x ∷ ts) zero t there = (let same : x ≡ t = cc in ap (λ (t : Table). Some t.definition) same)
defined_at (x ∷ ts) (suc at) t there = defined_at ts at t there

definition_at : (name : List ℕ) (ds : List Definition) (at : ℕ) (d : Definition) → number_of_table name ds ≡ Some (suc at) → slice_get ds at ≡ Some d → definition_of name ds ≡ Some d
definition_at name [] at d is there = cc
definition_at name (x ∷ ds) at d is there =
    elim (first_or_later name x ds at is) [
      | inl first ↦ rw first.0 (rw first.1 at there)
      | inr later ↦ rw later.other (definition_at name ds later.index d later.later (rw later.index_is at there))
    ]

pub definition_numbered : (name : List ℕ) (ds : List Definition) (number : ℕ) (d : Definition) → number_of_table name ds ≡ Some number → slice_get ds (number - 1) ≡ Some d → definition_of name ds ≡ Some d
definition_numbered name ds number d is there =
    let some = number_some name ds number is in
    let suc_is : number ≡ suc (number - 1) = omega arith in
    definition_at name ds (number - 1) d (is ∙ ap Some suc_is) there
