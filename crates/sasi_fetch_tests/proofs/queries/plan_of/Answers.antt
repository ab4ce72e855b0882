use Rattle.std.proofs.Common.{◌≡◌, ◌==◌, List, length, map, [], ◌∷◌, true, Contains, arith, rules, refl, sym, ap, subst, ◌∙◌}
use Rattle.lru.proofs.Splits.{Contains-nil}
use Rattle.sasi_types.specs.declared.class.Class.{Class}
use Rattle.sasi_types.specs.declared.index_def.IndexDef.{IndexDef}
use Rattle.sasi_machine.specs.Classes.{TableLacks}
use Rattle.sasi_model.specs.Indexes.{index_of}
use Rattle.sasi_schema.specs.Defined.{definition}
use Rattle.sasi_schema.specs.declared.table.Table.{Table}
use Rattle.sasi_plan_tests.specs.Fixture.{IsPlanOn}
use Rattle.sasi_fetch_tests.proofs.queries.plan_of.Goals as goal

no_defs : (defs : List IndexDef) → (length defs == 0) ≡ true → defs ≡ []
no_defs [] is = refl
no_defs (def ∷ defs) is = let none : length (def ∷ defs) ≡ 0 = search (rules, is) in absurd (omega (arith, none))

none_lacks : (t : Table) → t.indexes ≡ [] → (classes : List Class) (class : Class) → TableLacks classes (definition t) class → ⊥
none_lacks t none classes class lacks = Contains-nil lacks.index (subst (λ (defs : List IndexDef). Contains (map index_of defs) lacks.index) none lacks.listed)

pub plan_on-requires : goal.plan_on-requires
plan_on-requires g c = c.selection_of-rows.ensures (definition c.expect-table.result.now) (sym (rw c.expect-table.ensures at c.table.ensures.definition))

pub returns : goal.returns
returns g c =
    let is_empty : (length c.as_slice.result.now == 0) ≡ true = search rules in
    let none : c.expect-table.result.now.indexes ≡ [] = sym c.as_slice.ensures ∙ no_defs c.as_slice.result.now is_empty in
    record {
      planned = subst (λ ns. IsPlanOn ns c.plan_on.result) (ap (map (λ (def : IndexDef). def.number)) none) c.plan_on.ensures.planned;
      text = c.plan_on.ensures.key ∙ search rules;
      known = λ classes class lacks. none_lacks c.expect-table.result.now none classes class (c.plan_on.ensures.classes classes class lacks);
    }
