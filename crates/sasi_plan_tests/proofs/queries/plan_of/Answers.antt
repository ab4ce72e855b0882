use Rattle.std.proofs.Common.{◌≡◌, ◌==◌, ℕ, List, length, map, [], ◌∷◌, true, arith, rules, refl, sym, ap, subst, ◌∙◌}
use Rattle.sasi_types.specs.declared.index_def.IndexDef.{IndexDef}
use Rattle.sasi_schema.specs.Defined.{definition, numbers_of}
use Rattle.sasi_plan_tests.specs.Fixture.{IsPlanOn}
use Rattle.sasi_plan_tests.proofs.queries.plan_of.Goals as goal

abbrev numbers_in : List IndexDef → List ℕ
numbers_in defs = map (λ (def : IndexDef). def.number) defs

no_numbers : (defs : List IndexDef) → (length defs == 0) ≡ true → numbers_in defs ≡ []
no_numbers [] is = refl
no_numbers (def ∷ defs) is = let none : length (def ∷ defs) ≡ 0 = search (rules, is) in absurd (omega (arith, none))

pub plan_on-requires : goal.plan_on-requires
plan_on-requires g c = c.selection_of-rows.ensures (definition c.expect-table.result.now) (sym (rw c.expect-table.ensures at c.table.ensures.definition))

pub returns : goal.returns
returns g c =
    let is_empty : (length c.as_slice.result.now == 0) ≡ true = search rules in
    let is : c.as_slice.result.now ≡ c.expect-table.result.now.indexes = c.as_slice.ensures in
    let none : numbers_of c.expect-table.result.now ≡ [] = ap numbers_in (sym is) ∙ no_numbers c.as_slice.result.now is_empty in
    subst (λ ns. IsPlanOn ns c.plan_on.result) none c.plan_on.ensures
