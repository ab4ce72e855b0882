use Rattle.std.proofs.Common.{◌≡◌, ℕ, List, map, drop}
use Rattle.sasi_types.specs.declared.literal.Literal.{Literal}
use Rattle.sasi_model.specs.Refusals.{RefusalRule}
use Rattle.sasi_model.specs.Abbreviations.{first_refusal}
use Rattle.sasi_schema.specs.Defined.{definition}
use Rattle.sasi_machine.specs.Rules.{name_rule}
use Rattle.sasi_machine.proofs.name_rule.NameRule.check_sets.Given as goal

-- the names so far pass
abbrev pub invariant-loop-set : goal.invariant-loop-set
invariant-loop-set l =
    let rule : List ℕ × Literal → RefusalRule = λ set. name_rule l.self (definition l.table) set.0 in
    first_refusal (map rule l.sets) ≡ first_refusal (map rule (drop l.set-index l.sets))
