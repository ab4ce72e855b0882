use Rattle.std.proofs.Common.{◌≡◌, map, drop}
use Rattle.sasi_model.specs.Abbreviations.{first_refusal}
use Rattle.sasi_schema.specs.Defined.{definition}
use Rattle.sasi_machine.specs.Rules.{name_rule}
use Rattle.sasi_machine.proofs.name_rule.NameRule.check_names.Given as goal

-- the names so far pass
abbrev pub invariant-loop-name : goal.invariant-loop-name
invariant-loop-name l =
    let rule = name_rule l.self (definition l.table) in
    first_refusal (map rule l.names) ≡ first_refusal (map rule (drop l.name-index l.names))
