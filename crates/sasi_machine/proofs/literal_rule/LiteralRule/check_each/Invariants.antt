use Rattle.std.proofs.Common.{◌≡◌, drop}
use Rattle.sasi_model.specs.Refusals.{each}
use Rattle.sasi_model.specs.Abbreviations.{first_refusal}
use Rattle.sasi_schema.specs.Defined.{definition}
use Rattle.sasi_machine.specs.Rules.{literal_rule}
use Rattle.sasi_machine.proofs.literal_rule.LiteralRule.check_each.Given as goal

-- the literals so far pass
abbrev pub invariant-loop-column : goal.invariant-loop-column
invariant-loop-column l =
    let rule = literal_rule l.self (definition l.table) in
    first_refusal (each rule l.given) ≡ first_refusal (each rule (drop l.column-index l.given))
