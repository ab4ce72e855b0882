use Rattle.std.proofs.Common.{map}
use Rattle.sasi_schema.specs.Defined.{definition}
use Rattle.sasi_machine.specs.Classes.{RuleLacks, TableLacks}
use Rattle.sasi_machine.proofs.Lacking.{missing_result, rule_lacks}
use Rattle.sasi_machine.proofs.relation_rule.is_empty_like.Goals as goal

pub returns-in-Like-Text-clause-missing : goal.returns-in-Like-Text-clause-missing
returns-in-Like-Text-clause-missing g c =
    let kinds = (map (λ b. (goal.Analyzer-dyn g (b.vtable, b.value)).kind b.value) c.args.kit.now.objects.items) in
    let d = definition c.args.table.now in
    missing_result (RuleLacks kinds c.rule_on.result) (TableLacks kinds d) c.asks_nothing.result (λ class lacks. rule_lacks d c.in-Some.number kinds class (rw c.rule_on.ensures at lacks)) c.asks_nothing.ensures.missing
