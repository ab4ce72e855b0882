use Rattle.std.proofs.Common.{ap, sym, ◌∙◌}
use Rattle.std.specs.Option.{option_map}
use Rattle.sasi_model.specs.Refusals.{relation_rules, search_rules}
use Rattle.sasi_schema.proofs.RuleLaws.{first_before, first_behind}
use Rattle.sasi_schema.specs.Defined.{definition}
use Rattle.sasi_machine.specs.Checks.{filtering_rules}
use Rattle.sasi_machine.specs.Refusal.{refusal_of}
use Rattle.sasi_machine.proofs.select_refusal.search_refusal.Goals as goal

pub returns-in-Some-clause-refusal : goal.returns-in-Some-clause-refusal
returns-in-Some-clause-refusal g c =
    let d = definition c.args.table.now in
    sym (first_before (relation_rules search_rules d c.args.relations.now) (filtering_rules d c.args.filtering c.args.relations.now) (refusal_of c.in-Some.refusal) (sym c.in_ok-refusal.ensures.refusal ∙ ap (option_map refusal_of) c.in-Some.is))

pub returns-in-None-clause-refusal : goal.returns-in-None-clause-refusal
returns-in-None-clause-refusal g c =
    let d = definition c.args.table.now in
    c.filtering_refusal.ensures ∙ sym (first_behind (relation_rules search_rules d c.args.relations.now) (filtering_rules d c.args.filtering c.args.relations.now) (sym c.in_ok-refusal.ensures.refusal ∙ ap (option_map refusal_of) c.in-None.is))
