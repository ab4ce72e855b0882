use Rattle.std.proofs.Common.{sym, ◌∙◌}
use Rattle.sasi_model.specs.Refusals.{limit_range}
use Rattle.sasi_schema.specs.Defined.{definition}
use Rattle.sasi_machine.specs.Checks.{after_limit_rules}
use Rattle.sasi_machine.proofs.Passed.{one_behind, one_refuses}
use Rattle.sasi_machine.proofs.select_refusal.limit_refusal.Goals as goal

pub returns-then-is_out_of_range-clause-refusal : goal.returns-then-is_out_of_range-clause-refusal
returns-then-is_out_of_range-clause-refusal g c =
    sym (one_refuses (limit_range c.args.limit) (after_limit_rules (definition c.args.table.now) c.args.filtering c.args.relations.now) (sym c.is_out_of_range.ensures ∙ c.if-is_out_of_range.true))

pub returns-clause-refusal : goal.returns-clause-refusal
returns-clause-refusal g c =
    one_behind (limit_range c.args.limit) (after_limit_rules (definition c.args.table.now) c.args.filtering c.args.relations.now) c.search_refusal.result
    (sym c.is_out_of_range.ensures ∙ c.if-is_out_of_range.false) c.search_refusal.ensures.refusal
