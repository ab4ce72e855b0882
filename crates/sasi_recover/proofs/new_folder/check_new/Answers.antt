use Rattle.std.proofs.Common.{sym, ◌∙◌}
use Rattle.sasi_recover.proofs.Foreign.{firsts_all, firsts_more, foreign_at}
use Rattle.sasi_recover.proofs.new_folder.check_new.Goals as goal

pub returns-then-not-is_initial-clause-foreign : goal.returns-then-not-is_initial-clause-foreign
returns-then-not-is_initial-clause-foreign c =
    foreign_at c.args.names.now c.loop-name.name-index _ c.found.result c.loop-name-test.true c.loop-name.invariant
    (sym c.is_initial.ensures ∙ c.if-not-is_initial.true) c.found.ensures.file c.found.ensures.rule c.found.ensures.at c.found.ensures.seen

pub loop-name-preserved : goal.loop-name-preserved
loop-name-preserved c = firsts_more c.args.names.now c.loop-name.name-index _ c.loop-name-test.true c.loop-name.invariant
    (sym c.is_initial.ensures ∙ c.if-not-is_initial.false)

pub returns-clause-firsts : goal.returns-clause-firsts
returns-clause-firsts c = firsts_all c.args.names.now c.loop-name.name-index c.loop-name-test.false c.loop-name.invariant
