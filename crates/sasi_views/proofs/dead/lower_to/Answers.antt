use Rattle.std.proofs.Common.{is_lt, sym, ap, ◌∙◌}
use Rattle.sasi_views.proofs.DeadBounds.{kept_below}
use Rattle.sasi_views.proofs.dead.lower_to.Goals as goal

pub returns-then-is_lt-clause-kept : goal.returns-then-is_lt-clause-kept
returns-then-is_lt-clause-kept c = λ k above.
    kept_below k c.args.component c.args.from.now (ap is_lt (sym c.cmp.ensures) ∙ sym c.is_lt.ensures ∙ c.if-is_lt.true) above
