use Rattle.std.proofs.Common.{sym, ap, not, Some, ◌∙◌}
use Rattle.sasi_model.specs.Abbreviations.{NoColumn}
use Rattle.sasi_schema.proofs.Keys.{key_past, key_here}
use Rattle.sasi_schema.proofs.check.check_keys.Goals as goal

pub returns-then-is_none : goal.returns-then-is_none
returns-then-is_none c =
    c.loop-key.invariant
    ∙ key_here c.args.columns.now c.args.keys.now c.loop-key.key-index c.key-item.result c.loop-key-test.true c.key-item.is
    (rw c.position_in.ensures.position at (c.is_none.ensures ∙ ap not c.if-is_none.true))
    ∙ ap (λ key. Some (NoColumn key)) (sym c.in_ok-copy.ensures)

pub loop-key-preserved : goal.loop-key-preserved
loop-key-preserved c =
    c.loop-key.invariant
    ∙ key_past c.args.columns.now c.args.keys.now c.loop-key.key-index c.key-item.result c.loop-key-test.true c.key-item.is
    (rw c.position_in.ensures.position at (c.is_none.ensures ∙ ap not c.if-is_none.false))
