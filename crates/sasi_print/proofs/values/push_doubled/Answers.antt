use Rattle.std.proofs.Common.{sym, ◌∙◌}
use Rattle.sasi_print.proofs.RowPrints.{plain_added}
use Rattle.sasi_print.proofs.values.push_doubled.Goals as goal

pub returns-then-not-contains : goal.returns-then-not-contains
returns-then-not-contains c =
    record { ok = plain_added c.extend_from_slice.result _ c.args.reply.now.items c.args.text.now (sym c.contains.ensures.value ∙ c.if-not-contains.true) c.extend_from_slice.ensures.items }
