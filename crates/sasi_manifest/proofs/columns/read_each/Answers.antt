use Rattle.std.proofs.Common.{◌-◌, ◌+◌, arith}
use Rattle.std.proofs.lemmas.Result.{err_from_is_err_and}
use Rattle.sasi_formats.specs.Reader.{read}
use Rattle.sasi_formats.proofs.ItemSteps.{items_step, items_fault, items_all}
use Rattle.sasi_manifest.specs.Abbreviations.{column}
use Rattle.sasi_manifest.proofs.columns.read_each.Goals as goal

pub loop-turn-preserved : goal.loop-turn-preserved
loop-turn-preserved c =
    items_step (λ before. read (column before)) c.args.count c.args.reader.now (c.args.count - c.loop-turn._turn) (c.args.count - (c.loop-turn._turn + 1)) c.loop-turn.columns c.as_slice.result.now c.push.new.self c.loop-turn.reader c.in_ok-next.next c.read_column.new.reader
    (omega (arith, c.loop-turn-test.true)) c.as_slice.ensures c.in_ok-next.ensures c.in_ok-push.ensures.ok c.loop-turn.invariant

pub returns-in_err-next : goal.returns-in_err-next
returns-in_err-next c =
    let p = err_from_is_err_and c.from_residual.result c.from_residual.ensures.1 in
    rw (p.1, p.2)
    (items_fault (λ before. read (column before)) c.args.count c.args.reader.now (c.args.count - c.loop-turn._turn) (c.args.count - (c.loop-turn._turn + 1)) c.loop-turn.columns c.as_slice.result.now c.loop-turn.reader c.in_err-next.field-0.0
    (omega (arith, c.loop-turn-test.true)) c.as_slice.ensures c.in_err-next.ensures c.loop-turn.invariant)

pub returns : goal.returns
returns c = items_all (λ before. read (column before)) c.args.count c.args.reader.now (c.args.count - c.loop-turn._turn) c.loop-turn.columns c.loop-turn.reader (omega (arith, c.loop-turn-test.false)) c.loop-turn.invariant
