use Rattle.std.proofs.Common.{◌-◌, ◌+◌, arith, refl}
use Rattle.std.proofs.lemmas.Result.{err_from_is_err_and}
use Rattle.sasi_formats.specs.Reader.{read}
use Rattle.sasi_formats.proofs.ItemSteps.{items_step, items_fault, items_all}
use Rattle.sasi_manifest.specs.Edits.{files_of, removed_number}
use Rattle.sasi_manifest.proofs.read_files.read_each_removed.Goals as goal

pub loop-turn-preserved : goal.loop-turn-preserved
loop-turn-preserved c =
    items_step (λ before. read (removed_number (files_of c.args.tables.now c.args.table) before)) c.args.count c.args.reader.now (c.args.count - c.loop-turn._turn) (c.args.count - (c.loop-turn._turn + 1)) c.loop-turn.removed c.loop-turn.removed _ c.loop-turn.reader c.in_ok-next.next c.read_removed_number.new.reader
    (omega (arith, c.loop-turn-test.true)) refl c.in_ok-next.ensures c.in_ok-removed.ensures c.loop-turn.invariant

pub returns-in_err-next : goal.returns-in_err-next
returns-in_err-next c =
    let p = err_from_is_err_and c.from_residual.result c.from_residual.ensures.1 in
    rw (p.1, p.2)
    (items_fault (λ before. read (removed_number (files_of c.args.tables.now c.args.table) before)) c.args.count c.args.reader.now (c.args.count - c.loop-turn._turn) (c.args.count - (c.loop-turn._turn + 1)) c.loop-turn.removed c.loop-turn.removed c.loop-turn.reader c.in_err-next.field-0.0
    (omega (arith, c.loop-turn-test.true)) refl c.in_err-next.ensures c.loop-turn.invariant)

pub returns : goal.returns
returns c = items_all (λ before. read (removed_number (files_of c.args.tables.now c.args.table) before)) c.args.count c.args.reader.now (c.args.count - c.loop-turn._turn) c.loop-turn.removed c.loop-turn.reader (omega (arith, c.loop-turn-test.false)) c.loop-turn.invariant
