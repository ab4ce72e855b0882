use Rattle.std.proofs.Common.{◌-◌, ◌+◌, arith, refl}
use Rattle.std.proofs.lemmas.Result.{err_from_is_err_and}
use Rattle.sasi_formats.specs.Reader.{read}
use Rattle.sasi_formats.proofs.ItemSteps.{items_step, items_fault, items_all}
use Rattle.sasi_manifest.specs.Edits.{new_file_format}
use Rattle.sasi_manifest.proofs.read_files.read_each_added.Goals as goal

pub loop-turn-preserved : goal.loop-turn-preserved
loop-turn-preserved c =
    items_step (λ before. read (new_file_format c.args.tables.now c.args.table c.args.removed.now before)) c.args.count c.args.reader.now (c.args.count - c.loop-turn._turn) (c.args.count - (c.loop-turn._turn + 1)) c.loop-turn.added c.loop-turn.added _ c.loop-turn.reader c.in_ok-next.next c.read_file.new.reader
    (omega (arith, c.loop-turn-test.true)) refl c.in_ok-next.ensures c.in_ok-added.ensures c.loop-turn.invariant

pub returns-in_err-next : goal.returns-in_err-next
returns-in_err-next c =
    let p = err_from_is_err_and c.from_residual.result c.from_residual.ensures.1 in
    rw (p.1, p.2)
    (items_fault (λ before. read (new_file_format c.args.tables.now c.args.table c.args.removed.now before)) c.args.count c.args.reader.now (c.args.count - c.loop-turn._turn) (c.args.count - (c.loop-turn._turn + 1)) c.loop-turn.added c.loop-turn.added c.loop-turn.reader c.in_err-next.field-0.0
    (omega (arith, c.loop-turn-test.true)) refl c.in_err-next.ensures c.loop-turn.invariant)

pub returns : goal.returns
returns c = items_all (λ before. read (new_file_format c.args.tables.now c.args.table c.args.removed.now before)) c.args.count c.args.reader.now (c.args.count - c.loop-turn._turn) c.loop-turn.added c.loop-turn.reader (omega (arith, c.loop-turn-test.false)) c.loop-turn.invariant
