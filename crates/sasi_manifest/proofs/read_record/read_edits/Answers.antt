use Rattle.std.proofs.Common.{◌≡◌, ◌-◌, ◌+◌, Option, arith, subst}
use Rattle.std.proofs.lemmas.Result.{err_from_is_err_and}
use Rattle.sasi_formats.specs.Reader.{Got, read}
use Rattle.sasi_formats.specs.Gives.{FailsWith}
use Rattle.sasi_manifest.specs.declared.listing.Listing.{Listing}
use Rattle.sasi_manifest.specs.Edits.{edit}
use Rattle.sasi_manifest.proofs.Records.{read_applies, reading_fails, reading_next_edit, reading_ends}
use Rattle.sasi_manifest.proofs.read_record.read_edits.Goals as goal

pub returns-in_err-edit-clause-fails : goal.returns-in_err-edit-clause-fails
returns-in_err-edit-clause-fails c =
    let p = err_from_is_err_and c.from_residual.result c.from_residual.ensures.1 in
    rw (p.1, p.2)
    (reading_fails c.args.listed c.args.count c.args.reader.now (c.args.count - c.loop-turn._turn) (c.args.count - (c.loop-turn._turn + 1)) c.loop-turn.listed c.loop-turn.reader c.in_err-edit.field-0.0
    (omega (arith, c.loop-turn-test.true)) (subst (λ (l : Option Listing). FailsWith (read (edit l) c.loop-turn.reader) c.in_err-edit.field-0.0) c.as_ref.ensures.value c.in_err-edit.ensures) c.loop-turn.invariant)

pub apply-requires : goal.apply-requires
apply-requires c =
    read_applies c.loop-turn.listed c.loop-turn.reader c.read_edit.new.reader c.in_ok-edit.edit
    (subst (λ (l : Option Listing). read (edit l) c.loop-turn.reader ≡ Got c.in_ok-edit.edit c.read_edit.new.reader) c.as_ref.ensures.value c.in_ok-edit.ensures)

pub loop-turn-preserved : goal.loop-turn-preserved
loop-turn-preserved c =
    reading_next_edit c.args.listed c.args.count c.args.reader.now (c.args.count - c.loop-turn._turn) (c.args.count - (c.loop-turn._turn + 1)) c.loop-turn.listed _ c.loop-turn.reader c.read_edit.new.reader c.in_ok-edit.edit
    (omega (arith, c.loop-turn-test.true)) (subst (λ (l : Option Listing). read (edit l) c.loop-turn.reader ≡ Got c.in_ok-edit.edit c.read_edit.new.reader) c.as_ref.ensures.value c.in_ok-edit.ensures) c.in_ok-apply.ensures c.loop-turn.invariant

pub returns-clause-ok : goal.returns-clause-ok
returns-clause-ok c =
    let on = c.loop-turn.invariant in
    (on.es, reading_ends c.args.listed c.args.count c.args.reader.now (c.args.count - c.loop-turn._turn) c.loop-turn.listed c.loop-turn.reader (omega (arith, c.loop-turn-test.false)) on, on.makes)
