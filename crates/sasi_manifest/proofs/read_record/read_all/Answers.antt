use Rattle.std.proofs.Common.{◌≡◌, ◌^◌, ◌-◌, subst}
use Rattle.std.specs.Int.{w32}
use Rattle.std.proofs.lemmas.Result.{err_from_is_err_and}
use Rattle.sasi_fields.specs.Reading.{Reading}
use Rattle.sasi_formats.specs.Reader.{Got, read}
use Rattle.sasi_formats.specs.Fields.{in_range}
use Rattle.sasi_formats.specs.Gives.{FailsWith}
use Rattle.sasi_manifest.proofs.Records.{all_read, count_fails, edits_fail, more_left, none_left, some_left}
use Rattle.sasi_manifest.proofs.read_record.read_all.Goals as goal

pub returns-in_err-count-clause-shown : goal.returns-in_err-count-clause-shown
returns-in_err-count-clause-shown c =
    let p = err_from_is_err_and c.from_residual.result c.from_residual.ensures.1 in
    rw (p.1, p.2) (count_fails c.args.listed c.args.payload.now c.in_err-count.field-0.0 (subst (λ (s : Reading). FailsWith (read (in_range w32 1 (2 ^ 32 - 1)) s) c.in_err-count.field-0.0) c.new-reader.ensures c.in_err-count.ensures))

pub returns-in_err-made-clause-shown : goal.returns-in_err-made-clause-shown
returns-in_err-made-clause-shown c =
    let p = err_from_is_err_and c.from_residual-in_err-made.result c.from_residual-in_err-made.ensures.1 in
    rw (p.1, p.2) (edits_fail c.args.listed c.args.payload.now c.in_ok-count.count c.read_u32_in_range.new.reader (subst (λ (s : Reading). read (in_range w32 1 (2 ^ 32 - 1)) s ≡ Got c.in_ok-count.count c.read_u32_in_range.new.reader) c.new-reader.ensures c.in_ok-count.ensures) c.in_err-made.field-0.0 c.in_err-made.ensures.fails)

pub returns-then-not-is_empty-clause-shown : goal.returns-then-not-is_empty-clause-shown
returns-then-not-is_empty-clause-shown c =
    let made = c.in_ok-made.ensures.ok in
    more_left c.args.listed c.args.payload.now c.in_ok-count.count c.read_u32_in_range.new.reader (subst (λ (s : Reading). read (in_range w32 1 (2 ^ 32 - 1)) s ≡ Got c.in_ok-count.count c.read_u32_in_range.new.reader) c.new-reader.ensures c.in_ok-count.ensures) made.0 c.read_edits.new.reader made.1
    (some_left _ c.left.result.now c.is_empty.result c.left.ensures c.is_empty.ensures c.if-not-is_empty.true)

pub returns-clause-ok : goal.returns-clause-ok
returns-clause-ok c =
    let made = c.in_ok-made.ensures.ok in (
      made.0,
      all_read c.args.listed c.args.payload.now c.in_ok-count.count c.read_u32_in_range.new.reader (subst (λ (s : Reading). read (in_range w32 1 (2 ^ 32 - 1)) s ≡ Got c.in_ok-count.count c.read_u32_in_range.new.reader) c.new-reader.ensures c.in_ok-count.ensures) made.0 c.read_edits.new.reader made.1
          (none_left _ c.left.result.now c.is_empty.result c.left.ensures c.is_empty.ensures c.if-not-is_empty.false),
      made.2,
    )
