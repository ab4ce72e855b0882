use Rattle.std.proofs.Common.{◌≡◌, Some, List, sym, ◌∙◌, ap, subst}
use Rattle.std.proofs.lemmas.Result.{err_from_is_err_and}
use Rattle.sasi_types.specs.declared.column.ColumnType.{ColumnType}
use Rattle.sasi_formats.specs.Reader.{Outcome, Got, outcome_as, read}
use Rattle.sasi_formats.specs.Gives.{FailsWith}
use Rattle.sasi_body.specs.Body.{Content, body_of}
use Rattle.sasi_commitlog.specs.Format.{mutation_of}
use Rattle.sasi_commitlog.proofs.Payloads.{fields_fail, fields_read}
use Rattle.sasi_commitlog.proofs.payload.read_fields.Goals as goal

pub returns-in_err-content : goal.returns-in_err-content
returns-in_err-content c =
    let p = err_from_is_err_and c.from_residual-in_err-content.result c.from_residual-in_err-content.ensures.1 in
    let whole = fields_read c.args.tables.now c.args.reader.now c.read_u32.new.reader c.in_ok-table.table c.in-Some.types.now c.in_ok-table.ensures (sym c.in-Some.ensures) in
    rw (p.1, p.2) (fields_fail c.in_ok-table.table (read (mutation_of c.args.tables.now) c.args.reader.now) (read (body_of c.in-Some.types.now) c.read_u32.new.reader) c.in_err-content.field-0.0 whole
    (subst (λ (t : List ColumnType). FailsWith (read (body_of t) c.read_u32.new.reader) c.in_err-content.field-0.0) c.as_slice.ensures c.in_err-content.ensures))

pub returns : goal.returns
returns c =
    fields_read c.args.tables.now c.args.reader.now c.read_u32.new.reader c.in_ok-table.table c.in-Some.types.now c.in_ok-table.ensures (sym c.in-Some.ensures)
    ∙ ap (λ (r : Outcome Content). outcome_as (λ (b : Content). (c.in_ok-table.table, b)) r)
    (subst (λ (t : List ColumnType). read (body_of t) c.read_u32.new.reader ≡ Got c.in_ok-content.content c.read_content.new.reader) c.as_slice.ensures c.in_ok-content.ensures)
