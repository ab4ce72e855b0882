use Rattle.std.proofs.Common.{arith}
use Rattle.sasi_schema.specs.Defined.{definition}
use Rattle.sasi_manifest.proofs.ColumnTypes.{type_found, type_missing}
use Rattle.sasi_manifest.proofs.column_types.type_at.Goals as goal

pub returns-in-Some : goal.returns-in-Some
returns-in-Some c =
    type_found (definition c.args.table.now) c.args.column c.position_of-position.result c.as_slice.result.now c.as_slice.ensures (omega (arith, c.if-column-eq0.false)) c.position_of-position.ensures.low c.position_of-position.ensures.high
    c.in-Some.found.now c.in-Some.ensures.lookup.0 c.in-Some.ensures.lookup.1

pub returns-in-None : goal.returns-in-None
returns-in-None c =
    type_missing (definition c.args.table.now) c.args.column c.position_of-position.result c.as_slice.result.now c.as_slice.ensures (omega (arith, c.if-column-eq0.false)) c.position_of-position.ensures.low c.position_of-position.ensures.high
    c.in-None.ensures.lookup.0
