use Rattle.std.proofs.Common.{ap}
use Rattle.sasi_schema.specs.SchemaViews.{SchemaView}
use Rattle.sasi_tables.proofs.ListedSchema.{defined_all, defining_first, defining_free, defining_more, defining_number}
use Rattle.sasi_tables.proofs.parts.schema_of.Goals as goal

pub loop-listed-init : goal.loop-listed-init
loop-listed-init c = rw c.new-schema.ensures (defining_first c.args.tables.now c.requires.numbers c.requires.apart)

pub restore_table-requires-clause-number : goal.restore_table-requires-clause-number
restore_table-requires-clause-number c =
    defining_number c.loop-listed.schema.definitions c.args.tables.now c.loop-listed.listed-index c.listed-item.result c.in_ok-copy.field-0 c.loop-listed.invariant c.loop-listed-test.true c.listed-item.is c.in_ok-copy.ensures.definition c.in_ok-copy.ensures.number

pub restore_table-requires-clause-free : goal.restore_table-requires-clause-free
restore_table-requires-clause-free c =
    defining_free c.loop-listed.schema.definitions c.args.tables.now c.loop-listed.listed-index c.listed-item.result c.in_ok-copy.field-0 c.loop-listed.invariant c.loop-listed-test.true c.listed-item.is c.in_ok-copy.ensures.definition

pub loop-listed-preserved : goal.loop-listed-preserved
loop-listed-preserved c =
    defining_more c.loop-listed.schema.definitions c.args.tables.now c.loop-listed.listed-index c.listed-item.result c.in_ok-copy.field-0 c.loop-listed.invariant c.loop-listed-test.true c.listed-item.is c.in_ok-copy.ensures.definition c.restore_table.new.self.definitions (ap (λ (v : SchemaView). v.definitions) c.in_ok-restore_table.ensures.ok)

pub returns : goal.returns
returns c = defined_all c.loop-listed.schema.definitions c.args.tables.now c.loop-listed.listed-index c.loop-listed.invariant c.loop-listed-test.false
