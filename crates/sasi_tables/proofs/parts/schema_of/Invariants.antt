use Rattle.sasi_tables.proofs.ListedSchema.{IsDefining}
use Rattle.sasi_tables.proofs.parts.schema_of.Given as goal

abbrev pub invariant-loop-listed : goal.invariant-loop-listed
invariant-loop-listed l = IsDefining l.schema.definitions l.tables l.listed-index
