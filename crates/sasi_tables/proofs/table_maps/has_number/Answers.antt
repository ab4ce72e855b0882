use Rattle.std.proofs.Common.{subst, sym}
use Rattle.sasi_tables.specs.Held.{Rise}
use Rattle.sasi_tables.proofs.table_maps.has_number.Goals as goal

pub is_among-requires : goal.is_among-requires
is_among-requires c = subst Rise (sym c.as_slice.ensures) c.requires
