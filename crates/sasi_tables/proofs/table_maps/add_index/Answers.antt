use Rattle.std.proofs.Common.{ap, ◌∙◌}
use Rattle.std.specs.Prelude.{Err}
use Rattle.sasi_tables.proofs.AddedToMaps.{none_missing}
use Rattle.sasi_tables.proofs.table_maps.add_index.Goals as goal

pub memory_fault-requires : goal.memory_fault-requires
memory_fault-requires g c = λ class e. none_missing _ c.args.def.now c.requires.known class (c.index.ensures.missing class (c.in-Err.is ∙ ap Err e))
