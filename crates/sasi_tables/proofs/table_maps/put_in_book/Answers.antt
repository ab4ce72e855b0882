use Rattle.std.proofs.Common.{ap, ◌∙◌}
use Rattle.std.specs.Prelude.{Err}
use Rattle.sasi_tables.proofs.table_maps.put_in_book.Goals as goal

pub memory_fault-requires : goal.memory_fault-requires
memory_fault-requires g c = λ class e. c.requires.known class (c.put_from.ensures.missing class (c.in-Err.is ∙ ap Err e))
