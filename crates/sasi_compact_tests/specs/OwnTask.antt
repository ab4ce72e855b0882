-- The compaction of the fixture.
use Rattle.std.specs.Prelude.{◌≡◌, [], ◌∷◌, None, IsTrue}
use Rattle.sasi_compact.specs.Tasks.{CanCompact}
use Rattle.sasi_compact.specs.declared.task.CompactTask.{CompactTask}

-- the data files 1 and 2 are to become 3, and no unit is done
pub record IsOwnTask (task : CompactTask) : Type 0 where
  pub can : CanCompact task.compaction
  pub usable : IsTrue task.usable
  pub none : task.output ≡ None
  pub sources : task.compaction.sources ≡ 1 ∷ 2 ∷ []
  pub number : task.compaction.number ≡ 3
