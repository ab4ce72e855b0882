use Rattle.std.proofs.Common.{◌≡◌, ◌+◌, ◌++◌, drop, map}
use Rattle.sasi_manifest.specs.ListedTables.{listed}
use Rattle.sasi_recover.specs.ReplayState.{empty_maps}
use Rattle.sasi_recover.proofs.replay.empty_tables.Given as goal

-- those so far, and then the others
abbrev pub invariant-loop-listed : goal.invariant-loop-listed
invariant-loop-listed l = l.maps.items ++ empty_maps l.partitioner (1 + l.listed-index) (map listed (drop l.listed-index l.tables)) ≡ empty_maps l.partitioner 1 (map listed l.tables)
