use Rattle.std.proofs.Common.{◌≡◌, drop, length, map}
use Rattle.sasi_memtable.specs.MemtableView.{MemtableView}
use Rattle.sasi_scan.specs.Finding.{found_in}
use Rattle.sasi_scan.proofs.key_lookup.find_in_maps.Given as goal

-- what was found so far, with what the maps have that are left, is what all have
abbrev pub invariant-loop-position : goal.invariant-loop-position
invariant-loop-position l = record {
  found : found_in l.key l.all (map (λ (m : MemtableView). m.partitions) (drop l.position l.maps)) ≡ found_in l.key l.fn.found (map (λ (m : MemtableView). m.partitions) l.maps);
  end : l.position-end ≡ length l.maps;
}
