use Rattle.std.proofs.Common.{◌≡◌, ◌++◌, drop, length}
use Rattle.sasi_scan.specs.Opening.{map_heads, map_sources}
use Rattle.sasi_scan.proofs.sources.add_maps.Given as goal

-- the maps so far, and those that are left
abbrev pub invariant-loop-position : goal.invariant-loop-position
invariant-loop-position l = record {
  heads : l.heads ++ map_heads (drop l.position l.maps) ≡ l.fn.heads ++ map_heads l.maps;
  sources : l.sources.items ++ map_sources l.position (drop l.position l.maps) ≡ l.fn.sources.items ++ map_sources 0 l.maps;
  end : l.position-end ≡ length l.maps;
}
