use Rattle.std.proofs.Common.{◌≡◌, drop}
use Rattle.sasi_scan.specs.Finding.{found_in}
use Rattle.sasi_engine.specs.TokenHits.{maps_numbered}
use Rattle.sasi_engine.proofs.map_finds.find_in_maps.Given as goal

-- what was found so far, with what the maps have that are left, is what all have
abbrev pub invariant-loop-number : goal.invariant-loop-number
invariant-loop-number l = found_in l.key l.all (maps_numbered l.maps (drop l.number-index l.numbers)) ≡ found_in l.key l.fn.found (maps_numbered l.maps l.numbers)
