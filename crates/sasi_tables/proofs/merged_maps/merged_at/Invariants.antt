use Rattle.std.proofs.Common.{◌≡◌, take}
use Rattle.std.specs.Option.{option_map}
use Rattle.sasi_merge.specs.Merging.{merged_part}
use Rattle.sasi_tables.specs.Held.{maps_with}
use Rattle.sasi_tables.specs.MergedMaps.{heads_after}
use Rattle.sasi_tables.proofs.merged_maps.merged_at.Given as goal

-- what the maps so far have of the key
abbrev pub invariant-loop-number : goal.invariant-loop-number
invariant-loop-number l = l.part ≡ merged_part l.key (heads_after (option_map (λ k. k.now) l.last) (maps_with l.maps (take l.number-index l.numbers)))
