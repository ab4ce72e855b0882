use Rattle.std.proofs.Common.{◌≡◌, None, drop}
use Rattle.std.specs.Option.{option_map}
use Rattle.sasi_merge.specs.Least.{least_from}
use Rattle.sasi_tables.specs.Held.{maps_with}
use Rattle.sasi_tables.specs.MergedMaps.{heads_after}
use Rattle.sasi_tables.proofs.merged_maps.least_after.Given as goal

-- the least so far, and the maps that are left
abbrev pub invariant-loop-number : goal.invariant-loop-number
invariant-loop-number l =
    least_from (option_map (λ k. k.now) l.least) (heads_after (option_map (λ k. k.now) l.last) (maps_with l.maps (drop l.number-index l.numbers))) ≡ least_from None (heads_after (option_map (λ k. k.now) l.last) (maps_with l.maps l.numbers))
