use Rattle.std.proofs.Common.{Bor, Option, Some, ap, sym, ◌∙◌}
use Rattle.std.specs.Option.{option_map}
use Rattle.sasi_tables.specs.Held.{maps_with}
use Rattle.sasi_tables.proofs.MergedMaps.{gives_none, gives_some}
use Rattle.sasi_types.specs.declared.decorated_key.DecoratedKey.{DecoratedKey}
use Rattle.sasi_tables.proofs.merged_maps.next_merged.Goals as goal

pub returns-in_default : goal.returns-in_default
returns-in_default c = gives_none (option_map (λ (k : Bor DecoratedKey). k.now) c.args.last) (maps_with c.args.maps.now c.args.numbers.now) (sym c.least_after.ensures ∙ ap (λ (o : Option (Bor DecoratedKey)). option_map (λ k. k.now) o) c.in_default.is)

pub returns : goal.returns
returns c =
    gives_some (option_map (λ (k : Bor DecoratedKey). k.now) c.args.last) (maps_with c.args.maps.now c.args.numbers.now) c.in_ok-key.key c.in_ok-partition.partition
    (sym c.least_after.ensures ∙ ap (λ (o : Option (Bor DecoratedKey)). option_map (λ k. k.now) o) c.in-Some.is ∙ ap Some (sym c.in_ok-key.ensures))
    c.in_ok-partition.ensures
