use Rattle.std.proofs.Common.{ap, sym, ◌∙◌}
use Rattle.std.specs.Option.{option_copied}
use Rattle.sasi_engine.proofs.MapFinding.{map_missing}
use Rattle.sasi_engine.proofs.map_finds.find_in_map.Goals as goal

pub returns-in_default : goal.returns-in_default
returns-in_default c = map_missing c.args.maps.now c.args.key.now c.args.number (sym (ap option_copied c.in_default.is) ∙ c.get.ensures)
