use Rattle.std.proofs.Common.{◌-◌, ◌^◌}
use Rattle.sasi_manifest.specs.Reading.{IsReadingManifest}
use Rattle.sasi_manifest.proofs.open.open_manifest.Given as goal

abbrev pub invariant-loop-listed : goal.invariant-loop-listed
invariant-loop-listed g l = IsReadingManifest (g.H.Host.view l.fn.host) (g.H.Host.view l.host) l.number l.gated l.listed

abbrev pub decreases-loop-listed : goal.decreases-loop-listed
decreases-loop-listed g l = 2 ^ 62 - l.gated.at
