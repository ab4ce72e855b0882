use Rattle.std.proofs.Common.{◌-◌}
use Rattle.sasi_formats.specs.Reader.{read}
use Rattle.sasi_formats.proofs.ItemSteps.{SoFar}
use Rattle.sasi_formats.proofs.items.read_items.Given as goal

abbrev pub invariant-loop-turn : goal.invariant-loop-turn
invariant-loop-turn g l = SoFar (λ before. read (g.R.ReadItem.format l.item before)) l.count l.fn.reader (l.count - l._turn) l.items l.reader
