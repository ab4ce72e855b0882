use Rattle.std.proofs.Common.{◌-◌}
use Rattle.sasi_formats.specs.Reader.{read}
use Rattle.sasi_formats.proofs.ItemSteps.{SoFar}
use Rattle.sasi_manifest.specs.Abbreviations.{column}
use Rattle.sasi_manifest.proofs.columns.read_each.Given as goal

abbrev pub invariant-loop-turn : goal.invariant-loop-turn
invariant-loop-turn l = SoFar (λ before. read (column before)) l.count l.fn.reader (l.count - l._turn) l.columns l.reader
