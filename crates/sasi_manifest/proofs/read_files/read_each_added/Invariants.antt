use Rattle.std.proofs.Common.{◌-◌}
use Rattle.sasi_formats.specs.Reader.{read}
use Rattle.sasi_formats.proofs.ItemSteps.{SoFar}
use Rattle.sasi_manifest.specs.Edits.{new_file_format}
use Rattle.sasi_manifest.proofs.read_files.read_each_added.Given as goal

abbrev pub invariant-loop-turn : goal.invariant-loop-turn
invariant-loop-turn l = SoFar (λ before. read (new_file_format l.tables l.table l.removed before)) l.count l.fn.reader (l.count - l._turn) l.added l.reader
