use Rattle.std.proofs.Common.{◌-◌}
use Rattle.sasi_formats.specs.Reader.{read}
use Rattle.sasi_formats.proofs.ItemSteps.{SoFar}
use Rattle.sasi_manifest.specs.Edits.{files_of, removed_number}
use Rattle.sasi_manifest.proofs.read_files.read_each_removed.Given as goal

abbrev pub invariant-loop-turn : goal.invariant-loop-turn
invariant-loop-turn l = SoFar (λ before. read (removed_number (files_of l.tables l.table) before)) l.count l.fn.reader (l.count - l._turn) l.removed l.reader
