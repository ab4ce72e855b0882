use Rattle.std.proofs.Common.{◌-◌}
use Rattle.sasi_manifest.proofs.Records.{IsReading}
use Rattle.sasi_manifest.proofs.read_record.read_edits.Given as goal

abbrev pub invariant-loop-turn : goal.invariant-loop-turn
invariant-loop-turn l = IsReading l.fn.listed l.count l.fn.reader (l.count - l._turn) l.listed l.reader
