use Rattle.std.proofs.Common.{◌-◌, ◌^◌, ◌∙◌, ap, length, min, arith}
use Rattle.sasi_compact.proofs.RecordLength.{record_is}
use Rattle.sasi_compact.proofs.task.CompactTask.record_length.Goals as goal

pub returns : goal.returns
returns c listing table =
    c.length_of.ensures
    ∙ ap (λ n. min n (2 ^ 64 - 1)) (omega (arith, record_is listing table c.args.self.now.compaction c.args.parts.now, ap length c.as_slice.ensures, ap length c.as_slice-2.ensures))
