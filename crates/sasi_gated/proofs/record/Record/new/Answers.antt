use Rattle.sasi_gated.proofs.Frames.{framed, payload_of_frame}
use Rattle.sasi_gated.proofs.record.Record.new.Goals as goal

pub invariant_of-result : goal.invariant_of-result
invariant_of-result c = framed c.args.payload.now c.in_ok-bytes.bytes.items c.in_ok-bytes.ensures c.requires.some c.requires.short

pub returns : goal.returns
returns c = payload_of_frame c.args.payload.now c.in_ok-bytes.bytes.items c.in_ok-bytes.ensures
