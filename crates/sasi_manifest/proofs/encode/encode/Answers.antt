use Rattle.std.proofs.Common.{length, arith, ap, length-append}
use Rattle.sasi_manifest.specs.Edits.{encoded}
use Rattle.sasi_manifest.proofs.EditBytes.{edits_few, encoded_length}
use Rattle.sasi_manifest.proofs.encode.encode.Goals as goal

pub put_edits-requires-clause-few : goal.put_edits-requires-clause-few
put_edits-requires-clause-few c = edits_few c.args.edits.now c.requires.short

pub new-requires-clause-some : goal.new-requires-clause-some
new-requires-clause-some c =
    omega (
      arith,
      encoded_length c.args.edits.now,
      ap length c.deref.ensures.value,
      ap length c.in_ok-put_edits.ensures,
      ap length
          c.new-payload.ensures.items,
      length-append c.new-payload.result.items (encoded c.args.edits.now),
    )
