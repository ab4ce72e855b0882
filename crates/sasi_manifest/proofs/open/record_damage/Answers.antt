use Rattle.std.proofs.Common.{refl}
use Rattle.sasi_manifest.proofs.Opening.{tells_broken, tells_long, tells_short}
use Rattle.sasi_manifest.proofs.open.record_damage.Goals as goal

pub returns-in-Short-clause-damaged : goal.returns-in-Short-clause-damaged
returns-in-Short-clause-damaged c from shown = tells_short c.args.number c.args.before from c.args.payload.now c.args.fault _ c.in-Short.is shown c.other_length.ensures.file c.other_length.ensures.damage

pub returns-in-Long-clause-damaged : goal.returns-in-Long-clause-damaged
returns-in-Long-clause-damaged c from shown = tells_long c.args.number c.args.before from c.args.payload.now c.args.fault _ c.in-Long.is shown c.other_length-in-Long.ensures.file c.other_length-in-Long.ensures.damage

pub returns-in-Broken-clause-damaged : goal.returns-in-Broken-clause-damaged
returns-in-Broken-clause-damaged c from shown =
    tells_broken c.args.number c.args.before from c.args.payload.now c.args.fault c.in-Broken.broken _ c.in-Broken.is shown c.manifest.ensures refl refl refl
