use Rattle.std.proofs.Common.{◌^◌, ℕ, subst, arith}
use Rattle.sasi_host.specs.Damages.{OnDamage}
use Rattle.sasi_manifest.specs.Reading.{IsDamageOfRecord}
use Rattle.sasi_manifest.proofs.Opening.{fault_within}
use Rattle.sasi_manifest.proofs.open.take_record.Goals as goal

pub record_damage-requires-clause-within : goal.record_damage-requires-clause-within
record_damage-requires-clause-within c = fault_within c.args.listed c.args.payload.now (2 ^ 62) c.in-Err.fault (let short = c.requires.short in omega arith) c.in-Err.ensures.shown

pub returns-in-Err-clause-damaged : goal.returns-in-Err-clause-damaged
returns-in-Err-clause-damaged c =
    subst (λ (n : ℕ). OnDamage (IsDamageOfRecord c.args.number n c.args.listed c.args.payload.now) c.record_damage.result) c.end_of-before.ensures (c.record_damage.ensures.damaged c.args.listed c.in-Err.ensures.shown)
