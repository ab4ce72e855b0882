-- Laws of why reads of gated files fail, one after another.
use Rattle.std.specs.Prelude.{◌≡◌, Ok, Err}
use Rattle.std.proofs.Common.{◌∙◌, arith}
use Rattle.std.specs.declared.result.Result.{Result}
use Rattle.sasi_host.specs.declared.fault.ReadFault.{ReadFault}
use Rattle.sasi_host.specs.declared.fault.ReadFault.TheVariants as fault
use Rattle.sasi_host.specs.View.{View}
use Rattle.sasi_host.proofs.FailingLaws.{failed_behind}
use Rattle.sasi_gated.specs.Causes.{ReadingCauses}

-- a read behind calls of which none failed
pub reading_behind : {T : Type 0} (a b c : View) (result : Result T ReadFault) → b.disk_faults ≡ a.disk_faults → b.out_faults ≡ a.out_faults
    → ReadingCauses b c result → ReadingCauses a c result
reading_behind a b c (Ok x) disk out two = record {
  disk = omega (arith, disk, two.disk);
  out = two.out ∙ out;
  ok = two.ok ∙ disk;
  failed = tt;
  memory = tt;
  damaged = tt;
}
reading_behind a b c (Err f) disk out two = record {
  disk = omega (arith, disk, two.disk);
  out = two.out ∙ out;
  ok = tt;
  failed = λ is. failed_behind a.disk_faults b.disk_faults c.disk_faults c.failed_last disk (two.failed is);
  memory = λ is. two.memory is ∙ disk;
  damaged = λ damage is. two.damaged damage is ∙ disk;
}

-- an error that is handed on is the same one
pub reading_handed : {S T : Type 0} (a b : View) (f : ReadFault) → ReadingCauses {T = S} a b (Err f) → ReadingCauses {T = T} a b (Err f)
reading_handed a b f one = record { disk = one.disk; out = one.out; ok = tt; failed = one.failed; memory = one.memory; damaged = one.damaged }

pub reading_gives : {S T : Type 0} (a b : View) (x : S) (y : T) → ReadingCauses a b (Ok x) → ReadingCauses a b (Ok y)
reading_gives a b x y one = record { disk = one.disk; out = one.out; ok = one.ok; failed = tt; memory = tt; damaged = tt }
