-- Calls of which none failed, one after another.
use Rattle.std.proofs.Common.{◌≡◌, ◌∙◌, refl}
use Rattle.std.specs.Prelude.{Ok}
use Rattle.sasi_host.specs.View.{View}
use Rattle.sasi_indexwrite.specs.Causes.{WriteCauses}

-- no call failed, and none read
pub record IsQuiet (old new : View) : Type 0 where
  pub disk : new.disk_faults ≡ old.disk_faults
  pub out : new.out_faults ≡ old.out_faults
  pub reads : new.reads ≡ old.reads

pub quiet_none : (v : View) → IsQuiet v v
quiet_none v = record { disk = refl; out = refl; reads = refl }

pub quiet_on : (a b c : View) → IsQuiet a b → IsQuiet b c → IsQuiet a c
quiet_on a b c first second = record { disk = second.disk ∙ first.disk; out = second.out ∙ first.out; reads = second.reads ∙ first.reads }

-- a write of an index file that succeeds is one such call
pub write_quiet : {T : Type 0} (a b : View) (x : T) → WriteCauses a b (Ok x) → IsQuiet a b
write_quiet a b x causes = record { disk = causes.ok; out = causes.out; reads = causes.reads }
