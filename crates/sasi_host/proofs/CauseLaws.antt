-- Laws of what reads cost and why they fail, one after another.
use Rattle.std.specs.Prelude.{◌≡◌, ℕ, ◌+◌, ◌≤◌, Ok, Err}
use Rattle.std.proofs.Common.{◌∙◌, arith}
use Rattle.std.specs.declared.result.Result.{Result}
use Rattle.sasi_host.specs.declared.damage.Damage.{Damage}
use Rattle.sasi_host.specs.declared.fault.ReadFault.{ReadFault}
use Rattle.sasi_host.specs.declared.fault.ReadFault.TheVariants as fault
use Rattle.sasi_host.specs.View.{View, ReadCost}
use Rattle.sasi_host.proofs.FailingLaws.{failed_behind}

-- reads behind calls of which none failed
pub reads_behind : {T : Type 0} (a b c : View) (n most : ℕ) (result : Result T ReadFault) → b.disk_faults ≡ a.disk_faults → b.out_faults ≡ a.out_faults
    → b.reads + n ≤ a.reads + most → ReadCost n b c result → ReadCost most a c result
reads_behind a b c n most (Ok x) disk out credit two = record {
  disk = omega (arith, disk, two.disk);
  out = two.out ∙ out;
  reads = omega (arith, credit, two.reads);
  ok = two.ok ∙ disk;
  failed = tt;
  memory = tt;
  damaged = tt;
}
reads_behind a b c n most (Err f) disk out credit two = record {
  disk = omega (arith, disk, two.disk);
  out = two.out ∙ out;
  reads = omega (arith, credit, two.reads);
  ok = tt;
  failed = λ is. failed_behind a.disk_faults b.disk_faults c.disk_faults c.failed_last disk (two.failed is);
  memory = λ is. two.memory is ∙ disk;
  damaged = λ damage is. two.damaged damage is ∙ disk;
}

-- reads after reads
pub reads_on : {S T : Type 0} (a b c : View) (n m most : ℕ) (first : S) (second : Result T ReadFault) → n + m ≤ most → ReadCost n a b (Ok first)
    → ReadCost m b c second → ReadCost most a c second
reads_on a b c n m most first second le one two = reads_behind a b c m most second one.ok one.out (omega (arith, le, one.reads)) two

-- fewer reads are at most more
pub reads_within : {T : Type 0} (a b : View) (n most : ℕ) (result : Result T ReadFault) → n ≤ most → ReadCost n a b result → ReadCost most a b result
reads_within a b n most result le one = record {
  disk = one.disk;
  out = one.out;
  reads = omega (arith, le, one.reads);
  ok = one.ok;
  failed = one.failed;
  memory = one.memory;
  damaged = one.damaged;
}

-- a fault that is handed on is the same one
pub fault_reads : {S T : Type 0} (a b : View) (n most : ℕ) (f : ReadFault) → n ≤ most → ReadCost {T = S} n a b (Err f) → ReadCost {T = T} most a b (Err f)
fault_reads a b n most f le one = record {
  disk = one.disk;
  out = one.out;
  reads = omega (arith, le, one.reads);
  ok = tt;
  failed = one.failed;
  memory = one.memory;
  damaged = one.damaged;
}

-- damage that is told after them isn't a failure of the host
pub damage_reads : {S T : Type 0} (a b : View) (n most : ℕ) (first : S) (damage : Damage) → n ≤ most → ReadCost n a b (Ok first)
    → ReadCost {T = T} most a b (Err (fault.Damaged damage))
damage_reads a b n most first damage le one = record {
  disk = one.disk;
  out = one.out;
  reads = omega (arith, le, one.reads);
  ok = tt;
  failed = λ is. absurd (cc);
  memory = λ is. absurd (cc);
  damaged = λ other is. one.ok;
}

-- an answer after them isn't one either
pub ok_reads : {S T : Type 0} (a b : View) (n : ℕ) (first : S) (x : T) → ReadCost n a b (Ok first) → ReadCost n a b (Ok x)
ok_reads a b n first x one = record {
  disk = one.disk;
  out = one.out;
  reads = one.reads;
  ok = one.ok;
  failed = tt;
  memory = tt;
  damaged = tt;
}
