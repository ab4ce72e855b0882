-- One read after another.
use Rattle.std.proofs.Common.{ℕ, ◌+◌, ◌≤◌, refl, ◌∙◌, arith}
use Rattle.std.specs.declared.result.Result.TheVariants.{Ok, Err}
use Rattle.sasi_host.specs.declared.name.FileName.{FileName}
use Rattle.sasi_host.specs.declared.fault.ReadFault.{ReadFault}
use Rattle.sasi_host.specs.View.{View, IsThere, ReadCost}
use Rattle.sasi_host.specs.Disk.{Changes, Same}
use Rattle.sasi_host.proofs.ContentLaws.{contents_same, there_where}
use Rattle.sasi_host.proofs.ChangeLaws.{stays, then_same}
use Rattle.sasi_host.proofs.CauseLaws.{fault_reads, reads_behind}
use Rattle.sasi_dataread.specs.Reads.{ReadsWithin}

pub there_same : (a b : View) (file : FileName) → Changes Same a b → IsThere a file → IsThere b file
there_same a b file same there = there_where a b Same file same (contents_same a b file same) there

pub passes_none : (v : View) → ReadsWithin 0 v v
passes_none v = record { changes = stays v; disk = refl; out = refl; reads = omega arith }

pub passes_on : {T : Type 0} (a b c : View) (n m k : ℕ) (x : T) → ReadsWithin n a b → ReadCost m b c (Ok x) → Changes Same b c → n + m ≤ k → ReadsWithin k a c
passes_on a b c n m k x first second same le = record {
  changes = then_same a b c Same first.changes same;
  disk = second.ok ∙ first.disk;
  out = second.out ∙ first.out;
  reads = omega (arith, first.reads, second.reads, le);
}

-- what made a call fail made a longer one fail
pub causes_fault : {S T : Type 0} (a b c : View) (n m k : ℕ) (f : ReadFault) → ReadsWithin n a b → ReadCost {T = S} m b c (Err f) → n + m ≤ k
    → ReadCost {T = T} k a c (Err f)
causes_fault a b c n m k f first second le = fault_reads a c k k f (omega arith) (reads_behind a b c m k (Err f) first.disk first.out (omega (arith, le, first.reads)) second)

-- and what made it succeed
pub causes_ok : {T : Type 0} (a b : View) (n k : ℕ) (x : T) → ReadsWithin n a b → n ≤ k → ReadCost k a b (Ok x)
causes_ok a b n k x passes le = record {
  disk = omega (arith, passes.disk);
  out = passes.out;
  reads = omega (arith, passes.reads, le);
  ok = passes.disk;
  failed = tt;
  memory = tt;
  damaged = tt;
}
