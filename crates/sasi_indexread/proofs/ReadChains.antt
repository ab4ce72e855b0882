-- One read after another.
use Rattle.std.proofs.Common.{◌≡◌, ℕ, ◌+◌, ◌≤◌, refl, ◌∙◌, arith, subst, Option}
use Rattle.std.specs.declared.result.Result.TheVariants.{Ok, Err}
use Rattle.sasi_host.specs.declared.name.FileName.{FileName}
use Rattle.sasi_host.specs.declared.fault.ReadFault.{ReadFault}
use Rattle.sasi_host.specs.View.{View, IsThere, ReadCost}
use Rattle.sasi_host.specs.Disk.{Changes, Same}
use Rattle.sasi_host.proofs.ContentLaws.{contents_same, there_where}
use Rattle.sasi_host.proofs.CauseLaws.{fault_reads, reads_behind}
use Rattle.sasi_host.specs.Names.{Folder}
use Rattle.sasi_host.specs.PageReading.{HasRead}
use Rattle.sasi_host.proofs.PageReadingLaws.{read_then}

pub there_same : (a b : View) (file : FileName) → Changes Same a b → IsThere a file → IsThere b file
there_same a b file same there = there_where a b Same file same (contents_same a b file same) there

-- no call failed, and at most so many reads were made
pub record Spends (most : ℕ) (old new : View) : Type 0 where
  pub disk : new.disk_faults ≡ old.disk_faults
  pub out : new.out_faults ≡ old.out_faults
  pub reads : new.reads ≤ old.reads + most

pub spends_none : (v : View) → Spends 0 v v
spends_none v = record { disk = refl; out = refl; reads = omega arith }

pub spends_on : {T : Type 0} (a b c : View) (n m k : ℕ) (x : T) → Spends n a b → ReadCost m b c (Ok x) → n + m ≤ k → Spends k a c
spends_on a b c n m k x first second le = record { disk = second.ok ∙ first.disk; out = second.out ∙ first.out; reads = omega (arith, first.reads, second.reads, le) }

pub spends_fault : {S T : Type 0} (a b c : View) (n m k : ℕ) (f : ReadFault) → Spends n a b → ReadCost {T = S} m b c (Err f) → n + m ≤ k → ReadCost {T = T} k a c (Err f)
spends_fault a b c n m k f first second le = fault_reads a c k k f (omega arith) (reads_behind a b c m k (Err f) first.disk first.out (omega (arith, le, first.reads)) second)

pub spends_ok : {T : Type 0} (a b : View) (n k : ℕ) (x : T) → Spends n a b → n ≤ k → ReadCost k a b (Ok x)
spends_ok a b n k x spends le = record {
  disk = omega (arith, spends.disk);
  out = spends.out;
  reads = omega (arith, spends.reads, le);
  ok = spends.disk;
  failed = tt;
  memory = tt;
  damaged = tt;
}

-- two reads of a file that is named twice
pub read_both : (K L : Option Folder → Type 0) (A B C : FileName → Type 0) (u v w : View) (file first second : FileName) → first ≡ file → second ≡ file → HasRead K A B u v first → HasRead L B C v w second → HasRead L A C u w file
read_both K L A B C u v w file first second one two before after =
    read_then K L A B C u v w file (subst (λ (n : FileName). HasRead K A B u v n) one before) (subst (λ (n : FileName). HasRead L B C v w n) two after)
