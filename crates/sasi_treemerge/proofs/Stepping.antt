-- One step of a merge after another.
use Rattle.std.proofs.Common.{◌≡◌, ℕ, ◌+◌, ◌*◌, ◌≤◌, refl, arith, ◌∙◌}
use Rattle.std.specs.declared.result.Result.TheVariants.{Ok, Err}
use Rattle.sasi_host.specs.declared.name.FileName.{FileName}
use Rattle.sasi_host.specs.declared.fault.ReadFault.{ReadFault}
use Rattle.sasi_host.specs.declared.fault.ReadFault.TheVariants as fault
use Rattle.sasi_host.specs.View.{View, IsThere, ReadCost}
use Rattle.sasi_host.specs.Disk.{Changes, Same}
use Rattle.sasi_host.proofs.ContentLaws.{contents_same, there_where}
use Rattle.std.specs.declared.result.Result.{Result}
use Rattle.std.proofs.Common.{List, ⊎_elim, ◌∷◌, Option, subst}
use Rattle.sasi_host.specs.Names.{Folder}
use Rattle.sasi_host.specs.PageReading.{HasRead}
use Rattle.sasi_host.proofs.PageReadingLaws.{read_then}
use Rattle.std.proofs.lemmas.Bool.Decides.{leb_tells}
use Rattle.std.proofs.lemmas.List.Sorted.{sum_by_popped}
use Rattle.std.specs.List.Sorted.{IsPermutation}
use Rattle.sasi_host.proofs.CauseLaws.{fault_reads, ok_reads, reads_behind}
use Rattle.sasi_treemerge.specs.declared.tree_source.TreeSource.{TreeSource}
use Rattle.sasi_treemerge.specs.Merges.{unread_in, unread_of}

pub there_same : (a b : View) (file : FileName) → Changes Same a b → IsThere a file → IsThere b file
there_same a b file same there = there_where a b Same file same (contents_same a b file same) there

-- no call failed, and two reads at most were made for each pair that was to be read before, and isn't any more
pub record Pays (old new : View) (before after : ℕ) : Type 0 where
  pub disk : new.disk_faults ≡ old.disk_faults
  pub out : new.out_faults ≡ old.out_faults
  pub reads : new.reads + 2 * after ≤ old.reads + 2 * before

pub pays_none : (v : View) (n : ℕ) → Pays v v n n
pays_none v n = record { disk = refl; out = refl; reads = omega arith }

pub pays_on : {T : Type 0} (a b c : View) (before mid after most : ℕ) (x : T) → Pays a b before mid → ReadCost most b c (Ok x) → c.reads + 2 * after ≤ b.reads + 2 * mid → Pays a c before after
pays_on a b c before mid after most x first second less = record { disk = second.ok ∙ first.disk; out = second.out ∙ first.out; reads = omega (arith, first.reads, less) }

pub pays_ok : {T : Type 0} (a b : View) (before after : ℕ) (x : T) → Pays a b before after → ReadCost (2 * before) a b (Ok x)
pays_ok a b before after x pays = record {
  disk = omega (arith, pays.disk);
  out = pays.out;
  reads = omega (arith, pays.reads);
  ok = pays.disk;
  failed = tt;
  memory = tt;
  damaged = tt;
}

pub pays_fault : {S T : Type 0} (a b c : View) (before mid : ℕ) (f : ReadFault) → Pays a b before mid → ReadCost {T = S} (2 * mid) b c (Err f) → ReadCost {T = T} (2 * before) a c (Err f)
pays_fault a b c before mid f first second =
    fault_reads a c (2 * before) (2 * before) f (omega arith) (reads_behind a b c (2 * mid) (2 * before) (Err f) first.disk first.out first.reads second)

-- a step reads nothing where no pair is to be read
pub head_causes : {T : Type 0} (a b : View) (source : TreeSource) (old others : List TreeSource) (result : Result T ReadFault) → IsPermutation old (source ∷ others) → ReadCost 2 a b result
    → (source.tree.value.tree.pairs ≤ source.tree.value.passed → b.reads ≡ a.reads) → ReadCost (2 * unread_of old) a b result
head_causes a b source old others result taken causes ended = record {
  disk = causes.disk;
  out = causes.out;
  reads = ⊎_elim
      (λ over. omega (arith, ended over.1))
      (λ more. omega (arith, sum_by_popped unread_in source old others taken, more.1, causes.reads))
      (leb_tells source.tree.value.tree.pairs source.tree.value.passed);
  ok = causes.ok;
  failed = causes.failed;
  memory = causes.memory;
  damaged = causes.damaged;
}

pub head_fails : {S T : Type 0} (a b : View) (source : TreeSource) (old others : List TreeSource) (f : ReadFault) → IsPermutation old (source ∷ others) → ReadCost {T = S} 2 a b (Err f)
    → (source.tree.value.tree.pairs ≤ source.tree.value.passed → b.reads ≡ a.reads) → ReadCost {T = T} (2 * unread_of old) a b (Err f)
head_fails a b source old others f taken causes ended = fault_reads a b (2 * unread_of old) (2 * unread_of old) f (omega arith) (head_causes a b source old others (Err f) taken causes ended)

pub head_gives : {S T : Type 0} (a b : View) (source : TreeSource) (old others : List TreeSource) (first : S) (x : T) → IsPermutation old (source ∷ others) → ReadCost 2 a b (Ok first)
    → (source.tree.value.tree.pairs ≤ source.tree.value.passed → b.reads ≡ a.reads) → ReadCost (2 * unread_of old) a b (Ok x)
head_gives a b source old others first x taken causes ended = ok_reads a b (2 * unread_of old) first x (head_causes a b source old others (Ok first) taken causes ended)

-- and out of memory behind it is no failure of the host
pub head_full : {S T : Type 0} (a b : View) (source : TreeSource) (old others : List TreeSource) (first : S) → IsPermutation old (source ∷ others) → ReadCost 2 a b (Ok first)
    → (source.tree.value.tree.pairs ≤ source.tree.value.passed → b.reads ≡ a.reads) → ReadCost {T = T} (2 * unread_of old) a b (Err fault.OutOfMemory)
head_full a b source old others first taken causes ended =
    let all = head_causes a b source old others (Ok first) taken causes ended in
    record {
      disk = all.disk;
      out = all.out;
      reads = all.reads;
      ok = tt;
      failed = λ is. absurd (cc);
      memory = λ is. all.ok;
      damaged = λ damage is. absurd (cc);
    }

-- a further read of the same file
pub read_next : (K L : Option Folder → Type 0) (A B C : FileName → Type 0) (u v w : View) (file now : FileName) → now ≡ file → HasRead K A B u v file → HasRead L B C v w now → HasRead L A C u w file
read_next K L A B C u v w file now same first second = read_then K L A B C u v w file first (subst (λ (n : FileName). HasRead L B C v w n) same second)
