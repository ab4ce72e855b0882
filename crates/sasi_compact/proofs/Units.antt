-- Units, one after another.
use Rattle.std.proofs.Common.{◌≡◌, ◌≤◌, ◌<◌, ◌+◌, ◌-◌, ◌∙◌, true, false, ℕ, zero, suc, List, [], ◌∷◌, ◌++◌, drop, length, take, Option, None, Some, refl, sym, ap, subst, arith, append_assoc, append-nil}
use Rattle.sasi_types.specs.declared.decorated_key.DecoratedKey.{DecoratedKey}
use Rattle.sasi_host.specs.Names.{data_name}
use Rattle.sasi_host.specs.View.{View}
use Rattle.sasi_host.specs.Disk.{AnyChange, Changes, FileChange}
use Rattle.sasi_host.proofs.ChangeLaws.{touches_on, untouched}
use Rattle.sasi_merge.specs.Streams.{Entries}
use Rattle.sasi_model.specs.Cells.{Partition}
use Rattle.sasi_scan.specs.Scanning.{GivesFirst, MayRead}
use Rattle.sasi_compact.specs.Tasks.{CanWriteOn, HasPassed, HasReadsLeft, HasWritten, IsProgress, IsProgressOf, IsReadyAt, PassesNext}
use Rattle.sasi_compact.specs.declared.compaction.Compaction.{Compaction}
use Rattle.sasi_compact.specs.declared.output.Output.{Output}
use Rattle.sasi_compact.specs.declared.progress.Progress.{Progress}
use Rattle.sasi_compact.specs.declared.progress.Progress.TheVariants.{Ready, Running}

-- so many units are done, each of which passed a partition
pub record HasRun (v u : View) (c : Compaction) (start now : Output) (units : ℕ) : Type 0 where
  pub can : CanWriteOn u c now
  pub changes : Changes (FileChange (data_name c.number) AnyChange) v u
  pub passes : (passed left : Entries) → HasWritten v c start passed left → HasWritten u c now (passed ++ take units left) (drop units left) × (units ≤ length left)
  pub reads : (most : ℕ) → MayRead v.files c.partitioner start.scan most → (rest : ℕ) × MayRead u.files c.partitioner now.scan rest × (u.reads + rest ≤ v.reads + most)
  pub disk : u.disk_faults ≡ v.disk_faults
  pub out : u.out_faults ≡ v.out_faults

pub run_none : (v : View) (c : Compaction) (o : Output) → CanWriteOn v c o → HasRun v v c o o 0
run_none v c o can = record {
  can = can;
  changes = untouched v (data_name c.number);
  passes = λ passed left is. (subst (λ (es : Entries). HasWritten v c o es left) (sym (append-nil passed)) is, omega arith);
  reads = λ most may. (most, may, omega arith);
  disk = refl;
  out = refl;
}

-- ---- lists

more_taken : (passed left : Entries) (n : ℕ) (e : DecoratedKey × Partition) (rest : Entries) → drop n left ≡ e ∷ rest → ((passed ++ take n left) ++ e ∷ [] ≡ passed ++ take (n + 1) left) × (rest ≡ drop (n + 1) left) × (n + 1 ≤ length left)
more_taken passed left n e rest is =
    let one = by left n is in
    let later : suc n ≡ n + 1 = omega arith in (
      append_assoc passed (take n left) (e ∷ []) ∙ ap (λ (es : Entries). passed ++ es) (one.0 ∙ ap (λ (m : ℕ). take m left) later),
      one.1 ∙ ap (λ (m : ℕ). drop m left) later,
      omega (arith, one.2),
    )
  where
    by : (es : Entries) (m : ℕ) → drop m es ≡ e ∷ rest → (take m es ++ e ∷ [] ≡ take (suc m) es) × (rest ≡ drop (suc m) es) × (suc m ≤ length es)
    by [] zero is = absurd cc
    by [] (suc m) is = absurd cc
    by (x ∷ es) zero is =
        let first : x ≡ e = cc in
        let others : es ≡ rest = cc in
        (ap (λ (y : DecoratedKey × Partition). y ∷ []) (sym first), sym others, omega arith)
    by (x ∷ es) (suc m) is = let one = by es m is in (ap (λ (ys : Entries). x ∷ ys) one.0, one.1, omega (arith, one.2))

all_taken : (left : Entries) (n : ℕ) → drop n left ≡ [] → (take n left ≡ left) × (length left ≤ n)
all_taken [] zero is = (refl, omega arith)
all_taken [] (suc n) is = (refl, omega arith)
all_taken (x ∷ left) zero is = absurd cc
all_taken (x ∷ left) (suc n) is = let one = all_taken left n is in (ap (λ (ys : Entries). x ∷ ys) one.0, omega (arith, one.1))

taken_behind : (left : Entries) (n : ℕ) → length left ≤ n → (take n left ≡ left) × (drop n left ≡ [])
taken_behind [] zero le = (refl, refl)
taken_behind [] (suc n) le = (refl, refl)
taken_behind (x ∷ left) zero le = absurd (omega (arith, le))
taken_behind (x ∷ left) (suc n) le = let one = taken_behind left n (omega (arith, le)) in (ap (λ (ys : Entries). x ∷ ys) one.0, one.1)

-- ---- one more unit

module _ (v u w : View) (c : Compaction) (start now next : Output) (units : ℕ) (run : HasRun v u c start now units) where
  -- which passed a partition
  pub run_one : CanWriteOn w c next → Changes (FileChange (data_name c.number) AnyChange) u w → ((passed left : Entries) → HasWritten u c now passed left → PassesNext w c next passed left true)
      → ((most : ℕ) → MayRead u.files c.partitioner now.scan most → HasReadsLeft w.files c (Some next) (u.reads + most) w.reads) → w.disk_faults ≡ u.disk_faults → w.out_faults ≡ u.out_faults → HasRun v w c start next (units + 1)
  run_one can changes passes reads disk out = record {
    can = can;
    changes = touches_on v u w (data_name c.number) run.changes changes;
    passes = λ passed left is.
        let so_far = run.passes passed left is in
        let one = passes (passed ++ take units left) (drop units left) so_far.0 in
        let lists = more_taken passed left units one.0 one.1 one.2 in
        (subst (λ (es : Entries). HasWritten w c next (passed ++ take (units + 1) left) es) lists.1 (subst (λ (es : Entries). HasWritten w c next es one.1) lists.0 one.3), lists.2);
    reads = λ most may.
        let so_far = run.reads most may in
        let more = reads so_far.0 so_far.1 in
        (more.left, more.may, omega (arith, more.reads, so_far.2));
    disk = disk ∙ run.disk;
    out = out ∙ run.out;
  }

  -- or found none
  pub ran_out : (all : ℕ) → units < all → ((passed left : Entries) → HasWritten u c now passed left → PassesNext w c next passed left false) → (passed left : Entries) → HasWritten v c start passed left
      → HasPassed w c (Some next) all passed left (Ready (all - units))
  ran_out all more passes passed left is =
      let so_far = run.passes passed left is in
      let one = passes (passed ++ take units left) (drop units left) so_far.0 in
      let whole = all_taken left units one.0 in
      let length_is : length left ≡ units = omega (arith, whole.1, so_far.1) in
      let behind = taken_behind left all (omega (arith, more, whole.1)) in
      record {
        now = subst (λ (es : Entries). HasWritten w c next (passed ++ es) (drop all left)) (whole.0 ∙ sym behind.0) (subst (λ (es : Entries). HasWritten w c next (passed ++ take units left) es) (sym behind.1) one.1);
        progress_is = omega (arith, length_is, more);
      }

-- ---- all units

-- whether it runs on is told by the partition that is looked ahead
pub ran_all : (v u : View) (c : Compaction) (start now : Output) (units : ℕ) (progress : Progress) → HasRun v u c start now units → IsProgressOf now.next progress → (passed left : Entries) → HasWritten v c start passed left → HasPassed u c (Some now) units passed left progress
ran_all v u c start now units progress run told passed left is =
    let so_far = run.passes passed left is in
    record { now = so_far.0; progress_is = by now.next progress told (drop units left) refl so_far.0.ahead }
  where
    some_behind : (es : Entries) (n : ℕ) (e : DecoratedKey × Partition) (rest : Entries) → drop n es ≡ e ∷ rest → n < length es
    some_behind [] zero e rest is = absurd cc
    some_behind [] (suc n) e rest is = absurd cc
    some_behind (x ∷ es) zero e rest is = omega arith
    some_behind (x ∷ es) (suc n) e rest is = omega (arith, some_behind es n e rest is)

    by : (next : Option (List ℕ × Partition)) (p : Progress) → IsProgressOf next p → (es : Entries) → drop units left ≡ es → GivesFirst u.files c.partitioner [] es now.scan next → IsProgress units left p
    by None Running told es same gives = absurd cc
    by (Some one) Running told es same gives = some_behind left units _ gives.rest (same ∙ gives.is)
    by None (Ready unused) told es same gives = omega (arith, told.1, (all_taken left units (same ∙ gives.0)).1, (run.passes passed left is).1)
    by (Some one) (Ready unused) told es same gives = absurd (let no : Some one ≡ None = told.0 in cc)

-- where all are passed, it can be finished
pub ready_at : (u : View) (c : Compaction) (now : Output) (progress : Progress) → CanWriteOn u c now → IsProgressOf now.next progress → IsReadyAt (Some now) progress
ready_at u c now Running can told = tt
ready_at u c now (Ready unused) can told = record { none_next = told.0; some = can.some told.0 }
