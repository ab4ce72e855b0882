-- A task whose keys are all passed, by one step after another.
use Rattle.std.proofs.Common.{◌≡◌, ◌+◌, ◌≤◌, ◌∙◌, ℕ, zero, suc, List, [], ◌∷◌, ◌++◌, drop, length, take, append_assoc, append-nil, refl, sym, ap, subst, arith}
use Rattle.sasi_host.specs.Disk.{AnyChange, Changes, FileChange}
use Rattle.sasi_host.specs.Names.{data_name}
use Rattle.sasi_host.specs.View.{View}
use Rattle.sasi_host.proofs.ChangeLaws.{touches_on, untouched}
use Rattle.sasi_datawrite.specs.declared.fault.PairFault.{PairFault}
use Rattle.sasi_merge.specs.Streams.{Entries}
use Rattle.sasi_scan.specs.Parts.{ShowsListed}
use Rattle.sasi_compact.proofs.Faults.{damage_as}
use Rattle.sasi_compact.proofs.TaskLaws.{shown_before}
use Rattle.sasi_compact.specs.Tasks.{CanGoOn, HasPassed, HasReadsLeft, IsCompacting, IsCompactingTo, MayReadMore, OnPairDamage, sources_of}
use Rattle.sasi_compact.specs.declared.compaction.Compaction.{Compaction}
use Rattle.sasi_compact.specs.declared.progress.Progress.{Progress}
use Rattle.sasi_compact.specs.declared.progress.Progress.TheVariants.{Ready}
use Rattle.sasi_compact.specs.declared.task.CompactTask.{CompactTask}

-- some of what was left is passed, and the rest is left
pub record PassesSome (b : View) (now : CompactTask) (passed left : Entries) : Type 0 where
  pub more : Entries
  pub rest : Entries
  pub parts : more ++ rest ≡ left
  pub compacting : IsCompacting b now (passed ++ more) rest

-- **Some steps are done**, and the task can go on.
pub record IsPassing (a b : View) (old now : CompactTask) : Type 0 where
  pub can : CanGoOn b now
  pub same : now.compaction ≡ old.compaction
  pub passes : (passed left : Entries) → IsCompacting a old passed left → PassesSome b now passed left
  pub reads : (most : ℕ) → MayReadMore a.files old most → HasReadsLeft b.files now.compaction now.output (a.reads + most) b.reads
  pub changes : Changes (FileChange (data_name old.compaction.number) AnyChange) a b
  pub disk : b.disk_faults ≡ a.disk_faults
  pub out : b.out_faults ≡ a.out_faults

pub passes_none : (a : View) (task : CompactTask) → CanGoOn a task → IsPassing a a task task
passes_none a task can = record {
  can = can;
  same = refl;
  passes = λ passed left is. record { more = []; rest = left; parts = refl; compacting = subst (λ (es : Entries). IsCompacting a task es left) (sym (append-nil passed)) is };
  reads = λ most may. record { left = most; may = may; reads = omega arith };
  changes = untouched a (data_name task.compaction.number);
  disk = refl;
  out = refl;
}

module _ (a b : View) (old now : CompactTask) (on : IsPassing a b old now) (c : View) (next : CompactTask) where
  -- ---- a step, also one that fails

  same_on : next.compaction ≡ now.compaction → next.compaction ≡ old.compaction
  same_on same = same ∙ on.same

  pub changes_after : Changes (FileChange (data_name now.compaction.number) AnyChange) b c → Changes (FileChange (data_name old.compaction.number) AnyChange) a c
  changes_after change = touches_on a b c (data_name old.compaction.number) on.changes (subst (λ (k : Compaction). Changes (FileChange (data_name k.number) AnyChange) b c) on.same change)

  pub damage_before : (f : PairFault) → OnPairDamage (ShowsListed b.files (sources_of now.compaction) now.compaction.types) f → OnPairDamage (ShowsListed a.files (sources_of old.compaction) old.compaction.types) f
  damage_before f shows = damage_as (ShowsListed b.files (sources_of now.compaction) now.compaction.types) (ShowsListed a.files (sources_of old.compaction) old.compaction.types) f
      (λ damage shown. subst (λ (k : Compaction). ShowsListed a.files (sources_of k) k.types damage) on.same
      (shown_before a b AnyChange now.compaction on.can.can (subst (λ (k : Compaction). Changes (FileChange (data_name k.number) AnyChange) a b) (sym on.same) on.changes) damage shown)) shows

  pub undamaged_on : (f : PairFault) → ((passed left : Entries) → IsCompacting b now passed left → OnPairDamage (λ _. ⊥) f) → (passed left : Entries) → IsCompacting a old passed left → OnPairDamage (λ _. ⊥) f
  undamaged_on f none passed left is = let so_far = on.passes passed left is in none (passed ++ so_far.more) so_far.rest so_far.compacting

  -- ---- a step that is made

  module _ (units : ℕ) (progress : Progress) (has : (passed left : Entries) → IsCompacting b now passed left → HasPassed c next.compaction next.output units passed left progress) where
    passes_on : (passed left : Entries) → IsCompacting a old passed left → PassesSome c next passed left
    passes_on passed left is =
        let so_far = on.passes passed left is in
        let step = has (passed ++ so_far.more) so_far.rest so_far.compacting in
        record {
          more = so_far.more ++ take units so_far.rest;
          rest = drop units so_far.rest;
          parts = append_assoc so_far.more (take units so_far.rest) (drop units so_far.rest) ∙ ap (λ (es : Entries). so_far.more ++ es) (joined units so_far.rest) ∙ so_far.parts;
          compacting = subst (λ (es : Entries). IsCompactingTo c next.compaction next.output es (drop units so_far.rest)) (append_assoc passed so_far.more (take units so_far.rest)) step.now;
        }
      where
        joined : {A : Type 0} (n : ℕ) (xs : List A) → take n xs ++ drop n xs ≡ xs
        joined zero [] = refl
        joined zero (x ∷ xs) = refl
        joined (suc n) [] = refl
        joined (suc n) (x ∷ xs) = ap (λ l. x ∷ l) (joined n xs)

    -- **Another step is done.**
    pub passing_on : CanGoOn c next → next.compaction ≡ now.compaction → ((most : ℕ) → MayReadMore b.files now most → HasReadsLeft c.files next.compaction next.output (b.reads + most) c.reads)
        → Changes (FileChange (data_name now.compaction.number) AnyChange) b c → c.disk_faults ≡ b.disk_faults → c.out_faults ≡ b.out_faults → IsPassing a c old next
    passing_on can same reads change disk out = record {
      can = can;
      same = same_on same;
      passes = passes_on;
      reads = λ most may. (let so_far = on.reads most may in let more = reads so_far.left so_far.may in record { left = more.left; may = more.may; reads = omega (arith, more.reads, so_far.reads) });
      changes = changes_after change;
      disk = disk ∙ on.disk;
      out = out ∙ on.out;
    }

-- ---- the end

none_behind : {A : Type 0} (n : ℕ) (xs : List A) → length xs ≤ n → drop n xs ≡ []
none_behind zero [] few = refl
none_behind zero (x ∷ xs) few = absurd (omega (arith, few))
none_behind (suc n) [] few = refl
none_behind (suc n) (x ∷ xs) few = none_behind n xs (omega (arith, few))

all_before : {A : Type 0} (n : ℕ) (xs : List A) → length xs ≤ n → take n xs ≡ xs
all_before zero [] few = refl
all_before zero (x ∷ xs) few = absurd (omega (arith, few))
all_before (suc n) [] few = refl
all_before (suc n) (x ∷ xs) few = ap (λ l. x ∷ l) (all_before n xs (omega (arith, few)))

-- **Where a step says that none is left, all are passed.**
pub all_passed : (a b : View) (old now : CompactTask) → IsPassing a b old now → (c : View) (next : CompactTask) (units unused : ℕ) → ((passed left : Entries) → IsCompacting b now passed left → HasPassed c next.compaction next.output units passed left (Ready unused))
    → (passed left : Entries) → IsCompacting a old passed left → IsCompacting c next (passed ++ left) []
all_passed a b old now on c next units unused has passed left is =
    let so_far = on.passes passed left is in
    let step = has (passed ++ so_far.more) so_far.rest so_far.compacting in
    let few : length so_far.rest ≤ units = omega (arith, step.progress_is) in
    let joined : (passed ++ so_far.more) ++ take units so_far.rest ≡ passed ++ left =
    ap (λ (es : Entries). (passed ++ so_far.more) ++ es) (all_before units so_far.rest few) ∙ append_assoc passed so_far.more so_far.rest ∙ ap (λ (es : Entries). passed ++ es) so_far.parts in
    subst (λ (es : Entries). IsCompacting c next es []) joined
    (subst (λ (es : Entries). IsCompactingTo c next.compaction next.output ((passed ++ so_far.more) ++ take units so_far.rest) es) (none_behind units so_far.rest few) step.now)
