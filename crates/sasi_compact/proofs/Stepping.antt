-- A step: the output is begun, if it isn't yet, and then units are done.
use Rattle.std.proofs.Common.{◌≡◌, ◌≤◌, ◌+◌, ℕ, ◌++◌, drop, take, Option, None, Some, IfSome, IfErr, IfOk, MatchResult, Result, Ok, Err, sym, subst, arith, append-nil}
use Rattle.sasi_host.specs.Disk.{AnyChange, Changes, FileChange}
use Rattle.sasi_host.specs.Names.{data_name}
use Rattle.sasi_host.specs.View.{View}
use Rattle.sasi_datawrite.specs.declared.fault.PairFault.{PairFault}
use Rattle.sasi_merge.specs.Streams.{Entries}
use Rattle.sasi_scan.specs.Parts.{ShowsListed}
use Rattle.sasi_compact.specs.Tasks.{CanCompact, HasAllLeft, HasOutput, HasPassed, HasReadsLeft, HasWritten, IsCompactingTo, MayReadTo, OnPairDamage, sources_of}
use Rattle.sasi_compact.specs.declared.compaction.Compaction.{Compaction}
use Rattle.sasi_compact.specs.declared.output.Output.{Output}
use Rattle.sasi_compact.specs.declared.progress.Progress.{Progress}
use Rattle.sasi_compact.specs.declared.progress.Progress.TheVariants.{Running}
use Rattle.sasi_compact.proofs.Faults.{damage_as}
use Rattle.sasi_compact.proofs.SomeLeft.{some_left}
use Rattle.sasi_compact.proofs.TaskLaws.{shown_before}

-- ---- no unit, and nothing begun

pub idle_passed : (v : View) (c : Compaction) → CanCompact c → (output : Option Output) (units : ℕ) → output ≡ None → units ≡ 0 → (passed left : Entries) → IsCompactingTo v c output passed left → HasPassed v c output units passed left Running
idle_passed v c compact None units none few passed left is = record {
  now = subst (λ (n : ℕ). HasAllLeft v.files c (passed ++ take n left) (drop n left)) (sym few) (subst (λ (es : Entries). HasAllLeft v.files c es left) (sym (append-nil passed)) is);
  progress_is = omega (arith, few, some_left v.files c passed left compact is);
}
idle_passed v c compact (Some o) units none few passed left is = absurd (let not : Some o ≡ None = none in cc)

-- nothing is to be given up
pub none_there : (v : View) (number : ℕ) (output : Option Output) → output ≡ None → IfSome output (HasOutput v number)
none_there v number None none = tt
none_there v number (Some o) none = absurd (let not : Some o ≡ None = none in cc)

-- ---- units behind the beginning

module _ (v w u : View) (c : Compaction) (start : Option Output) (made now : Output) (units : ℕ) (result : Result Progress PairFault) where
  pub passed_on : ((passed left : Entries) → IsCompactingTo v c start passed left → HasWritten w c made passed left) → IfOk result (λ progress. (passed left : Entries) → HasWritten w c made passed left → HasPassed u c (Some now) units passed left progress)
      → IfOk result (λ progress. (passed left : Entries) → IsCompactingTo v c start passed left → HasPassed u c (Some now) units passed left progress)
  passed_on begun ran = by result ran
    where
      by : (r : Result Progress PairFault) → IfOk r (λ progress. (passed left : Entries) → HasWritten w c made passed left → HasPassed u c (Some now) units passed left progress)
          → IfOk r (λ progress. (passed left : Entries) → IsCompactingTo v c start passed left → HasPassed u c (Some now) units passed left progress)
      by (Ok progress) ran = λ passed left is. ran passed left (begun passed left is)
      by (Err f) ran = tt

  pub reads_on : (most : ℕ) → MayReadTo v.files c start most → (so_far : HasReadsLeft w.files c (Some made) (v.reads + most) w.reads)
      → MatchResult result (λ _. HasReadsLeft u.files c (Some now) (w.reads + so_far.left) u.reads) (λ _. u.reads ≤ w.reads + so_far.left)
      → MatchResult result (λ _. HasReadsLeft u.files c (Some now) (v.reads + most) u.reads) (λ _. u.reads ≤ v.reads + most)
  reads_on most may so_far more = by result more
    where
      by : (r : Result Progress PairFault) → MatchResult r (λ _. HasReadsLeft u.files c (Some now) (w.reads + so_far.left) u.reads) (λ _. u.reads ≤ w.reads + so_far.left)
          → MatchResult r (λ _. HasReadsLeft u.files c (Some now) (v.reads + most) u.reads) (λ _. u.reads ≤ v.reads + most)
      by (Ok progress) more = record { left = more.left; may = more.may; reads = omega (arith, more.reads, so_far.reads) }
      by (Err f) more = omega (arith, more, so_far.reads)

  pub damaged_on : CanCompact c → Changes (FileChange (data_name c.number) AnyChange) v w → IfErr result (OnPairDamage (ShowsListed w.files (sources_of c) c.types)) → IfErr result (OnPairDamage (ShowsListed v.files (sources_of c) c.types))
  damaged_on compact begun shows = by result shows
    where
      by : (r : Result Progress PairFault) → IfErr r (OnPairDamage (ShowsListed w.files (sources_of c) c.types)) → IfErr r (OnPairDamage (ShowsListed v.files (sources_of c) c.types))
      by (Ok progress) shows = tt
      by (Err f) shows = damage_as _ _ f (λ damage shown. shown_before v w AnyChange c compact begun damage shown) shows
