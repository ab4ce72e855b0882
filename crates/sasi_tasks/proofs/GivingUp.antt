-- Tasks that are given up one after another.
use Rattle.std.proofs.Common.{◌≡◌, ◌&&◌, ◌||◌, ◌++◌, ◌∙◌, ℕ, Bool, true, false, is_some, List, [], ◌∷◌, length, Option, None, Some, IfSome, IsSome, append_assoc, append-nil, refl, sym, ap, subst, arith}
use Rattle.std.specs.List.{AllByRecursion}
use Rattle.sasi_host.specs.declared.name.FileName.{FileName}
use Rattle.sasi_host.specs.Disk.{Changes, FileChange, MaybeDeleted, Same, Within}
use Rattle.sasi_host.specs.Names.{data_name, name_eq}
use Rattle.sasi_host.specs.View.{IsAbsent, View}
use Rattle.sasi_host.proofs.ChangeLaws.{step_within, then_same, within_on}
use Rattle.sasi_host.proofs.ContentLaws.{absent_where, contents_other, there_where}
use Rattle.sasi_layout.proofs.FileNameLaws.{name_itself}
use Rattle.sasi_compact.specs.Tasks.{CanGiveUp, HasOutput}
use Rattle.sasi_compact.specs.declared.output.Output.{Output}
use Rattle.sasi_tasks.specs.Running.{AreApart, CanGiveUpAll, IsApartFrom, IsGone, is_begun}
use Rattle.sasi_tasks.specs.declared.running.RunningTask.{RunningTask}
use Rattle.sasi_tasks.proofs.Deleting.{within_none}

abbrev number_of : RunningTask → ℕ
number_of r = r.task.compaction.number

-- ---- one task among others

abbrev HasOther : RunningTask → RunningTask → Type 0
HasOther x r = number_of r ≡ number_of x → ⊥

middle : (P : RunningTask → Type 0) (ds rest : List RunningTask) (x : RunningTask) → AllByRecursion P (ds ++ x ∷ rest) → P x
middle P [] rest x all = all.0
middle P (d ∷ ds) rest x all = middle P ds rest x all.1

-- its file is none of those of the tasks before it
apart_before : (ds rest : List RunningTask) (x : RunningTask) → AreApart (ds ++ x ∷ rest) → AllByRecursion (HasOther x) ds
apart_before [] rest x apart = tt
apart_before (d ∷ ds) rest x apart = (
  (λ same. (middle (λ (o : RunningTask). (o.table ≡ d.table → ⊥) × (number_of o ≡ number_of d → ⊥)) ds rest x apart.0).1 (sym same)),
  apart_before ds rest x apart.1,
)

others_behind : (x : RunningTask) (rest : List RunningTask) → IsApartFrom rest x → AllByRecursion (HasOther x) rest
others_behind x [] apart = tt
others_behind x (r ∷ rest) apart = (apart.0.1, others_behind x rest apart.1)

-- and none of those behind it
apart_behind : (ds rest : List RunningTask) (x : RunningTask) → AreApart (ds ++ x ∷ rest) → AllByRecursion (HasOther x) rest
apart_behind [] rest x apart = others_behind x rest apart.0
apart_behind (d ∷ ds) rest x apart = apart_behind ds rest x apart.1

here : (r : RunningTask) (rest : List RunningTask) → is_some r.task.output ≡ true → is_begun (r ∷ rest) (data_name (number_of r)) ≡ true
here r rest some = ap (λ b. (b && is_some r.task.output) || is_begun rest (data_name (number_of r))) (name_itself (data_name (number_of r))) ∙ ap (λ b. b || is_begun rest (data_name (number_of r))) some

later : (x y : Bool) → y ≡ true → (x || y) ≡ true
later true y is = refl
later false y is = is

begun_in : (ds rest : List RunningTask) (x : RunningTask) → is_some x.task.output ≡ true → is_begun (ds ++ x ∷ rest) (data_name (number_of x)) ≡ true
begun_in [] rest x some = here x rest some
begun_in (d ∷ ds) rest x some = later (name_eq (data_name (number_of x)) (data_name (number_of d)) && is_some d.task.output) (is_begun (ds ++ x ∷ rest) (data_name (number_of x))) (begun_in ds rest x some)

-- ---- those so far

-- **Of all tasks those that aren't left are given up**, and those that are left can be.
pub record HasGivenUp (all left : List RunningTask) (a b : View) : Type 0 where
  pub done : List RunningTask
  pub parts : done ++ left ≡ all
  pub apart : AreApart all
  pub gone : AllByRecursion (IsGone b) done
  pub can : CanGiveUpAll b left
  pub changes : Changes (Within (is_begun all)) a b
  pub disk : b.disk_faults ≡ a.disk_faults
  pub out : b.out_faults ≡ a.out_faults
  pub reads : b.reads ≡ a.reads

pub none_given : (all : List RunningTask) (a : View) → AreApart all → CanGiveUpAll a all → HasGivenUp all all a a
none_given all a apart can = record { done = []; parts = refl; apart = apart; gone = tt; can = can; changes = within_none (is_begun all) a; disk = refl; out = refl; reads = refl }

module _ (all left : List RunningTask) (a b : View) (before : HasGivenUp all left a b) (x : RunningTask) (rest : List RunningTask) (is : left ≡ x ∷ rest) where
  pub next_can : CanGiveUp b x.task
  next_can = (subst (CanGiveUpAll b) is before.can).0

  whole : before.done ++ x ∷ rest ≡ all
  whole = ap (λ (l : List RunningTask). before.done ++ l) (sym is) ∙ before.parts

  apart : AreApart (before.done ++ x ∷ rest)
  apart = subst AreApart (sym whole) before.apart

  module _ (c : View) (change : Changes (FileChange (data_name (number_of x)) MaybeDeleted) b c) (idle : x.task.output ≡ None → Changes Same b c) where
    pub given_changes : Changes (Within (is_begun all)) a c
    given_changes = by x.task.output refl
      where
        by : (o : Option Output) → x.task.output ≡ o → Changes (Within (is_begun all)) a c
        by None none = then_same a b c (Within (is_begun all)) before.changes (idle none)
        by (Some o) some = within_on (is_begun all) a b c before.changes (step_within (is_begun all) (data_name (number_of x)) MaybeDeleted b c
            (subst (λ (l : List RunningTask). is_begun l (data_name (number_of x)) ≡ true) whole (begun_in before.done rest x (ap (λ (p : Option Output). is_some p) some))) change)

    still_gone : (ds : List RunningTask) → AllByRecursion (HasOther x) ds → AllByRecursion (IsGone b) ds → AllByRecursion (IsGone c) ds
    still_gone [] others gone = tt
    still_gone (d ∷ ds) others gone = (
      (λ some. absent_where b c (data_name (number_of d)) (contents_other b c (data_name (number_of x)) (data_name (number_of d)) MaybeDeleted (λ same. others.0 (ap (λ (f : FileName). f.number) same)) change) (gone.0 some)),
      still_gone ds others.1 gone.1,
    )

    one_can : (r : RunningTask) → HasOther x r → (o : Option Output) → IfSome o (HasOutput b (number_of r)) → IfSome o (HasOutput c (number_of r))
    one_can r other None can = tt
    one_can r other (Some o) can = record {
      file = can.file;
      there = there_where b c (FileChange (data_name (number_of x)) MaybeDeleted) o.pairs.writer.file change
          (contents_other b c (data_name (number_of x)) o.pairs.writer.file MaybeDeleted (λ same. other (ap (λ (f : FileName). f.number) (sym can.file ∙ same))) change) can.there;
    }

    still_can : (rs : List RunningTask) → AllByRecursion (HasOther x) rs → CanGiveUpAll b rs → CanGiveUpAll c rs
    still_can [] others can = tt
    still_can (r ∷ rs) others can = (one_can r others.0 r.task.output can.0, still_can rs others.1 can.1)

    both : (ds : List RunningTask) → AllByRecursion (IsGone c) ds → IsGone c x → AllByRecursion (IsGone c) (ds ++ x ∷ [])
    both [] gone one = (one, tt)
    both (d ∷ ds) gone one = (gone.0, both ds gone.1 one)

    -- **Then the next one is given up.**
    pub given_on : (IsSome x.task.output → IsAbsent c (data_name (number_of x))) → c.disk_faults ≡ b.disk_faults → c.out_faults ≡ b.out_faults → c.reads ≡ b.reads → HasGivenUp all rest a c
    given_on gone disk out reads = record {
      done = before.done ++ x ∷ [];
      parts = append_assoc before.done (x ∷ []) rest ∙ whole;
      apart = before.apart;
      gone = both before.done (still_gone before.done (apart_before before.done rest x apart) before.gone) (λ some. gone some);
      can = still_can rest (apart_behind before.done rest x apart) (subst (CanGiveUpAll b) is before.can).1;
      changes = given_changes;
      disk = disk ∙ before.disk;
      out = out ∙ before.out;
      reads = reads ∙ before.reads;
    }

-- **Where none is left, the files of all are gone.**
pub all_given : (all left : List RunningTask) (a b : View) → HasGivenUp all left a b → left ≡ [] → AllByRecursion (IsGone b) all
all_given all left a b given none = subst (AllByRecursion (IsGone b)) (sym (append-nil given.done) ∙ ap (λ (l : List RunningTask). given.done ++ l) (sym none) ∙ given.parts) given.gone

pub nothing_left : (l : List RunningTask) → length l ≡ 0 → l ≡ []
nothing_left [] none = refl
nothing_left (x ∷ xs) none = absurd (omega (arith, none))
