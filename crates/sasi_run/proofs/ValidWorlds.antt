-- Worlds whose numbers are in order and whose tasks run, each in a table of its own: what the moves of their pieces leave.
use Rattle.std.proofs.Common.{◌≡◌, ◌⊎◌, ◌++◌, ◌+◌, ℕ, Bool, true, false, not, cond, if◌then◌else◌, nat_eq, nat_le, length, List, [], ◌∷◌, map, Option, None, Some, refl, sym, ap, subst, ◌∙◌, inl, inr, arith}
use Rattle.std.proofs.lemmas.List.{append-nil}
use Rattle.std.proofs.lemmas.Bool.Decides.{nat_tests}
use Rattle.std.specs.Prelude.{⊤}
use Rattle.std.specs.List.{AllByRecursion, find}
use Rattle.std.specs.Option.{option_map_or}
use Rattle.sasi_host.specs.View.{View}
use Rattle.sasi_layout.proofs.MovesInOrder.{moves_in_order}
use Rattle.sasi_layout.proofs.StillRunning.{AreOthers, IsOther, begins_running, still_running, still_running_after}
use Rattle.sasi_layout.specs.Compacting.{Compaction, IsRunning, begun}
use Rattle.sasi_layout.specs.Moves.{AreLegal, Compact, Draw, Freeze, Move, after_draw, after_moves, moved}
use Rattle.sasi_layout.specs.NumbersInOrder.{HasNumbersInOrder}
use Rattle.sasi_layout.proofs.StatementLaws.{piece_legal}
use Rattle.sasi_layout.specs.Layout.{Layout, TableParts, numbered, rising_numbers, state_of}
use Rattle.sasi_layout.specs.Statements.{definitions_of, known_in, moves_of}
use Rattle.sasi_model.specs.Asked.{asks}
use Rattle.sasi_model.specs.Parsers.{grammar_parser}
use Rattle.sasi_model.specs.Pieces.{Piece}
use Rattle.sasi_model.specs.Refusals.{ParsedPiece, Refusal, Says, read}
use Rattle.sasi_model.specs.Sessions.{count_asked, refused_by}
use Rattle.sasi_schema.specs.Numbers.{number_of_table}
use Rattle.sasi_types.specs.declared.statement.Statement.TheVariants.{BeginCompact, OpenCursor, StepCompact}
use Rattle.sasi_types.specs.declared.statement.Statement.TheVariants as statement
use Rattle.sasi_tables.specs.Freezing.{freeze_where, holds_any}
use Rattle.sasi_store.proofs.KeptSources.{asked_others}
use Rattle.sasi_tasks.specs.Running.{AreApart, AreTasksOf, IsApartFrom}
use Rattle.sasi_tasks.specs.Tasks.{Task, advanced, begin_moves, begins, begun_in, compact_moves, end_moves, ends_in, is_of, running, step_moves, task_begun, tasks_begun, whole_moves, without}
use Rattle.sasi_tasks.specs.declared.running.RunningTask.{RunningTask}
use Rattle.sasi_store.specs.StoreView.{IsReady}
use Rattle.sasi_store.specs.Worlds.{ServesWorld, World, moves_in, new_world, session_moves, steps, tasks_after, unless_refused}
use Rattle.sasi_store.specs.declared.store.Store.{Store}

-- no other of these is of the task's table
abbrev pub IsAlone : List Task → Task → Type 0
IsAlone others k = AllByRecursion (λ (o : Task). nat_eq o.compaction.table k.compaction.table ≡ false) others

-- each is of another table than those behind it
abbrev pub AreOfTables : List Task → Type 0
AreOfTables [] = ⊤
AreOfTables (k ∷ ks) = IsAlone ks k × AreOfTables ks

abbrev pub AreRunning : List Task → Layout → Type 0
AreRunning ks l = AllByRecursion (λ (k : Task). IsRunning k.compaction l) ks

pub record IsValidWorld (w : World) : Type 0 where
  pub in_order : HasNumbersInOrder w.layout
  pub runs : AreRunning w.tasks w.layout
  pub tables : AreOfTables w.tasks

-- ---- where a run is

pub new_valid : (l : Layout) → HasNumbersInOrder l → IsValidWorld (new_world l)
new_valid l in_order = record { in_order = in_order; runs = tt; tables = tt }

tasks_run : (v : View) (l : Layout) (rs : List RunningTask) (ks : List Task) → AreTasksOf v l rs ks → AreRunning ks l
tasks_run v l [] [] are = tt
tasks_run v l [] (k ∷ ks) are = absurd are
tasks_run v l (r ∷ rs) [] are = absurd are
tasks_run v l (r ∷ rs) (k ∷ ks) are = (are.0.runs, tasks_run v l rs ks are.1)

alone_of : (v : View) (l : Layout) (r : RunningTask) (k : Task) → k.compaction.table ≡ r.table → (rs : List RunningTask) (ks : List Task) → IsApartFrom rs r → AreTasksOf v l rs ks → IsAlone ks k
alone_of v l r k own [] [] apart are = tt
alone_of v l r k own [] (j ∷ ks) apart are = absurd are
alone_of v l r k own (o ∷ rs) [] apart are = absurd are
alone_of v l r k own (o ∷ rs) (j ∷ ks) apart are = (by (nat_eq j.compaction.table k.compaction.table) refl, alone_of v l r k own rs ks apart.1 are.1)
  where
    by : (b : Bool) → nat_eq j.compaction.table k.compaction.table ≡ b → b ≡ false
    by false other = refl
    by true same =
        let equal : j.compaction.table ≡ k.compaction.table = grind (arith, nat_tests, same) in
        absurd (apart.0.0 (sym (ap (λ (c : Compaction). c.table) are.0.is) ∙ equal ∙ own))

tables_of : (v : View) (l : Layout) (rs : List RunningTask) (ks : List Task) → AreApart rs → AreTasksOf v l rs ks → AreOfTables ks
tables_of v l [] [] apart are = tt
tables_of v l [] (k ∷ ks) apart are = absurd are
tables_of v l (r ∷ rs) [] apart are = absurd are
tables_of v l (r ∷ rs) (k ∷ ks) apart are = (alone_of v l r k (ap (λ (c : Compaction). c.table) are.0.is) rs ks apart.0 are.1, tables_of v l rs ks apart.1 are.1)

-- **So is each world that a store serves.**
pub served_valid : (v : View) (store : Store) (w : World) → IsReady v store → ServesWorld v store w → IsValidWorld w
served_valid v store w ready serves = record {
  in_order = serves.serves.in_order;
  runs = tasks_run v w.layout store.session.tasks.items w.tasks serves.tasks_are;
  tables = tables_of v w.layout store.session.tasks.items w.tasks ready.goes_on.ready.apart serves.tasks_are;
}

-- ---- lists of moves

pub both_legal : (xs ys : List Move) (l : Layout) → AreLegal xs l → AreLegal ys (after_moves xs l) → AreLegal (xs ++ ys) l
both_legal [] ys l first second = second
both_legal (x ∷ xs) ys l first second = (first.0, both_legal xs ys (moved x l) first.1 second)

pub others_both : (c : Compaction) (xs ys : List Move) → AreOthers c xs → AreOthers c ys → AreOthers c (xs ++ ys)
others_both c [] ys first second = second
others_both c (x ∷ xs) ys first second = (first.0, others_both c xs ys first.1 second)

-- ---- the task of a table

found_runs : (table : ℕ) (l : Layout) (ks : List Task) → AreRunning ks l → (k : Task) → running table ks ≡ Some k → IsRunning k.compaction l × (is_of table k ≡ true)
found_runs table l [] runs k is = cc
found_runs table l (o ∷ ks) runs k is = by (is_of table o) refl is (found_runs table l ks runs.1 k)
  where
    by : (b : Bool) → is_of table o ≡ b → cond b (Some o) (running table ks) ≡ Some k → (running table ks ≡ Some k → IsRunning k.compaction l × (is_of table k ≡ true)) → IsRunning k.compaction l × (is_of table k ≡ true)
    by true own is rest = (let same : o ≡ k = cc in (subst (λ (t : Task). IsRunning t.compaction l) same runs.0, subst (λ (t : Task). is_of table t ≡ true) same own))
    by false other is rest = rest is

none_found : (table : ℕ) (ks : List Task) → running table ks ≡ None → AllByRecursion (λ (k : Task). nat_eq k.compaction.table table ≡ false) ks
none_found table [] none = tt
none_found table (o ∷ ks) none = by (is_of table o) refl none (none_found table ks)
  where
    by : (b : Bool) → is_of table o ≡ b → cond b (Some o) (running table ks) ≡ None → (running table ks ≡ None → AllByRecursion (λ (k : Task). nat_eq k.compaction.table table ≡ false) ks) → AllByRecursion (λ (k : Task). nat_eq k.compaction.table table ≡ false) (o ∷ ks)
    by true own none rest = cc
    by false other none rest = (other, rest none)

-- a compaction of this table leaves those of others
other_table : (c : Compaction) (table : ℕ) (k : Task) → nat_eq c.table table ≡ false → is_of table k ≡ true → IsOther c (Compact k.compaction)
other_table c table k apart own = (let same : k.compaction.table ≡ table = grind (arith, nat_tests, own) in ap (nat_eq c.table) same ∙ apart)

-- ---- what is begun

-- **What is begun runs once its number is drawn.**
begun_runs : (table : ℕ) (l : Layout) → HasNumbersInOrder l → (k : Task) → find (is_of table) (task_begun table l) ≡ Some k → IsRunning k.compaction (after_draw l)
begun_runs table l in_order k is = by (numbered 1 table l.tables) refl is
  where
    by : (o : Option TableParts) → numbered 1 table l.tables ≡ o → find (is_of table) (option_map_or (begun_in l.used.«data» table) o []) ≡ Some k → IsRunning k.compaction (after_draw l)
    by None none is = cc
    by (Some t) there is = at (nat_le 2 (length t.files)) is
      where
        own : is_of table (record { compaction = begun l.used.«data» table t (rising_numbers t); passed = 0 }) ≡ true
        own = grind (arith, nat_tests)

        at : (b : Bool) → find (is_of table) (if b then record { compaction = begun l.used.«data» table t (rising_numbers t); passed = 0 } ∷ [] else []) ≡ Some k → IsRunning k.compaction (after_draw l)
        at false is = cc
        at true is =
            let first : cond (is_of table (record { compaction = begun l.used.«data» table t (rising_numbers t); passed = 0 })) (Some (record { compaction = begun l.used.«data» table t (rising_numbers t); passed = 0 })) None ≡ Some k = is in
            let both : Some (record { compaction = begun l.used.«data» table t (rising_numbers t); passed = 0 }) ≡ Some k = sym (ap (λ b. cond b (Some (record { compaction = begun l.used.«data» table t (rising_numbers t); passed = 0 })) None) own) ∙ first in
            let same : record { compaction = begun l.used.«data» table t (rising_numbers t); passed = 0 } ≡ k = cc in
            subst (λ (j : Task). IsRunning j.compaction (after_draw l)) same (begins_running l table t (rising_numbers t) there in_order)

-- ---- COMPACT

module _ (table : ℕ) (l : Layout) (ks : List Task) (in_order : HasNumbersInOrder l) (runs : AreRunning ks l) where
  end_legal : AreLegal (end_moves table ks) l
  end_legal = by (running table ks) refl
    where
      by : (o : Option Task) → running table ks ≡ o → AreLegal (option_map_or (λ (k : Task). Compact k.compaction ∷ []) o []) l
      by None none = tt
      by (Some k) is = ((found_runs table l ks runs k is).0, tt)

  whole_legal : (m : Layout) → HasNumbersInOrder m → AreLegal (whole_moves table m) m
  whole_legal m order = by (find (is_of table) (task_begun table m)) refl
    where
      by : (o : Option Task) → find (is_of table) (task_begun table m) ≡ o → AreLegal (option_map_or (λ (k : Task). Draw ∷ Compact k.compaction ∷ []) o []) m
      by None none = tt
      by (Some k) is = (tt, (begun_runs table m order k is, tt))

  -- **Its moves are legal,**
  pub compact_legal : AreLegal (compact_moves table l ks) l
  compact_legal = both_legal (end_moves table ks) (whole_moves table (after_moves (end_moves table ks) l)) l end_legal (whole_legal (after_moves (end_moves table ks) l) (moves_in_order (end_moves table ks) l end_legal in_order))

-- **and leave the tasks of other tables.**
found_own : (table : ℕ) (xs : List Task) (k : Task) → find (is_of table) xs ≡ Some k → is_of table k ≡ true
found_own table [] k is = cc
found_own table (o ∷ xs) k is = by (is_of table o) refl is (found_own table xs k)
  where
    by : (b : Bool) → is_of table o ≡ b → cond b (Some o) (find (is_of table) xs) ≡ Some k → (find (is_of table) xs ≡ Some k → is_of table k ≡ true) → is_of table k ≡ true
    by true own is rest = (let same : o ≡ k = cc in subst (λ (t : Task). is_of table t ≡ true) same own)
    by false other is rest = rest is

pub compact_others : (c : Compaction) (table : ℕ) (l : Layout) (ks : List Task) → nat_eq c.table table ≡ false → AreOthers c (compact_moves table l ks)
compact_others c table l ks apart =
    others_both c (end_moves table ks) (whole_moves table (after_moves (end_moves table ks) l)) (ends (running table ks) refl) (wholes (find (is_of table) (task_begun table (after_moves (end_moves table ks) l))) refl)
  where
    ends : (o : Option Task) → running table ks ≡ o → AreOthers c (option_map_or (λ (k : Task). Compact k.compaction ∷ []) o [])
    ends None none = tt
    ends (Some k) is = (other_table c table k apart (found_own table ks k is), tt)

    wholes : (o : Option Task) → find (is_of table) (task_begun table (after_moves (end_moves table ks) l)) ≡ o → AreOthers c (option_map_or (λ (k : Task). Draw ∷ Compact k.compaction ∷ []) o [])
    wholes None none = tt
    wholes (Some k) is = (tt, (other_table c table k apart (found_own table (task_begun table (after_moves (end_moves table ks) l)) k is), tt))

-- ---- STEP COMPACT

step_other : (c : Compaction) (table units : ℕ) (l : Layout) (ks : List Task) → nat_eq c.table table ≡ false → AreOthers c (step_moves table units l ks)
step_other c table units l ks apart = by (running table ks) refl
  where
    by : (o : Option Task) → running table ks ≡ o → AreOthers c (option_map_or (λ (k : Task). if ends_in units l k then Compact k.compaction ∷ [] else []) o [])
    by None none = tt
    by (Some k) is = at (ends_in units l k)
      where
        at : (b : Bool) → AreOthers c (if b then Compact k.compaction ∷ [] else [])
        at false = tt
        at true = (other_table c table k apart (found_own table ks k is), tt)

pub step_legal : (table units : ℕ) (l : Layout) (ks : List Task) → AreRunning ks l → AreLegal (step_moves table units l ks) l
step_legal table units l ks runs = by (running table ks) refl
  where
    by : (o : Option Task) → running table ks ≡ o → AreLegal (option_map_or (λ (k : Task). if ends_in units l k then Compact k.compaction ∷ [] else []) o []) l
    by None none = tt
    by (Some k) is = at (ends_in units l k)
      where
        at : (b : Bool) → AreLegal (if b then Compact k.compaction ∷ [] else []) l
        at false = tt
        at true = ((found_runs table l ks runs k is).0, tt)

-- the tasks that are left
alone_runs : (k : Task) (l : Layout) (ks : List Task) → IsAlone ks k → AreRunning ks l → AreRunning ks (moved (Compact k.compaction) l)
alone_runs k l [] alone runs = tt
alone_runs k l (o ∷ ks) alone runs = (still_running o.compaction (Compact k.compaction) l alone.0 runs.0, alone_runs k l ks alone.1 runs.1)

pub step_runs : (table units : ℕ) (l : Layout) (ks : List Task) → AreRunning ks l → AreOfTables ks → AreRunning (advanced table units l ks) (after_moves (step_moves table units l ks) l)
step_runs table units l [] runs tables = tt
step_runs table units l (k ∷ ks) runs tables = by (is_of table k) refl (step_runs table units l ks runs.1 tables.1)
  where
    by : (b : Bool) → is_of table k ≡ b → AreRunning (advanced table units l ks) (after_moves (step_moves table units l ks) l)
        → AreRunning (if b then (if ends_in units l k then ks else record k { passed = k.passed + units } ∷ ks) else k ∷ advanced table units l ks)
        (after_moves (option_map_or (λ (j : Task). if ends_in units l j then Compact j.compaction ∷ [] else []) (cond b (Some k) (running table ks)) []) l)
    by true own rest = at (ends_in units l k)
      where
        at : (e : Bool) → AreRunning (if e then ks else record k { passed = k.passed + units } ∷ ks) (after_moves (if e then Compact k.compaction ∷ [] else []) l)
        at true = alone_runs k l ks tables.0 runs.1
        at false = runs
    by false other rest = (still_running_after k.compaction (step_moves table units l ks) l (step_other k.compaction table units l ks other) runs.0, rest)

advanced_alone : (j : Task) (table units : ℕ) (l : Layout) (ks : List Task) → IsAlone ks j → IsAlone (advanced table units l ks) j
advanced_alone j table units l [] alone = tt
advanced_alone j table units l (k ∷ ks) alone = by (is_of table k) (ends_in units l k) (advanced_alone j table units l ks alone.1)
  where
    by : (b e : Bool) → IsAlone (advanced table units l ks) j → IsAlone (if b then (if e then ks else record k { passed = k.passed + units } ∷ ks) else k ∷ advanced table units l ks) j
    by true true rest = alone.1
    by true false rest = alone
    by false e rest = (alone.0, rest)

pub step_tables : (table units : ℕ) (l : Layout) (ks : List Task) → AreOfTables ks → AreOfTables (advanced table units l ks)
step_tables table units l [] tables = tt
step_tables table units l (k ∷ ks) tables = by (is_of table k) (ends_in units l k) (step_tables table units l ks tables.1)
  where
    by : (b e : Bool) → AreOfTables (advanced table units l ks) → AreOfTables (if b then (if e then ks else record k { passed = k.passed + units } ∷ ks) else k ∷ advanced table units l ks)
    by true true rest = tables.1
    by true false rest = tables
    by false e rest = (advanced_alone k table units l ks tables.0, rest)

-- ---- tasks that are taken away

without_alone : (j : Task) (table : ℕ) (ks : List Task) → IsAlone ks j → IsAlone (without table ks) j
without_alone j table [] alone = tt
without_alone j table (k ∷ ks) alone = by (is_of table k) (without_alone j table ks alone.1)
  where
    by : (b : Bool) → IsAlone (without table ks) j → IsAlone (cond (not b) (k ∷ without table ks) (without table ks)) j
    by true rest = rest
    by false rest = (alone.0, rest)

pub without_tables : (table : ℕ) (ks : List Task) → AreOfTables ks → AreOfTables (without table ks)
without_tables table [] tables = tt
without_tables table (k ∷ ks) tables = by (is_of table k) (without_tables table ks tables.1)
  where
    by : (b : Bool) → AreOfTables (without table ks) → AreOfTables (cond (not b) (k ∷ without table ks) (without table ks))
    by true rest = rest
    by false rest = (without_alone k table ks tables.0, rest)

-- after moves that leave other tables
pub without_runs : (table : ℕ) (l : Layout) (ms : List Move) → ((c : Compaction) → nat_eq c.table table ≡ false → AreOthers c ms) → (ks : List Task) → AreRunning ks l → AreRunning (without table ks) (after_moves ms l)
without_runs table l ms others [] runs = tt
without_runs table l ms others (k ∷ ks) runs = by (is_of table k) refl (without_runs table l ms others ks runs.1)
  where
    by : (b : Bool) → is_of table k ≡ b → AreRunning (without table ks) (after_moves ms l) → AreRunning (cond (not b) (k ∷ without table ks) (without table ks)) (after_moves ms l)
    by true own rest = rest
    by false other rest = (still_running_after k.compaction ms l (others k.compaction other) runs.0, rest)

pub runs_on : (l : Layout) (ms : List Move) → ((c : Compaction) → AreOthers c ms) → (ks : List Task) → AreRunning ks l → AreRunning ks (after_moves ms l)
runs_on l ms others [] runs = tt
runs_on l ms others (k ∷ ks) runs = (still_running_after k.compaction ms l (others k.compaction) runs.0, runs_on l ms others ks runs.1)

-- ---- BEGIN COMPACT

both_run : (l : Layout) (xs ys : List Task) → AreRunning xs l → AreRunning ys l → AreRunning (xs ++ ys) l
both_run l [] ys first second = second
both_run l (x ∷ xs) ys first second = (first.0, both_run l xs ys first.1 second)

alone_push : (j k : Task) (ks : List Task) → IsAlone ks j → nat_eq k.compaction.table j.compaction.table ≡ false → IsAlone (ks ++ k ∷ []) j
alone_push j k [] alone apart = (apart, tt)
alone_push j k (o ∷ ks) alone apart = (alone.0, alone_push j k ks alone.1 apart)

tables_push : (k : Task) (ks : List Task) → AreOfTables ks → AllByRecursion (λ (o : Task). nat_eq k.compaction.table o.compaction.table ≡ false) ks → AreOfTables (ks ++ k ∷ [])
tables_push k [] tables apart = (tt, tt)
tables_push k (o ∷ ks) tables apart = (alone_push o k ks tables.0 apart.0, tables_push k ks tables.1 apart.1)

module _ (table : ℕ) (l : Layout) (ks : List Task) (in_order : HasNumbersInOrder l) (runs : AreRunning ks l) (tables : AreOfTables ks) where
  -- what a list of begun tasks leaves
  abbrev Leaves : List Task → Type 0
  Leaves new = AreRunning (ks ++ new) (after_moves (map (λ (k : Task). Draw) new) l) × AreOfTables (ks ++ new) × AreLegal (map (λ (k : Task). Draw) new) l

  leaves_none : Leaves []
  leaves_none = (subst (λ (js : List Task). AreRunning js l) (sym (append-nil ks)) runs, subst AreOfTables (sym (append-nil ks)) tables, tt)

  others_turned : (os : List Task) → AllByRecursion (λ (o : Task). nat_eq o.compaction.table table ≡ false) os → AllByRecursion (λ (o : Task). nat_eq table o.compaction.table ≡ false) os
  others_turned [] all = tt
  others_turned (o ∷ os) all = ((let apart = all.0 in grind (arith, nat_tests, apart)), others_turned os all.1)

  -- **So does BEGIN COMPACT.**
  pub begin_leaves : Leaves (begins table l ks)
  begin_leaves = by (running table ks) refl
    where
      by : (o : Option Task) → running table ks ≡ o → Leaves (option_map_or (λ (k : Task). []) o (task_begun table l))
      by (Some k) is = leaves_none
      by None none = at (numbered 1 table l.tables) refl
        where
          at : (o : Option TableParts) → numbered 1 table l.tables ≡ o → Leaves (option_map_or (begun_in l.used.«data» table) o [])
          at None is = leaves_none
          at (Some t) there = of (nat_le 2 (length t.files))
            where
              of : (b : Bool) → Leaves (if b then record { compaction = begun l.used.«data» table t (rising_numbers t); passed = 0 } ∷ [] else [])
              of false = leaves_none
              of true = (
                both_run (after_draw l) ks _ (runs_on l (Draw ∷ []) (λ c. (tt, tt)) ks runs) (begins_running l table t (rising_numbers t) there in_order, tt),
                tables_push (record { compaction = begun l.used.«data» table t (rising_numbers t); passed = 0 }) ks tables (others_turned ks (none_found table ks none)),
                (tt, tt),
              )

-- ---- pieces

module _ (w : World) (valid : IsValidWorld w) where
  -- what the moves and the tasks of a session's piece leave
  abbrev IsLeft : List Move → List Task → Type 0
  IsLeft ms ks = AreLegal ms w.layout × AreRunning ks (after_moves ms w.layout) × AreOfTables ks

  left_none : IsLeft [] w.tasks
  left_none = (tt, valid.runs, valid.tables)

  freeze_left : (table : ℕ) → IsLeft (freeze_where table w.layout ++ []) w.tasks
  freeze_left table = by (holds_any table w.layout)
    where
      by : (b : Bool) → IsLeft ((if b then Freeze table ∷ [] else []) ++ []) w.tasks
      by true = ((tt, tt), runs_on w.layout (Freeze table ∷ []) (λ c. (tt, tt)) w.tasks valid.runs, valid.tables)
      by false = left_none

  session_left : (parsed : ParsedPiece) → IsLeft (session_moves w parsed) (tasks_after w.layout parsed w.tasks)
  session_left (Says (OpenCursor cursor select)) = by (number_of_table select.table (definitions_of w.layout))
    where
      by : (o : Option ℕ) → IsLeft (option_map_or (λ number. freeze_where number w.layout) o [] ++ []) w.tasks
      by None = left_none
      by (Some n) = freeze_left n
  session_left (Says (statement.Compact table)) = by (number_of_table table (definitions_of w.layout))
    where
      by : (o : Option ℕ) → IsLeft (option_map_or (λ n. compact_moves n w.layout w.tasks) o []) (option_map_or (λ n. without n w.tasks) o w.tasks)
      by None = left_none
      by (Some n) = (
        compact_legal n w.layout w.tasks valid.in_order valid.runs,
        without_runs n w.layout (compact_moves n w.layout w.tasks) (λ c apart. compact_others c n w.layout w.tasks apart) w.tasks valid.runs,
        without_tables n w.tasks valid.tables,
      )
  session_left (Says (BeginCompact table)) = by (number_of_table table (definitions_of w.layout))
    where
      by : (o : Option ℕ) → IsLeft (option_map_or (λ n. begin_moves n w.layout w.tasks) o []) (option_map_or (λ n. tasks_begun n w.layout w.tasks) o w.tasks)
      by None = left_none
      by (Some n) = (let all = begin_leaves n w.layout w.tasks valid.in_order valid.runs valid.tables in (all.2, all.0, all.1))
  session_left (Says (StepCompact table units)) = by (number_of_table table (definitions_of w.layout))
    where
      by : (o : Option ℕ) → IsLeft (option_map_or (λ n. step_moves n (count_asked units) w.layout w.tasks) o []) (option_map_or (λ n. advanced n (count_asked units) w.layout w.tasks) o w.tasks)
      by None = left_none
      by (Some n) = (
        step_legal n (count_asked units) w.layout w.tasks valid.runs,
        step_runs n (count_asked units) w.layout w.tasks valid.runs valid.tables,
        step_tables n (count_asked units) w.layout w.tasks valid.tables,
      )
  session_left parsed = left_none

  module _ (piece : Piece) where
    -- behind moves of the session there are none of the tables
    behind : (ms : List Move) (ks : List Task) → IsLeft ms ks → (ms ≡ []) ⊎ (moves_of w.layout piece ≡ []) → IsLeft (ms ++ moves_of w.layout piece) ks
    behind ms ks left (inl none) =
        subst (λ (ns : List Move). IsLeft (ns ++ moves_of w.layout piece) ks) (sym none)
        (piece_legal grammar_parser w.layout piece, runs_on w.layout (moves_of w.layout piece) (λ c. asked_others c w.layout (asks (known_in w.layout) piece)) ks (subst (λ (ns : List Move). AreRunning ks (after_moves ns w.layout)) none left.1), left.2)
    behind ms ks left (inr none) = subst (λ (ns : List Move). IsLeft ns ks) (sym (append-nil ms) ∙ ap (λ (ns : List Move). ms ++ ns) (sym none)) left

    all_left : (o : Option Refusal) → (session_moves w (read piece) ≡ []) ⊎ (moves_of w.layout piece ≡ [])
        → IsLeft (unless_refused o (session_moves w (read piece)) [] ++ moves_of w.layout piece) (unless_refused o (tasks_after w.layout (read piece) w.tasks) w.tasks)
    all_left None either = behind (session_moves w (read piece)) (tasks_after w.layout (read piece) w.tasks) (session_left (read piece)) either
    all_left (Some r) either = behind [] w.tasks left_none (inl refl)

    -- **The moves of a piece are legal, and leave a valid world.**
    pub moves_legal : (session_moves w (read piece) ≡ []) ⊎ (moves_of w.layout piece ≡ []) → AreLegal (moves_in grammar_parser w piece) w.layout
    moves_legal either = (all_left (refused_by grammar_parser w.session (state_of w.layout) piece) either).0

    pub after_valid : (session_moves w (read piece) ≡ []) ⊎ (moves_of w.layout piece ≡ []) → IsValidWorld (steps.after w piece)
    after_valid either =
        let left = all_left (refused_by grammar_parser w.session (state_of w.layout) piece) either in
        record { in_order = moves_in_order (moves_in grammar_parser w piece) w.layout left.0 valid.in_order; runs = left.1; tables = left.2 }
