-- A COMPACT: what is left of the compaction that runs in a table, and then, where two files are there, one of all files.
use Rattle.std.proofs.Common.{◌≡◌, ◌⊎◌, inl, inr, ℕ, Bool, true, false, cond, if◌then◌else◌, not, List, [], ◌∷◌, ◌++◌, length, map, Option, None, Some, refl, sym, ap, subst, ◌∙◌, arith}
use Rattle.std.specs.Prelude.{nat_eq, nat_le}
use Rattle.std.proofs.lemmas.Bool.Decides.{nat_tests}
use Rattle.std.proofs.lemmas.List.{append-nil}
use Rattle.std.proofs.lemmas.List.Elements.{filter-append}
use Rattle.std.proofs.lemmas.List.Folds.{find-append}
use Rattle.std.specs.List.{filter, find}
use Rattle.std.specs.Option.{option_map_or, option_or}
use Rattle.sasi_layout.specs.Compacting.{begun}
use Rattle.sasi_layout.specs.Layout.{Layout, TableParts, numbered, rising_numbers}
use Rattle.sasi_layout.specs.Moves.{Compact, Draw, Move, after_moves}
use Rattle.sasi_tasks.proofs.MovesAfterMoves.{both_moves, both_tasks}
use Rattle.sasi_tasks.specs.Tasks.{Task, begin_moves, begins, begun_in, compact_moves, end_moves, is_of, running, task_begun, tasks_begun, without}

module _ (table : ℕ) where
  -- the moves of what is left of a compaction, and the tasks then
  abbrev pub ends : Layout → List Task → List Move
  ends l ks = end_moves table ks

  abbrev pub others : Layout → List Task → List Task
  others l ks = without table ks

  -- none runs in the table among the others
  none_left : (ks : List Task) → running table (without table ks) ≡ None
  none_left [] = refl
  none_left (k ∷ ks) = by (is_of table k) refl (none_left ks)
    where
      by : (b : Bool) → is_of table k ≡ b → running table (without table ks) ≡ None → running table (cond (not b) (k ∷ without table ks) (without table ks)) ≡ None
      by true is rest = rest
      by false is rest = ap (λ b. cond b (Some k) (running table (without table ks))) is ∙ rest

  same_left : (ks : List Task) → without table (without table ks) ≡ without table ks
  same_left [] = refl
  same_left (k ∷ ks) = by (is_of table k) refl (same_left ks)
    where
      by : (b : Bool) → is_of table k ≡ b → without table (without table ks) ≡ without table ks → without table (cond (not b) (k ∷ without table ks) (without table ks)) ≡ cond (not b) (k ∷ without table ks) (without table ks)
      by true is rest = rest
      by false is rest = ap (λ b. cond (not b) (k ∷ without table (without table ks)) (without table (without table ks))) is ∙ ap (λ (xs : List Task). k ∷ xs) rest

  runs_behind : (ks more : List Task) → running table ks ≡ None → running table (ks ++ more) ≡ running table more
  runs_behind ks more none = find-append (is_of table) ks more ∙ ap (λ (o : Option Task). option_or o (running table more)) none

  -- one is begun in the table, or none
  abbrev IsBegun : List Task → Type 0
  IsBegun xs = (xs ≡ []) ⊎ ((k : Task) × (xs ≡ k ∷ []) × (is_of table k ≡ true))

  begun_one : (l : Layout) → IsBegun (task_begun table l)
  begun_one l = by (numbered 1 table l.tables)
    where
      own : nat_eq table table ≡ true
      own = grind (arith, nat_tests)

      one : (t : TableParts) (b : Bool) → IsBegun (if b then record { compaction = begun l.used.«data» table t (rising_numbers t); passed = 0 } ∷ [] else [])
      one t true = inr (record { compaction = begun l.used.«data» table t (rising_numbers t); passed = 0 }, refl, own)
      one t false = inl refl

      by : (o : Option TableParts) → IsBegun (option_map_or (begun_in l.used.«data» table) o [])
      by None = inl refl
      by (Some t) = one t (nat_le 2 (length t.files))

  -- it is ended at once
  ended : (ks xs : List Task) → running table ks ≡ None → IsBegun xs → map (λ (k : Task). Draw) xs ++ end_moves table (ks ++ xs) ≡ option_map_or (λ (k : Task). Draw ∷ Compact k.compaction ∷ []) (find (is_of table) xs) []
  ended ks xs none (inl is) =
      subst (λ (ys : List Task). map (λ (k : Task). Draw) ys ++ end_moves table (ks ++ ys) ≡ option_map_or (λ (k : Task). Draw ∷ Compact k.compaction ∷ []) (find (is_of table) ys) []) (sym is)
      (ap (λ (o : Option Task). option_map_or (λ (k : Task). Compact k.compaction ∷ []) o []) (runs_behind ks [] none))
  ended ks xs none (inr one) =
      let k = one.0 in
      subst (λ (ys : List Task). map (λ (k : Task). Draw) ys ++ end_moves table (ks ++ ys) ≡ option_map_or (λ (k : Task). Draw ∷ Compact k.compaction ∷ []) (find (is_of table) ys) []) (sym one.1)
      (ap (λ (o : Option Task). Draw ∷ option_map_or (λ (k : Task). Compact k.compaction ∷ []) o []) (runs_behind ks (k ∷ []) none ∙ ap (λ b. cond b (Some k) None) one.2)
      ∙ sym (ap (λ b. option_map_or (λ (k : Task). Draw ∷ Compact k.compaction ∷ []) (cond b (Some k) None) []) one.2))

  left_then : (xs : List Task) → IsBegun xs → without table xs ≡ []
  left_then xs (inl is) = ap (without table) is
  left_then xs (inr one) = ap (without table) one.1 ∙ ap (λ b. cond (not b) (one.0 ∷ []) []) one.2

  module _ (l : Layout) (ks : List Task) where
    abbrev ended_in : Layout
    ended_in = after_moves (end_moves table ks) l

    begins_then : begins table ended_in (without table ks) ≡ task_begun table ended_in
    begins_then = ap (λ (o : Option Task). option_map_or (λ (k : Task). []) o (task_begun table ended_in)) (none_left ks)

    -- **Its moves are those of what is left, of a BEGIN COMPACT and of what is left then,**
    pub compact_both : compact_moves table l ks ≡ both_moves ends (both_moves (begin_moves table) ends (tasks_begun table)) others l ks
    compact_both = ap (λ (ms : List Move). end_moves table ks ++ ms) (sym (
        ap (λ (xs : List Task). map (λ (k : Task). Draw) xs ++ end_moves table (without table ks ++ xs)) begins_then
        ∙ ended (without table ks) (task_begun table ended_in) (none_left ks) (begun_one ended_in)))

    -- **and then the tasks of the other tables are left.**
    pub compact_left : without table ks ≡ both_tasks ends others (both_tasks (begin_moves table) (tasks_begun table) others) l ks
    compact_left = sym (
        ap (λ (xs : List Task). without table (without table ks ++ xs)) begins_then
        ∙ filter-append (λ (k : Task). not (is_of table k)) (without table ks) (task_begun table ended_in)
        ∙ ap (λ (xs : List Task). without table (without table ks) ++ xs) (left_then (task_begun table ended_in) (begun_one ended_in))
        ∙ append-nil (without table (without table ks))
        ∙ same_left ks)
