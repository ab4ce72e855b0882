-- Where the task of a table stands, and whether one runs in the layout there.
use Rattle.std.proofs.Common.{◌≡◌, ℕ, zero, suc, ◌+◌, ◌<◌, ◌≤◌, Bool, true, false, cond, if◌then◌else◌, not, List, [], ◌∷◌, get_or, length, slice_get, None, Some, refl, sym, ap, ◌∙◌, arith}
use Rattle.std.specs.Prelude.{nat_eq, nat_lt}
use Rattle.std.proofs.lemmas.Bool.Decides.{nat_tests}
use Rattle.std.proofs.lemmas.List.Quantifiers.{position-Some}
use Rattle.std.specs.List.{AllByRecursion, find, position, position_or_len}
use Rattle.sasi_host.specs.View.{View}
use Rattle.sasi_layout.specs.Compacting.{Compaction}
use Rattle.sasi_layout.specs.Layout.{Layout}
use Rattle.sasi_tasks.specs.Running.{AreTasksOf, compaction_of}
use Rattle.sasi_tasks.specs.Tasks.{Task, advanced, ends_in, is_of, running, without}
use Rattle.sasi_tasks.specs.declared.running.RunningTask.{RunningTask}

-- ---- a search for the first item that passes

module _ {A : Type 0} (p : A → Bool) where
  behind_all : (xs : List A) → length xs ≤ position_or_len p xs → AllByRecursion (λ (x : A). p x ≡ false) xs
  behind_all [] over = tt
  behind_all (x ∷ xs) over = by (p x) refl over (behind_all xs)
    where
      by : (b : Bool) → p x ≡ b → suc (length xs) ≤ cond (not b) (1 + position_or_len p xs) 0 → (length xs ≤ position_or_len p xs → AllByRecursion (λ (y : A). p y ≡ false) xs) → AllByRecursion (λ (y : A). p y ≡ false) (x ∷ xs)
      by true is more rest = absurd (omega (arith, more))
      by false is more rest = (is, rest (omega (arith, more)))

  -- where none is found, none passes
  pub none_passes : (xs : List A) → position p xs ≡ None → AllByRecursion (λ (x : A). p x ≡ false) xs
  none_passes xs none = by (nat_lt (position_or_len p xs) (length xs)) refl none
    where
      by : (b : Bool) → nat_lt (position_or_len p xs) (length xs) ≡ b → cond b (Some (position_or_len p xs)) None ≡ None → AllByRecursion (λ (x : A). p x ≡ false) xs
      by true less is = cc
      by false over is = behind_all xs (grind (arith, nat_tests, over))

  got : (xs : List A) (i : ℕ) (d : A) → i < length xs → slice_get xs i ≡ Some (get_or xs i d)
  got [] i d within = absurd (omega (arith, within))
  got (x ∷ xs) zero d within = refl
  got (x ∷ xs) (suc i) d within = got xs i d (omega (arith, within))

  -- and what is found passes
  pub some_passes : (xs : List A) (at : ℕ) → position p xs ≡ Some at → (x : A) × (slice_get xs at ≡ Some x) × (p x ≡ true)
  some_passes [] at found = cc
  some_passes (x ∷ xs) at found =
      let is = position-Some p (x ∷ xs) at x found in
      (get_or (x ∷ xs) at x, got (x ∷ xs) at x is.0, is.1)

-- ---- tasks

clash : true ≡ false → ⊥
clash e = cc

abbrev pub is_in : ℕ → RunningTask → Bool
is_in table r = nat_eq r.table table

module _ (v : View) (l : Layout) (table : ℕ) where
  same_test : (r : RunningTask) (k : Task) → k.compaction ≡ compaction_of r → is_of table k ≡ is_in table r
  same_test r k is = ap (λ (c : Compaction). nat_eq c.table table) is

  -- where no task is of the table, none runs there
  pub none_running : (rs : List RunningTask) (ks : List Task) → AreTasksOf v l rs ks → AllByRecursion (λ (r : RunningTask). is_in table r ≡ false) rs → running table ks ≡ None
  none_running [] [] are none = refl
  none_running [] (k ∷ ks) are none = absurd are
  none_running (r ∷ rs) [] are none = absurd are
  none_running (r ∷ rs) (k ∷ ks) are none = ap (λ b. cond b (Some k) (find (is_of table) ks)) (same_test r k are.0.is ∙ none.0) ∙ none_running rs ks are.1 none.1

  -- and where one is, one does
  pub one_running : (rs : List RunningTask) (ks : List Task) (at : ℕ) (r : RunningTask) → AreTasksOf v l rs ks → slice_get rs at ≡ Some r → is_in table r ≡ true → (found : Task) × (running table ks ≡ Some found)
  one_running [] ks at r are there own = cc
  one_running (o ∷ rs) [] at r are there own = absurd are
  one_running (o ∷ rs) (k ∷ ks) at r are there own = by (is_of table k) refl at there (λ i behind. one_running rs ks i r are.1 behind own)
    where
      by : (b : Bool) → is_of table k ≡ b → (i : ℕ) → slice_get (o ∷ rs) i ≡ Some r → ((j : ℕ) → slice_get rs j ≡ Some r → (found : Task) × (running table ks ≡ Some found)) → (found : Task) × (running table (k ∷ ks) ≡ Some found)
      by true is i here rest = (k, ap (λ b. cond b (Some k) (find (is_of table) ks)) is)
      by false is zero here rest = (let same : o ≡ r = cc in absurd (clash (sym own ∙ ap (is_in table) (sym same) ∙ sym (same_test o k are.0.is) ∙ is)))
      by false is (suc i) behind rest = (let later = rest i behind in (later.0, ap (λ b. cond b (Some k) (find (is_of table) ks)) is ∙ later.1))

-- ---- where none runs in a table

-- no task goes on
pub none_advanced : (table units : ℕ) (l : Layout) (ks : List Task) → running table ks ≡ None → advanced table units l ks ≡ ks
none_advanced table units l [] none = refl
none_advanced table units l (k ∷ ks) none = by (is_of table k) refl none (none_advanced table units l ks)
  where
    by : (b : Bool) → is_of table k ≡ b → cond b (Some k) (find (is_of table) ks) ≡ None → (running table ks ≡ None → advanced table units l ks ≡ ks) → advanced table units l (k ∷ ks) ≡ k ∷ ks
    by true is found rest = cc
    by false is found rest = ap (λ b. if b then (if ends_in units l k then ks else record k { passed = k.passed + units } ∷ ks) else k ∷ advanced table units l ks) is ∙ ap (λ (xs : List Task). k ∷ xs) (rest found)

-- and none ends
pub none_without : (table : ℕ) (ks : List Task) → running table ks ≡ None → without table ks ≡ ks
none_without table [] none = refl
none_without table (k ∷ ks) none = by (is_of table k) refl none (none_without table ks)
  where
    by : (b : Bool) → is_of table k ≡ b → cond b (Some k) (find (is_of table) ks) ≡ None → (running table ks ≡ None → without table ks ≡ ks) → without table (k ∷ ks) ≡ k ∷ ks
    by true is found rest = cc
    by false is found rest = ap (λ b. cond (not b) (k ∷ without table ks) (without table ks)) is ∙ ap (λ (xs : List Task). k ∷ xs) (rest found)
