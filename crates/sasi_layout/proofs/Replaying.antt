-- Laws of replaying the log into a table's map.
use Rattle.std.specs.Prelude.{ℕ, zero, suc, Bool, true, false, cond, nat_eq, nat_le, List, Option, None, Some, refl, length, drop, ◌≡◌, ◌&&◌, ◌||◌, ◌+◌, ◌≤◌, ◌∷◌, ◌++◌, []}
use Rattle.std.proofs.Common.{◌∙◌, sym, ap, subst, arith}
use Rattle.std.proofs.lemmas.Bool.Decides.{nat_tests}
use Rattle.sasi_types.specs.declared.partitioner.Partitioner.{Partitioner}
use Rattle.sasi_model.specs.Abbreviations.{Partitions}
use Rattle.sasi_model.specs.State.{decorated}
use Rattle.sasi_cells.specs.Maps.{put}
use Rattle.sasi_cells.specs.declared.mutation.Mutation.{Mutation}
use Rattle.sasi_layout.specs.Moves.{or_else}
use Rattle.sasi_layout.specs.Shape.{replay, replay_segment, has_mutation, first_in}

-- ---- one more mutation

segment_more : (p : Partitioner) (table : ℕ) (m : Partitions) (ms : List Mutation) (x : Mutation) → replay_segment p table m (ms ++ x ∷ []) ≡ replay_segment p table (replay_segment p table m ms) (x ∷ [])
segment_more p table m [] x = refl
segment_more p table m (y ∷ ms) x = segment_more p table (cond (nat_eq y.table table) (put m (decorated p y.key) y.change) m) ms x

record_more : (table : ℕ) (ms : List Mutation) (x : Mutation) → has_mutation table (ms ++ x ∷ []) ≡ (has_mutation table ms || nat_eq x.table table)
record_more table [] x = by (nat_eq x.table table)
  where
    by : (b : Bool) → (b || false) ≡ b
    by true = refl
    by false = refl
record_more table (y ∷ ms) x = ap (λ b. nat_eq y.table table || b) (record_more table ms x) ∙ by (nat_eq y.table table)
  where
    by : (b : Bool) → (b || (has_mutation table ms || nat_eq x.table table)) ≡ ((b || has_mutation table ms) || nat_eq x.table table)
    by true = refl
    by false = refl

-- ---- the last segment

-- what the last segment adds
abbrev pub with_last : Bool → Partitioner → ℕ → Partitions → List Mutation → Partitions
with_last taken p table m ms = cond taken (replay_segment p table m ms) m

pub replay_last : (p : Partitioner) (table since n : ℕ) (m : Partitions) (older : List (List Mutation)) (ms : List Mutation) (last : ℕ) → n + length older ≡ last
    → replay p table since n m (older ++ ms ∷ []) ≡ with_last (nat_le since last) p table (replay p table since n m older) ms
replay_last p table since n m [] ms last is = let e : n ≡ last = omega (arith, is) in ap (λ k. with_last (nat_le since k) p table m ms) e
replay_last p table since n m (o ∷ older) ms last is = replay_last p table since (suc n) _ older ms last (omega (arith, is))

pub first_last : (table since n : ℕ) (older : List (List Mutation)) (ms : List Mutation) (last : ℕ) → n + length older ≡ last
    → first_in table since n (older ++ ms ∷ []) ≡ or_else (first_in table since n older) (cond (nat_le since last && has_mutation table ms) (Some last) None)
first_last table since n [] ms last is = let e : n ≡ last = omega (arith, is) in ap (λ k. cond (nat_le since k && has_mutation table ms) (Some k) None) e
first_last table since n (o ∷ older) ms last is = by (nat_le since n && has_mutation table o) (first_last table since (suc n) older ms last (omega (arith, is)))
  where
    by : (b : Bool) → first_in table since (suc n) (older ++ ms ∷ []) ≡ or_else (first_in table since (suc n) older) (cond (nat_le since last && has_mutation table ms) (Some last) None) → cond b (Some n) (first_in table since (suc n) (older ++ ms ∷ [])) ≡ or_else (cond b (Some n) (first_in table since (suc n) older)) (cond (nat_le since last && has_mutation table ms) (Some last) None)
    by true rest = refl
    by false rest = rest

-- ---- a mutation at the end of the last segment

module _ (p : Partitioner) (table since n : ℕ) (older : List (List Mutation)) (ms : List Mutation) (x : Mutation) (last : ℕ) (is : n + length older ≡ last) where
  -- of another table
  pub replay_other : (m : Partitions) → nat_eq x.table table ≡ false → replay p table since n m (older ++ (ms ++ x ∷ []) ∷ []) ≡ replay p table since n m (older ++ ms ∷ [])
  replay_other m other =
      replay_last p table since n m older (ms ++ x ∷ []) last is
      ∙ ap (λ (k : Partitions). cond (nat_le since last) k (replay p table since n m older)) (segment_more p table (replay p table since n m older) ms x ∙ ap (λ b. cond b (put (replay_segment p table (replay p table since n m older) ms) (decorated p x.key) x.change) (replay_segment p table (replay p table since n m older) ms)) other)
      ∙ sym (replay_last p table since n m older ms last is)

  pub first_other : nat_eq x.table table ≡ false → first_in table since n (older ++ (ms ++ x ∷ []) ∷ []) ≡ first_in table since n (older ++ ms ∷ [])
  first_other other =
      first_last table since n older (ms ++ x ∷ []) last is
      ∙ ap (λ b. or_else (first_in table since n older) (cond (nat_le since last && b) (Some last) None)) (record_more table ms x ∙ ap (λ b. has_mutation table ms || b) other ∙ by (has_mutation table ms))
      ∙ sym (first_last table since n older ms last is)
    where
      by : (b : Bool) → (b || false) ≡ b
      by true = refl
      by false = refl

  -- of this table
  pub replay_own : (m : Partitions) → nat_le since last ≡ true → nat_eq x.table table ≡ true → replay p table since n m (older ++ (ms ++ x ∷ []) ∷ []) ≡ put (replay p table since n m (older ++ ms ∷ [])) (decorated p x.key) x.change
  replay_own m taken own =
      replay_last p table since n m older (ms ++ x ∷ []) last is
      ∙ ap (λ b. cond b (replay_segment p table (replay p table since n m older) (ms ++ x ∷ [])) (replay p table since n m older)) taken
      ∙ segment_more p table (replay p table since n m older) ms x
      ∙ ap (λ b. cond b (put (replay_segment p table (replay p table since n m older) ms) (decorated p x.key) x.change) (replay_segment p table (replay p table since n m older) ms)) own
      ∙ ap (λ (k : Partitions). put k (decorated p x.key) x.change) (sym (replay_last p table since n m older ms last is ∙ ap (λ b. with_last b p table (replay p table since n m older) ms) taken))

  pub first_own : nat_le since last ≡ true → nat_eq x.table table ≡ true → first_in table since n (older ++ (ms ++ x ∷ []) ∷ []) ≡ or_else (first_in table since n (older ++ ms ∷ [])) (Some last)
  first_own taken own =
      first_last table since n older (ms ++ x ∷ []) last is
      ∙ ap (λ b. or_else (first_in table since n older) (cond b (Some last) None)) (ap (λ b. b && has_mutation table (ms ++ x ∷ [])) taken ∙ record_more table ms x ∙ ap (λ b. has_mutation table ms || b) own ∙ by (has_mutation table ms))
      ∙ twice (first_in table since n older) (nat_le since last && has_mutation table ms)
      ∙ ap (λ o. or_else o (Some last)) (sym (first_last table since n older ms last is))
    where
      by : (b : Bool) → (b || true) ≡ true
      by true = refl
      by false = refl

      twice : (o : Option ℕ) (b : Bool) → or_else o (Some last) ≡ or_else (or_else o (cond b (Some last) None)) (Some last)
      twice (Some k) b = refl
      twice None true = refl
      twice None false = refl

-- ---- segments that aren't needed

-- a table needs no segment before this one
abbrev pub IsFrom : ℕ → Option ℕ → Type 0
IsFrom bound None = Unit {0}
IsFrom bound (Some first) = bound ≤ first

pub no_mutation : (p : Partitioner) (table : ℕ) (m : Partitions) (ms : List Mutation) → has_mutation table ms ≡ false → replay_segment p table m ms ≡ m
no_mutation p table m [] none = refl
no_mutation p table m (x ∷ ms) none =
    elim (nat_eq x.table table) as (λ b. (b || has_mutation table ms) ≡ false → replay_segment p table (cond b (put m (decorated p x.key) x.change) m) ms ≡ m) [
      | true ↦ λ e. cc
      | false ↦ λ e. no_mutation p table m ms e
    ] none

skipped : (p : Partitioner) (table since n : ℕ) (m : Partitions) (ms : List Mutation) → (nat_le since n && has_mutation table ms) ≡ false → cond (nat_le since n) (replay_segment p table m ms) m ≡ m
skipped p table since n m ms none =
    elim (nat_le since n) as (λ b. (b && has_mutation table ms) ≡ false → cond b (replay_segment p table m ms) m ≡ m) [
      | true ↦ λ e. no_mutation p table m ms e
      | false ↦ λ e. refl
    ] none

-- the first segments may be left out where the table needs none of them
pub replay_dropped : (p : Partitioner) (table since n k : ℕ) (m : Partitions) (logs : List (List Mutation)) → IsFrom (n + k) (first_in table since n logs)
    → (replay p table since n m logs ≡ replay p table since (n + k) m (drop k logs)) × (first_in table since n logs ≡ first_in table since (n + k) (drop k logs))
replay_dropped p table since n zero m logs from = let e : n ≡ n + 0 = omega arith in (ap (λ i. replay p table since i m logs) e, ap (λ i. first_in table since i logs) e)
replay_dropped p table since n (suc k) m [] from = (refl, refl)
replay_dropped p table since n (suc k) m (ms ∷ logs) from =
    elim (nat_le since n && has_mutation table ms) as (λ b. (nat_le since n && has_mutation table ms) ≡ b → IsFrom (n + suc k) (cond b (Some n) (first_in table since (suc n) logs))
    → (replay p table since n m (ms ∷ logs) ≡ replay p table since (n + suc k) m (drop k logs)) × (cond b (Some n) (first_in table since (suc n) logs) ≡ first_in table since (n + suc k) (drop k logs))) [
      | true ↦ λ taken late. absurd (omega (arith, late))
      | false ↦ λ none later.
          let e : suc n + k ≡ n + suc k = omega arith in
          let rest = replay_dropped p table since (suc n) k m logs (subst (λ i. IsFrom i (first_in table since (suc n) logs)) (sym e) later) in (
            ap (λ (x : Partitions). replay p table since (suc n) x logs) (skipped p table since n m ms none) ∙ rest.0 ∙ ap (λ i. replay p table since i m (drop k logs)) e,
            rest.1 ∙ ap (λ i. first_in table since i (drop k logs)) e,
          )
    ] refl from

-- a table takes nothing of segments before its own first one
pub replay_late : (p : Partitioner) (table since n : ℕ) (m : Partitions) (logs : List (List Mutation)) → n + length logs ≤ since → (replay p table since n m logs ≡ m) × (first_in table since n logs ≡ None)
replay_late p table since n m [] late = (refl, refl)
replay_late p table since n m (ms ∷ logs) late =
    let before : nat_le since n ≡ false = grind (arith, nat_tests) in
    let rest = replay_late p table since (suc n) m logs (omega (arith, late)) in (
      ap (λ b. replay p table since (suc n) (cond b (replay_segment p table m ms) m) logs) before ∙ rest.0,
      ap (λ b. cond (b && has_mutation table ms) (Some n) (first_in table since (suc n) logs)) before ∙ rest.1,
    )

-- a last segment without mutations adds nothing
pub replay_with_none : (p : Partitioner) (table since n : ℕ) (m : Partitions) (logs : List (List Mutation)) → (replay p table since n m (logs ++ [] ∷ []) ≡ replay p table since n m logs) × (first_in table since n (logs ++ [] ∷ []) ≡ first_in table since n logs)
replay_with_none p table since n m logs = (
  replay_last p table since n m logs [] (n + length logs) refl ∙ same (nat_le since (n + length logs)) (replay p table since n m logs),
  first_last table since n logs [] (n + length logs) refl ∙ none (nat_le since (n + length logs)) (first_in table since n logs),
)
  where
    same : (b : Bool) (m : Partitions) → cond b m m ≡ m
    same true m = refl
    same false m = refl

    none : (b : Bool) (o : Option ℕ) → or_else o (cond (b && false) (Some (n + length logs)) None) ≡ o
    none true None = refl
    none true (Some k) = refl
    none false None = refl
    none false (Some k) = refl
