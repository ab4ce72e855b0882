-- Steps, one after another.
use Rattle.std.proofs.Common.{◌≡◌, ℕ, ◌+◌, ◌≤◌, List, drop, sym, subst, arith, Result, Ok, Err}
use Rattle.sasi_types.specs.declared.column.ColumnType.{ColumnType}
use Rattle.sasi_host.specs.declared.fault.ReadFault.{ReadFault}
use Rattle.sasi_model.specs.Cells.{Partition}
use Rattle.sasi_memindex.specs.Book.{Book}
use Rattle.sasi_recheck.specs.Sources.{first_price}
use Rattle.sasi_sources.specs.KeyCandidates.{HasKeyType}
use Rattle.sasi_engine.specs.declared.hand.Hand.{Hand}
use Rattle.sasi_engine.specs.declared.step.Outcome.{Outcome}
use Rattle.sasi_engine.specs.declared.step.Outcome.TheVariants.{Ended, Passed, Found}
use Rattle.sasi_engine.specs.inside.Steps.{IsSameHand, StepSpends}
use Rattle.sasi_scan.specs.Numbered.{views_numbered}

-- a step fails, where so much was read before and is owed
pub step_fails : (Pays : ℕ → ℕ → List ℕ → Type 0) (most rest owed : ℕ) (prices : List ℕ) (was mid now : ℕ) (r : Result Outcome ReadFault) (f : ReadFault) → r ≡ Err f → mid + rest ≤ was + (most + owed) → StepSpends Pays rest owed prices mid now r → now ≤ was + (most + first_price prices)
step_fails Pays most rest owed prices was mid now r f is before spends =
    let one : now + owed ≤ mid + (rest + first_price prices) = subst (StepSpends Pays rest owed prices mid now) is spends in omega (arith, before, one)

-- it comes to the end, or to a candidate
pub step_ends : (Pays : ℕ → ℕ → List ℕ → Type 0) (most rest owed : ℕ) (prices : List ℕ) (was mid now : ℕ) (o : Outcome) → o ≡ Ended → mid + rest ≤ was + (most + owed) → StepSpends Pays rest owed prices mid now (Ok o)
    → (left : ℕ) × Pays left 0 (drop 1 prices) × (now + left ≤ was + (most + first_price prices))
step_ends Pays most rest owed prices was mid now o is before spends =
    let one = subst (λ (x : Outcome). StepSpends Pays rest owed prices mid now (Ok x)) is spends in (one.0, one.1, omega (arith, before, one.2))

pub step_finds : (Pays : ℕ → ℕ → List ℕ → Type 0) (most rest owed : ℕ) (prices : List ℕ) (was mid now : ℕ) (o : Outcome) (key : List ℕ) (part : Partition) → o ≡ Found key part → mid + rest ≤ was + (most + owed) → StepSpends Pays rest owed prices mid now (Ok o)
    → (left : ℕ) × Pays left 0 (drop 1 prices) × (now + left ≤ was + (most + first_price prices))
step_finds Pays most rest owed prices was mid now o key part is before spends =
    let one = subst (λ (x : Outcome). StepSpends Pays rest owed prices mid now (Ok x)) is spends in (one.0, one.1, omega (arith, before, one.2))

-- or the candidates are still left
pub step_passes : (Pays : ℕ → ℕ → List ℕ → Type 0) (most rest owed : ℕ) (prices : List ℕ) (was mid now : ℕ) (o : Outcome) → o ≡ Passed → mid + rest ≤ was + (most + owed) → StepSpends Pays rest owed prices mid now (Ok o)
    → (left more : ℕ) × Pays left more prices × (now + left ≤ was + (most + more))
step_passes Pays most rest owed prices was mid now o is before spends =
    let one = subst (λ (x : Outcome). StepSpends Pays rest owed prices mid now (Ok x)) is spends in (one.0, one.1, one.2, omega (arith, before, one.3))

-- the keys are of the type still
pub kind_still : (old new : Hand) (book : Book) (kind : ColumnType) → IsSameHand old new → HasKeyType old.lookup.types (views_numbered book old.maps.items) kind → HasKeyType new.lookup.types (views_numbered book new.maps.items) kind
kind_still old new book kind same has =
    subst (λ (numbers : List ℕ). HasKeyType new.lookup.types (views_numbered book numbers) kind) (sym same.maps_are)
    (subst (λ (types : List ColumnType). HasKeyType types (views_numbered book old.maps.items) kind) (sym same.files_are.types_are) has)
