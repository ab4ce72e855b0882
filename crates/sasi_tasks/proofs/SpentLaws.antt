-- belongs in sasi_layout
-- Numbers that are spent, where further moves come after some.
use Rattle.std.specs.Prelude.{◌≡◌, ℕ, ◌-◌, ◌^◌, Bool, true, false, nat_eq, if◌then◌else◌, List, [], ◌∷◌, ◌++◌, Option, None, Some, refl}
use Rattle.std.proofs.Common.{ap, ◌∙◌}
use Rattle.sasi_layout.specs.declared.number_kind.NumberKind.{NumberKind}
use Rattle.sasi_layout.specs.declared.number_kind.NumberKind.TheVariants as kinds
use Rattle.sasi_layout.specs.Layout.{Layout}
use Rattle.sasi_layout.specs.Moves.{Move, after_moves, moved}
use Rattle.sasi_layout.specs.Spent.{draws, first_spent, is_too_long, spent}

-- where none of the drawn ones is spent, it is what comes then
none_drawn : (ds : List (NumberKind × ℕ)) (other more : Option NumberKind) → first_spent ds other ≡ None → (other ≡ None) × (first_spent ds more ≡ more)
none_drawn [] other more none = (none, refl)
none_drawn (d ∷ ds) other more none = by (nat_eq d.1 (2 ^ 32 - 1)) refl none (none_drawn ds other more)
  where
    by : (b : Bool) → nat_eq d.1 (2 ^ 32 - 1) ≡ b → (if b then Some d.0 else first_spent ds other) ≡ None → (first_spent ds other ≡ None → (other ≡ None) × (first_spent ds more ≡ more))
        → (other ≡ None) × ((if nat_eq d.1 (2 ^ 32 - 1) then Some d.0 else first_spent ds more) ≡ more)
    by true test none rest = cc
    by false test none rest = (let behind = rest none in (behind.0, ap (λ b. if b then Some d.0 else first_spent ds more) test ∙ behind.1))

-- where one is, it is so whatever comes then
some_drawn : (ds : List (NumberKind × ℕ)) (other more : Option NumberKind) (kind : NumberKind) → (other ≡ Some kind → more ≡ Some kind) → first_spent ds other ≡ Some kind → first_spent ds more ≡ Some kind
some_drawn [] other more kind leads is = leads is
some_drawn (d ∷ ds) other more kind leads is = by (nat_eq d.1 (2 ^ 32 - 1)) is (some_drawn ds other more kind leads)
  where
    by : (b : Bool) → (if b then Some d.0 else first_spent ds other) ≡ Some kind → (first_spent ds other ≡ Some kind → first_spent ds more ≡ Some kind) → (if b then Some d.0 else first_spent ds more) ≡ Some kind
    by true is rest = is
    by false is rest = rest is

-- **Where numbers are left for some moves, what is spent is spent by those after them,**
pub spent_behind : (ms ns : List Move) (l : Layout) → spent l ms ≡ None → spent l (ms ++ ns) ≡ spent (after_moves ms l) ns
spent_behind [] ns l none = refl
spent_behind (m ∷ ms) ns l none = by (is_too_long l m) none (spent_behind ms ns (moved m l))
  where
    by : (b : Bool) → first_spent (draws l m) (if b then Some kinds.Record else spent (moved m l) ms) ≡ None → (spent (moved m l) ms ≡ None → spent (moved m l) (ms ++ ns) ≡ spent (after_moves ms (moved m l)) ns)
        → first_spent (draws l m) (if b then Some kinds.Record else spent (moved m l) (ms ++ ns)) ≡ spent (after_moves ms (moved m l)) ns
    by true none rest = (let never : Some kinds.Record ≡ None = (none_drawn (draws l m) (Some kinds.Record) None none).0 in cc)
    by false none rest = (let behind = none_drawn (draws l m) (spent (moved m l) ms) (spent (moved m l) (ms ++ ns)) none in behind.1 ∙ rest behind.0)

-- **and what is spent by some moves is so before those after them.**
pub spent_before : (ms ns : List Move) (l : Layout) (kind : NumberKind) → spent l ms ≡ Some kind → spent l (ms ++ ns) ≡ Some kind
spent_before [] ns l kind is = cc
spent_before (m ∷ ms) ns l kind is = by (is_too_long l m) is (spent_before ms ns (moved m l) kind)
  where
    by : (b : Bool) → first_spent (draws l m) (if b then Some kinds.Record else spent (moved m l) ms) ≡ Some kind → (spent (moved m l) ms ≡ Some kind → spent (moved m l) (ms ++ ns) ≡ Some kind)
        → first_spent (draws l m) (if b then Some kinds.Record else spent (moved m l) (ms ++ ns)) ≡ Some kind
    by true is rest = is
    by false is rest = some_drawn (draws l m) (spent (moved m l) ms) (spent (moved m l) (ms ++ ns)) kind rest is
