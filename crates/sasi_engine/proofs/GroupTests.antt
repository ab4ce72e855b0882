-- Keys by their tokens: the groups have exactly the keys with their tokens.
use Rattle.std.proofs.Common.{◌≡◌, ℕ, suc, ◌<◌, ◌≤◌, Bool, true, false, cond, ◌&&◌, ◌||◌, if◌then◌else◌, nat_eq, List, [], ◌∷◌, ◌++◌, length, refl, sym, ap, ap₂, subst, ◌∙◌, arith}
use Rattle.std.specs.Prelude.{T}
use Rattle.std.proofs.lemmas.Bool.Decides.{nat_tests}
use Rattle.std.proofs.lemmas.List.Folds.{list_any-append}
use Rattle.std.specs.FinMap as map_
use Rattle.std.specs.FinMap.{is_sorted}
use Rattle.std.specs.FinMap.Entries.{below_all}
use Rattle.std.specs.List.{AllByRecursion, list_any}
use Rattle.std.specs.Ordering.{is_lt}
use Rattle.std.specs.declared.cmp.Ordering.{Ordering}
use Rattle.std.specs.declared.cmp.Ordering.TheVariants.{Less, Equal, Greater}
use Rattle.sasi_types.specs.declared.decorated_key.DecoratedKey.{DecoratedKey}
use Rattle.sasi_types.specs.DecoratedKey.{decorated_cmp}
use Rattle.sasi_dataread.proofs.Pairs.{less_token}
use Rattle.sasi_model.specs.Abbreviations.{Partitions}
use Rattle.sasi_model.specs.Cells.{Partition}
use Rattle.sasi_candidates.specs.Groups.{Group, by_token, rows_in, with_key}
use Rattle.sasi_candidates.proofs.GroupLaws.{all_by_token}

abbrev Row : Type 0
Row = DecoratedKey × Partition

-- ---- groups

-- the group has a row at least, and each has its token
pub record IsGroup (g : Group) : Type 0 where
  pub some : 1 ≤ length g.rows
  pub same : AllByRecursion (λ (e : Row). nat_eq e.0.token g.token ≡ true) g.rows

-- so are all, and their tokens rise
abbrev pub AreGroups : List Group → Type 0
AreGroups [] = Unit {0}
AreGroups (g ∷ gs) = IsGroup g × AllByRecursion (λ (h : Group). g.token < h.token) gs × AreGroups gs

abbrev TokensRise : List Row → Type 0
TokensRise [] = Unit {0}
TokensRise (e ∷ es) = AllByRecursion (λ (x : Row). e.0.token ≤ x.0.token) es × TokensRise es

least_with : (t : ℕ) (e : Row) (gs : List Group) → t ≤ e.0.token → AllByRecursion (λ (h : Group). t ≤ h.token) gs → AllByRecursion (λ (h : Group). t ≤ h.token) (with_key e gs)
least_with t e [] le all = (le, tt)
least_with t e (g ∷ gs) le all = by (nat_eq e.0.token g.token)
  where
    by : (b : Bool) → AllByRecursion (λ (h : Group). t ≤ h.token) (if b then record { token = g.token; rows = e ∷ g.rows } ∷ gs else record { token = e.0.token; rows = e ∷ [] } ∷ g ∷ gs)
    by true = all
    by false = (le, all)

least_of : (t : ℕ) (es : List Row) → AllByRecursion (λ (x : Row). t ≤ x.0.token) es → AllByRecursion (λ (h : Group). t ≤ h.token) (by_token es)
least_of t [] all = tt
least_of t (e ∷ es) all = least_with t e (by_token es) all.0 (least_of t es all.1)

above_least : (t m : ℕ) (gs : List Group) → t < m → AllByRecursion (λ (h : Group). m < h.token) gs → AllByRecursion (λ (h : Group). t < h.token) gs
above_least t m [] lt all = tt
above_least t m (g ∷ gs) lt all = (omega (arith, lt, all.0), above_least t m gs lt all.1)

own_token : (n : ℕ) → nat_eq n n ≡ true
own_token n = grind (arith, nat_tests)

apart : (n m : ℕ) → n ≤ m → nat_eq n m ≡ false → n < m
apart n m le other = grind (arith, nat_tests)

with_groups : (e : Row) (gs : List Group) → AllByRecursion (λ (h : Group). e.0.token ≤ h.token) gs → AreGroups gs → AreGroups (with_key e gs)
with_groups e [] least are = (record { some = omega arith; same = (own_token e.0.token, tt) }, tt, tt)
with_groups e (g ∷ gs) least are = by (nat_eq e.0.token g.token) refl
  where
    by : (b : Bool) → nat_eq e.0.token g.token ≡ b → AreGroups (if b then record { token = g.token; rows = e ∷ g.rows } ∷ gs else record { token = e.0.token; rows = e ∷ [] } ∷ g ∷ gs)
    by true is = (record { some = omega arith; same = (is, are.0.same) }, are.1, are.2)
    by false other =
        (let below = apart e.0.token g.token least.0 other in
        (record { some = omega arith; same = (own_token e.0.token, tt) }, (below, above_least e.0.token g.token gs below are.1), are))

groups_are : (es : List Row) → TokensRise es → AreGroups (by_token es)
groups_are [] rise = tt
groups_are (e ∷ es) rise = with_groups e (by_token es) (least_of e.0.token es rise.0) (groups_are es rise.1)

-- ---- the groups of a map

is_less : (o : Ordering) → T (is_lt o) → o ≡ Less
is_less Less h = refl
is_less Equal h = absurd h
is_less Greater h = absurd h

both_true : (a b : Bool) → T (a && b) → T a × T b
both_true true b h = (tt, h)
both_true false b h = absurd h

below_rise : (key : DecoratedKey) (es : List Row) → T (below_all decorated_cmp key es) → AllByRecursion (λ (x : Row). key.token ≤ x.0.token) es
below_rise key [] h = tt
below_rise key (e ∷ es) h = let parts = both_true _ _ h in (less_token key e.0 (is_less _ parts.0), below_rise key es parts.1)

sorted_rise : (es : List Row) → T (is_sorted decorated_cmp es) → TokensRise es
sorted_rise [] h = tt
sorted_rise (e ∷ es) h = let parts = both_true _ _ h in (below_rise e.0 es parts.0, sorted_rise es parts.1)

pub map_groups : (m : Partitions) → AreGroups (by_token (map_.entries m))
map_groups m = groups_are (map_.entries m) (sorted_rise (map_.entries m) (map_.entries_sorted m))

-- ---- tests of the rows with a token

-- the row has the token, and its key passes
abbrev pub tested : (DecoratedKey → Bool) → ℕ → Row → Bool
tested test token e = nat_eq e.0.token token && test e.0

own_rows : (test : DecoratedKey → Bool) (token : ℕ) (rows : List Row) → AllByRecursion (λ (e : Row). nat_eq e.0.token token ≡ true) rows → list_any (tested test token) rows ≡ list_any (λ (e : Row). test e.0) rows
own_rows test token [] all = refl
own_rows test token (e ∷ rows) all = ap₂ (λ b c. (b && test e.0) || c) all.0 (own_rows test token rows all.1)

differs : (x y z : ℕ) → nat_eq x y ≡ true → nat_eq y z ≡ false → nat_eq x z ≡ false
differs x y z same other = grind (arith, nat_tests)

lower : (x y : ℕ) → x < y → nat_eq x y ≡ false
lower x y lt = grind (arith, nat_tests)

higher : (x y : ℕ) → x < y → nat_eq y x ≡ false
higher x y lt = grind (arith, nat_tests)

other_rows : (test : DecoratedKey → Bool) (token other : ℕ) (rows : List Row) → nat_eq other token ≡ false → AllByRecursion (λ (e : Row). nat_eq e.0.token other ≡ true) rows → list_any (tested test token) rows ≡ false
other_rows test token other [] differ all = refl
other_rows test token other (e ∷ rows) differ all = ap₂ (λ b c. (b && test e.0) || c) (differs e.0.token other token all.0 differ) (other_rows test token other rows differ all.1)

no_rows : (test : DecoratedKey → Bool) (token : ℕ) (gs : List Group) → AreGroups gs → list_any (λ (g : Group). nat_eq g.token token) gs ≡ false → list_any (tested test token) (rows_in gs) ≡ false
no_rows test token [] are none = refl
no_rows test token (g ∷ gs) are none = by (nat_eq g.token token) refl none (no_rows test token gs are.2)
  where
    by : (b : Bool) → nat_eq g.token token ≡ b → (b || list_any (λ (h : Group). nat_eq h.token token) gs) ≡ false → (list_any (λ (h : Group). nat_eq h.token token) gs ≡ false → list_any (tested test token) (rows_in gs) ≡ false) → list_any (tested test token) (rows_in (g ∷ gs)) ≡ false
    by true same is later = cc
    by false other is later = list_any-append (tested test token) g.rows (rows_in gs) ∙ ap₂ (λ b c. b || c) (other_rows test token g.token g.rows other are.0.same) (later is)

none_above : (t : ℕ) (gs : List Group) → AllByRecursion (λ (h : Group). t < h.token) gs → list_any (λ (h : Group). nat_eq h.token t) gs ≡ false
none_above t [] all = refl
none_above t (g ∷ gs) all = ap₂ (λ b c. b || c) (higher t g.token all.0) (none_above t gs all.1)

-- a row of all groups with the group's token passes where one of the group does
abbrev pub IsTold : List Row → Group → Type 0
IsTold rows g = (test : DecoratedKey → Bool) → list_any (tested test g.token) rows ≡ list_any (λ (e : Row). test e.0) g.rows

or_false : (b : Bool) → (b || false) ≡ b
or_false true = refl
or_false false = refl

told_more : (g : Group) (gs hs : List Group) → IsGroup g → AllByRecursion (λ (h : Group). g.token < h.token) hs → AllByRecursion (IsTold (rows_in gs)) hs → AllByRecursion (IsTold (rows_in (g ∷ gs))) hs
told_more g gs [] is below all = tt
told_more g gs (h ∷ hs) is below all = (
  (λ test. list_any-append (tested test h.token) g.rows (rows_in gs) ∙ ap₂ (λ b c. b || c) (other_rows test h.token g.token g.rows (lower g.token h.token below.0) is.same) (all.0 test)),
  told_more g gs hs is below.1 all.1,
)

all_told : (gs : List Group) → AreGroups gs → AllByRecursion (IsTold (rows_in gs)) gs
all_told [] are = tt
all_told (g ∷ gs) are = (
  (λ test.
      list_any-append (tested test g.token) g.rows (rows_in gs)
      ∙ ap₂ (λ b c. b || c) (own_rows test g.token g.rows are.0.same) (no_rows test g.token gs are.2 (none_above g.token gs are.1))
      ∙ or_false (list_any (λ (e : Row). test e.0) g.rows)),
  told_more g gs gs are.0 are.1 (all_told gs are.2),
)

-- **A key of the map with the group's token passes where one of the group does,**
pub group_tests : (m : Partitions) → AllByRecursion (IsTold (map_.entries m)) (by_token (map_.entries m))
group_tests m = subst (λ (rows : List Row). AllByRecursion (IsTold rows) (by_token (map_.entries m))) (all_by_token (map_.entries m)) (all_told (by_token (map_.entries m)) (map_groups m))

-- **and none passes with a token that no group has.**
pub no_group : (m : Partitions) (test : DecoratedKey → Bool) (token : ℕ) → list_any (λ (g : Group). nat_eq g.token token) (by_token (map_.entries m)) ≡ false → list_any (tested test token) (map_.entries m) ≡ false
no_group m test token none = ap (list_any (tested test token)) (sym (all_by_token (map_.entries m))) ∙ no_rows test token (by_token (map_.entries m)) (map_groups m) none
