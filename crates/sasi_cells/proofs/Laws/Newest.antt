-- Laws of the order of cells, and of the newest of two.
use Rattle.std.specs.Prelude.{◌≡◌, ◌<◌, max, Bool, true, false, if◌then◌else◌, Option, None, Some}
use Rattle.std.specs.declared.cmp.Ordering.{Ordering}
use Rattle.std.specs.declared.cmp.Ordering.TheVariants.{Less, Equal, Greater}
use Rattle.std.specs.Ordering.{nat_cmp, is_lt, is_gt, ordering_then, ordering_reverse, MatchOrdering}
use Rattle.std.specs.Cmp.{IsTotalOrder, nat_cmp_total}
use Rattle.std.specs.Cmp.Lexicographic.{nat_list_cmp_total}
use Rattle.std.proofs.Common.{refl, sym, ap, ◌∙◌, arith}
use Rattle.std.proofs.lemmas.Cmp.{on_total, then_total, tied_itself, upto, ranked}
use Rattle.sasi_types.specs.declared.cell.Cell.{Cell}
use Rattle.sasi_types.specs.declared.value.Value.{Value}
use Rattle.sasi_types.specs.Value.{stored}
use Rattle.sasi_model.specs.Cells.{value_cmp, newest, newest_of}
use Rattle.sasi_model.specs.Abbreviations.{cell_cmp}

-- ---- the order

value_back : (a b : Option Value) → value_cmp a b ≡ ordering_reverse (value_cmp b a)
value_back None None = refl
value_back None (Some b) = refl
value_back (Some a) None = refl
value_back (Some a) (Some b) = nat_list_cmp_total.antisymm (stored a) (stored b)

value_trans : (a b c : Option Value) → value_cmp a b ≡ Less → value_cmp b c ≡ Less → value_cmp a c ≡ Less
value_trans None None c p q = cc
value_trans None (Some b) c p q = cc
value_trans (Some a) None None p q = refl
value_trans (Some a) None (Some c) p q = cc
value_trans (Some a) (Some b) None p q = refl
value_trans (Some a) (Some b) (Some c) p q = nat_list_cmp_total.trans (stored a) (stored b) (stored c) p q

value_congr : (a b c : Option Value) → value_cmp a b ≡ Equal → value_cmp a c ≡ value_cmp b c
value_congr None None c p = refl
value_congr None (Some b) c p = cc
value_congr (Some a) None c p = cc
value_congr (Some a) (Some b) None p = refl
value_congr (Some a) (Some b) (Some c) p = nat_list_cmp_total.congr (stored a) (stored b) (stored c) p

value_total : IsTotalOrder value_cmp
value_total = record { antisymm = value_back; trans = value_trans; congr = value_congr }

pub cell_total : IsTotalOrder cell_cmp
cell_total = then_total (on_total (λ (c : Cell). c.time) nat_cmp_total) (on_total (λ (c : Cell). c.value) value_total)

-- ---- the newest of two

newest_by : (r : Ordering) (a b : Cell) → cell_cmp a b ≡ r → newest a b ≡ (if is_lt r then b else a)
newest_by r a b e = ap (λ o. if is_lt o then b else a) e

-- of a cell and itself
pub newest_itself : (a : Cell) → newest a a ≡ a
newest_itself a = newest_by Equal a a (tied_itself cell_total a)

-- of two cells that tie only where they are equal, in either order
pub newest_commutes : (a b : Cell) → (cell_cmp a b ≡ Equal → a ≡ b) → newest a b ≡ newest b a
newest_commutes a b same =
    elim (cell_cmp a b) as (λ r. cell_cmp a b ≡ r → newest a b ≡ newest b a) [
      | Less ↦ λ e. newest_by Less a b e ∙ sym (newest_by Greater b a (cell_total.antisymm b a ∙ ap ordering_reverse e))
      | Equal ↦ λ e. ap (λ c. newest c b) (same e) ∙ ap (newest b) (sym (same e))
      | Greater ↦ λ e. newest_by Greater a b e ∙ sym (newest_by Less b a (cell_total.antisymm b a ∙ ap ordering_reverse e))
    ] refl

is_lt_back : (r : Ordering) → is_lt (ordering_reverse r) ≡ is_gt r
is_lt_back Less = refl
is_lt_back Equal = refl
is_lt_back Greater = refl

is_gt_back : (r : Ordering) → is_gt (ordering_reverse r) ≡ is_lt r
is_gt_back Less = refl
is_gt_back Equal = refl
is_gt_back Greater = refl

is_less : (r : Ordering) → is_lt r ≡ true → r ≡ Less
is_less Less e = refl
is_less Equal e = cc
is_less Greater e = cc

older : (a b : Cell) → is_lt (cell_cmp a b) ≡ true → newest a b ≡ b
older a b e = ap (λ t. if t then b else a) e

not_older : (a b : Cell) → is_lt (cell_cmp a b) ≡ false → newest a b ≡ a
not_older a b e = ap (λ t. if t then b else a) e

older_still : (a b c : Cell) → is_lt (cell_cmp a b) ≡ true → is_lt (cell_cmp b c) ≡ true → is_lt (cell_cmp a c) ≡ true
older_still a b c p q = ap is_lt (cell_total.trans a b c (is_less _ p) (is_less _ q))

not_below : (a b : Cell) → is_lt (cell_cmp a b) ≡ false → is_gt (cell_cmp b a) ≡ false
not_below a b p = ap is_gt (cell_total.antisymm b a) ∙ is_gt_back (cell_cmp a b) ∙ p

never_older : (a b c : Cell) → is_lt (cell_cmp a b) ≡ false → is_lt (cell_cmp b c) ≡ false → is_lt (cell_cmp a c) ≡ false
never_older a b c p q =
    ap is_lt (cell_total.antisymm a c) ∙ is_lt_back (cell_cmp c a) ∙ upto cell_total c b a (not_below b c q) (not_below a b p)

-- of three cells, whichever two are taken first
pub newest_associates : (a b c : Cell) → newest (newest a b) c ≡ newest a (newest b c)
newest_associates a b c =
    elim (is_lt (cell_cmp a b)) as (λ p. is_lt (cell_cmp a b) ≡ p → newest (newest a b) c ≡ newest a (newest b c)) [
      | true ↦ λ p. elim (is_lt (cell_cmp b c)) as (λ q. is_lt (cell_cmp b c) ≡ q → newest (newest a b) c ≡ newest a (newest b c)) [
        | true ↦ λ q. ap (λ x. newest x c) (older a b p) ∙ older b c q ∙ sym (ap (newest a) (older b c q) ∙ older a c (older_still a b c p q))
        | false ↦ λ q. ap (λ x. newest x c) (older a b p) ∙ not_older b c q ∙ sym (ap (newest a) (not_older b c q) ∙ older a b p)
      ] refl
      | false ↦ λ p. elim (is_lt (cell_cmp b c)) as (λ q. is_lt (cell_cmp b c) ≡ q → newest (newest a b) c ≡ newest a (newest b c)) [
        | true ↦ λ q. ap (λ x. newest x c) (not_older a b p) ∙ sym (ap (newest a) (older b c q))
        | false ↦ λ q. ap (λ x. newest x c) (not_older a b p) ∙ not_older a c (never_older a b c p q) ∙ sym (ap (newest a) (not_older b c q) ∙ not_older a b p)
      ] refl
    ] refl

-- ---- the newest of two that may be none

pub newest_of_itself : (x : Option Cell) → newest_of x x ≡ x
newest_of_itself None = refl
newest_of_itself (Some a) = ap Some (newest_itself a)

pub newest_of_associates : (x y z : Option Cell) → newest_of (newest_of x y) z ≡ newest_of x (newest_of y z)
newest_of_associates None y z = refl
newest_of_associates (Some a) None z = refl
newest_of_associates (Some a) (Some b) None = refl
newest_of_associates (Some a) (Some b) (Some c) = ap Some (newest_associates a b c)

-- x and y tie only where they are equal
abbrev pub TieOnlyWhereEqual : Option Cell → Option Cell → Type 0
TieOnlyWhereEqual x y = (a b : Cell) → x ≡ Some a → y ≡ Some b → cell_cmp a b ≡ Equal → a ≡ b

pub newest_of_commutes : (x y : Option Cell) → TieOnlyWhereEqual x y → newest_of x y ≡ newest_of y x
newest_of_commutes None None same = refl
newest_of_commutes None (Some b) same = refl
newest_of_commutes (Some a) None same = refl
newest_of_commutes (Some a) (Some b) same = ap Some (newest_commutes a b (same a b refl refl))

-- ---- times

time_of_either : (t : Bool) (a b : Cell) → a.time ≡ b.time → (if t then b else a).time ≡ max a.time b.time
time_of_either true a b e = omega arith
time_of_either false a b e = omega arith

time_by : (r : Ordering) (a b : Cell) → MatchOrdering r (a.time < b.time) (a.time ≡ b.time) (b.time < a.time)
    → (if is_lt (ordering_then r (value_cmp a.value b.value)) then b else a).time ≡ max a.time b.time
time_by Less a b h = omega arith
time_by Equal a b h = time_of_either (is_lt (value_cmp a.value b.value)) a b h
time_by Greater a b h = omega arith

-- the newest of two has the larger timestamp
pub newest_time : (a b : Cell) → (newest a b).time ≡ max a.time b.time
newest_time a b = time_by (nat_cmp a.time b.time) a b (ranked a.time b.time _ refl)
