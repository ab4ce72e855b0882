-- The order of terms.
use Rattle.std.proofs.Common.{◌≡◌, ℕ, zero, suc, ◌+◌, ◌-◌, ◌<◌, ◌≤◌, Bool, true, false, List, [], length, refl, sym, ap, ◌∙◌, subst, arith, ⊎_elim}
use Rattle.std.proofs.lemmas.Bool.Decides.{leb_tells}
use Rattle.std.specs.Prelude.{get_or}
use Rattle.std.specs.Ordering.{is_lt, nat_cmp}
use Rattle.std.specs.declared.cmp.Ordering.{Ordering}
use Rattle.std.specs.declared.cmp.Ordering.TheVariants.{Less, Equal, Greater}
use Rattle.std.specs.Cmp.Lexicographic.{slice_cmp, nat_list_cmp_total}
use Rattle.sasi_host.specs.Names.{Bytes}
use Rattle.sasi_termblocks.specs.Entries.{is_below}
use Rattle.sasi_termblocks.specs.Scans.{CountsBelow, IsRising}

less : (o : Ordering) → is_lt o ≡ true → o ≡ Less
less Less h = refl
less Equal h = absurd cc
less Greater h = absurd cc

pub below_on : (a b c : Bytes) → is_below a b ≡ true → is_below b c ≡ true → is_below a c ≡ true
below_on a b c first second = ap is_lt (nat_list_cmp_total.trans a b c (less (slice_cmp nat_cmp a b) first) (less (slice_cmp nat_cmp b c) second))

-- what is above a term that isn't below isn't below either
pub above_on : (a b sought : Bytes) → is_below a sought ≡ false → is_below a b ≡ true → is_below b sought ≡ false
above_on a b sought not_below rises = by (is_below b sought) refl
  where
    by : (t : Bool) → is_below b sought ≡ t → t ≡ false
    by true is = absurd (let no : is_below a sought ≡ true = below_on a b sought rises is in let both : true ≡ false = sym no ∙ not_below in cc)
    by false is = refl

pub rises_far : (terms : List Bytes) → IsRising terms → (low more : ℕ) → low + (more + 1) < length terms → is_below (get_or terms low []) (get_or terms (low + (more + 1)) []) ≡ true
rises_far terms rising low zero lt =
    subst (λ (n : ℕ). is_below (get_or terms low []) (get_or terms n []) ≡ true) (omega arith) (rising low (omega (arith, lt)))
rises_far terms rising low (suc more) lt =
    let before = rises_far terms rising low more (omega (arith, lt)) in
    let step : is_below (get_or terms (low + (more + 1)) []) (get_or terms (low + (suc more + 1)) []) ≡ true =
    subst (λ (n : ℕ). is_below (get_or terms (low + (more + 1)) []) (get_or terms n []) ≡ true) (omega arith) (rising (low + (more + 1)) (omega (arith, lt))) in
    below_on (get_or terms low []) (get_or terms (low + (more + 1)) []) (get_or terms (low + (suc more + 1)) []) before step

pub rises_to : (terms : List Bytes) → IsRising terms → (low high : ℕ) → low < high → high < length terms → is_below (get_or terms low []) (get_or terms high []) ≡ true
rises_to terms rising low high lt within =
    let same : low + ((high - suc low) + 1) ≡ high = omega (arith, lt) in
    subst (λ (n : ℕ). is_below (get_or terms low []) (get_or terms n []) ≡ true) same (rises_far terms rising low (high - suc low) (omega (arith, same, within)))

-- a count is told by its neighbours
pub counts_by : (terms : List Bytes) (sought : Bytes) (count : ℕ) → IsRising terms → count ≤ length terms → ((last : ℕ) → count ≡ last + 1 → is_below (get_or terms last []) sought ≡ true)
    → (count < length terms → is_below (get_or terms count []) sought ≡ false) → CountsBelow terms sought count
counts_by terms sought count rising within last next = record {
  within = within;
  below = λ index lt. below index lt;
  above = λ index le short. above index le short;
}
  where
    below : (index : ℕ) → index < count → is_below (get_or terms index []) sought ≡ true
    below index lt =
        let here = last (count - 1) (omega (arith, lt)) in
        ⊎_elim
        (λ same. subst (λ (n : ℕ). is_below (get_or terms n []) sought ≡ true) (omega (arith, same.1, lt)) here)
        (λ before. below_on (get_or terms index []) (get_or terms (count - 1) []) sought (rises_to terms rising index (count - 1) (omega (arith, before.1)) (omega (arith, within, lt))) here)
        (leb_tells (count - 1) index)

    above : (index : ℕ) → count ≤ index → index < length terms → is_below (get_or terms index []) sought ≡ false
    above index le short =
        let here = next (omega (arith, le, short)) in
        ⊎_elim
        (λ same. subst (λ (n : ℕ). is_below (get_or terms n []) sought ≡ false) (omega (arith, same.1, le)) here)
        (λ behind. above_on (get_or terms count []) (get_or terms index []) sought here (rises_to terms rising count index (omega (arith, behind.1)) short))
        (leb_tells index count)
