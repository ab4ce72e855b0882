-- A few pairs fit the entry of their term.
use Rattle.std.proofs.Common.{◌≡◌, ℕ, suc, ◌+◌, ◌^◌, ◌<◌, ◌≤◌, true, List, [], ◌∷◌, ◌++◌, length, Option, Some, None, refl, ap, ◌∙◌, arith, rules, inl, inr, subst}
use Rattle.std.specs.Int.{w8, w64}
use Rattle.sasi_types.specs.declared.tree.Pair.{Pair}
use Rattle.sasi_host.specs.Names.{Bytes}
use Rattle.sasi_host.specs.declared.damage.FormatRule.TheVariants as rule
use Rattle.sasi_formats.specs.Formats.{Fits, fit_items}
use Rattle.sasi_formats.specs.Fields.{checked, last}
use Rattle.sasi_formats.proofs.Fitting.{checked_fits, number_fits, range_fits}
use Rattle.sasi_formats.proofs.Putting.{last_push}
use Rattle.sasi_tokentree.specs.Format.{AreFit, IsBefore, IsRising, pair_at}
use Rattle.sasi_sparse.specs.Inline.{few_pairs, is_before, is_behind, pair}
use Rattle.sasi_termblocks.specs.Entries.{term_entry}
use Rattle.sasi_termblocks.proofs.EntryLaws.{short_term}

is_before_yes : (a b : Pair) → IsBefore a b → is_before a b ≡ true
is_before_yes a b (inl token) = search (rules, token)
is_before_yes a b (inr place) = search (rules, place.0, place.1)

pair_fits : (p : Pair) → p.token < 2 ^ 64 → p.place < 2 ^ 64 → Fits pair p
pair_fits p token place = ((number_fits w64 p.token token, number_fits w64 p.place place), refl)

-- pairs that rise fit behind those before, where the first of them does
from : (before pairs : List Pair) → AreFit pairs → IsRising pairs → (0 < length pairs → is_behind (last before) (pair_at pairs 0) ≡ true) → fit_items (λ b. Fits (checked rule.Order 8 (is_behind (last b)) pair)) before pairs
from before [] fit rising behind = tt
from before (first ∷ others) fit rising behind =
    let one = fit 0 in
    let later : IsRising others =
    λ index lt.
    let up : suc index + 1 ≡ suc (index + 1) = omega arith in
    subst (λ (n : ℕ). IsBefore (pair_at others index) (pair_at (first ∷ others) n)) up (rising (suc index) (omega (arith, lt))) in (
      checked_fits rule.Order 8 (is_behind (last before)) pair first (pair_fits first one.0 one.1) (behind (omega arith)),
      from (before ++ first ∷ []) others (λ index. fit (suc index)) later
          (λ some. ap (λ (o : Option Pair). is_behind o (pair_at others 0)) (last_push before first) ∙ is_before_yes first (pair_at others 0) (rising 0 (omega (arith, some)))),
    )

few_fit : (pairs : List Pair) → AreFit pairs → IsRising pairs → 1 ≤ length pairs → length pairs ≤ 5 → Fits few_pairs pairs
few_fit pairs fit rising some few = (range_fits w8 1 5 (length pairs) (omega (arith, few)) some few, from [] pairs fit rising (λ _. refl))

-- a short term with one to five pairs has an entry
pub inline_fits : (t : Bytes) (pairs : List Pair) → length t ≤ 1024 → AreFit pairs → IsRising pairs → 1 ≤ length pairs → length pairs ≤ 5 → Fits term_entry (record { term = t; list = None; inline = Some pairs })
inline_fits t pairs le fit rising some few = ((short_term t le, (((number_fits w8 5 (omega arith), refl), (few_fit pairs fit rising some few, refl)), refl)), refl)
