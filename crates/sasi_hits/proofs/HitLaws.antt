-- Laws of the hits that are left, as the pairs of the first word are passed.
use Rattle.std.proofs.Common.{◌≡◌, ◌⊎◌, ℕ, ◌≤◌, max, true, false, List, [], ◌∷◌, Option, Some, refl, sym, ap, subst, ◌∙◌, inl, inr, ⊎_elim, arith}
use Rattle.std.proofs.lemmas.Bool.Decides.{nat_tests}
use Rattle.std.specs.List.{filter}
use Rattle.sasi_types.specs.declared.tree.Pair.{Pair}
use Rattle.sasi_host.specs.Names.{Bytes}
use Rattle.sasi_terms.specs.declared.op.Op.{Op}
use Rattle.sasi_indexwrite.specs.Content.{IndexContent}
use Rattle.sasi_treemerge.specs.Merges.{is_behind}
use Rattle.sasi_treemerge.specs.Sources.{is_before}
use Rattle.sasi_treemerge.proofs.PairOrder.{before_itself}
use Rattle.sasi_hits.specs.HitPairs.{AreHits, IsHit, all_give}
use Rattle.sasi_hits.specs.Pairs.{is_from}
use Rattle.sasi_hits.specs.inside.Rising.{filter_rises}
use Rattle.sasi_hits.proofs.PairLaws.{before_one, behind_on, filter_in, from_cases, in_filter, no_both, of_all}

module _ (content : IndexContent) (op : Op) (words : List Bytes) (floor : ℕ) where
  abbrev Hit : Option Pair → Pair → Type 0
  Hit last pair = IsHit content op words last floor pair

  abbrev Hits : Option Pair → List Pair → Type 0
  Hits last left = AreHits content op words last floor left

  -- a hit behind a pair that comes behind the last one
  hit_later : (last : Option Pair) (pair q : Pair) → is_behind last pair ≡ true → Hit (Some pair) q → Hit last q
  hit_later last pair q behind hit = record { behind = behind_on last pair q behind hit.behind; from = hit.from; given = hit.given }

  -- of the hits none comes before this pair
  abbrev pub IsFirst : Option Pair → Pair → Type 0
  IsFirst last pair = (q : Pair) → is_behind last q ≡ true → all_give content op words q ≡ true → is_before q pair ≡ false

  -- ---- no hit is left

  pub hits_end : (last now : Option Pair) (left : List Pair) → ((q : Pair) → is_behind now q ≡ true → is_behind last q ≡ true) → ((q : Pair) → Hit last q → ⊥) → Hits last left → (left ≡ []) × Hits now []
  hits_end last now [] later none are = (refl, record { rise = tt; each = λ q has. absurd has; all = λ q hit. none q (record { behind = later q hit.behind; from = hit.from; given = hit.given }) })
  hits_end last now (x ∷ xs) later none are = absurd (none x (are.each x (inl refl)))

  -- ---- a pair that is none of them is passed

  pub hits_pass : (last : Option Pair) (pair : Pair) (left : List Pair) → is_behind last pair ≡ true → IsFirst last pair → (Hit last pair → ⊥) → Hits last left → Hits (Some pair) left
  hits_pass last pair left behind first none are = record {
    rise = are.rise;
    each = λ q has.
        (let hit = are.each q has in
        record {
          behind = ⊎_elim (λ same. absurd (none (subst (Hit last) same hit))) (λ later. later) (from_cases pair q (first q hit.behind hit.given));
          from = hit.from;
          given = hit.given;
        });
    all = λ q hit. are.all q (hit_later last pair q behind hit);
  }

  -- ---- a pair that is one of them is the first

  later_hits : (last : Option Pair) (x : Pair) (xs : List Pair) → is_behind last x ≡ true → Hits last (x ∷ xs) → Hits (Some x) xs
  later_hits last x xs behind are = record {
    rise = are.rise.1;
    each = λ q has. (let hit = are.each q (inr has) in record { behind = of_all (λ y. is_before x y ≡ true) q xs are.rise.0 has; from = hit.from; given = hit.given });
    all = λ q hit. ⊎_elim (λ same. no_both (is_before x q) hit.behind (ap (is_before x) (sym same) ∙ before_itself x)) (λ later. later) (are.all q (hit_later last x q behind hit));
  }

  pub hits_take : (last : Option Pair) (pair : Pair) (left : List Pair) → IsFirst last pair → Hit last pair → Hits last left → (rest : List Pair) × (left ≡ pair ∷ rest) × Hits (Some pair) rest
  hits_take last pair [] first hit are = absurd (are.all pair hit)
  hits_take last pair (x ∷ xs) first hit are =
      let x_hit = are.each x (inl refl) in
      let same : x ≡ pair = ⊎_elim (λ eq. eq)
      (λ later. ⊎_elim (λ eq. eq) (λ behind. no_both (is_before x pair) (of_all (λ y. is_before x y ≡ true) pair xs are.rise.0 behind) (before_one pair x later)) (are.all pair hit))
      (from_cases pair x (first x x_hit.behind x_hit.given)) in
      (xs, ap (λ p. p ∷ xs) same, subst (λ (p : Pair). Hits (Some p) xs) same (later_hits last x xs x_hit.behind are))

-- ---- a floor that rises

pub hits_skip : (content : IndexContent) (op : Op) (words : List Bytes) (last : Option Pair) (floor token : ℕ) (left : List Pair) → AreHits content op words last floor left
    → AreHits content op words last (max floor token) (filter (is_from token) left)
hits_skip content op words last floor token left are = record {
  rise = filter_rises (is_from token) left are.rise;
  each = λ q has.
      (let in_left = filter_in (is_from token) q left has in
      let hit = are.each q in_left.0 in
      let le : token ≤ q.token = from_le token q in_left.1 in
      record { behind = hit.behind; from = omega (arith, hit.from, le); given = hit.given });
  all = λ q hit.
      in_filter (is_from token) q left
      (are.all q (record { behind = hit.behind; from = omega (arith, hit.from); given = hit.given }))
      (is_le token q (omega (arith, hit.from)));
}
  where
    from_le : (token : ℕ) (q : Pair) → is_from token q ≡ true → token ≤ q.token
    from_le token q is = grind (arith, nat_tests)

    is_le : (token : ℕ) (q : Pair) → token ≤ q.token → is_from token q ≡ true
    is_le token q le = grind (arith, nat_tests)
