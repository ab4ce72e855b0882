-- Laws of hits that follow one another.
use Rattle.std.proofs.Common.{◌≡◌, ℕ, Bool, true, false, ◌&&◌, ◌||◌, cond, List, [], ◌∷◌, map, refl, sym, ap, subst, ◌∙◌}
use Rattle.std.proofs.lemmas.Cmp.{tied_itself}
use Rattle.std.specs.BTreeSet.{BTreeSet, IsOrdered}
use Rattle.std.specs.BTreeSet as tree
use Rattle.std.specs.BTreeMap.Range.{range_contains}
use Rattle.std.specs.declared.cmp.Ordering.TheVariants.{Less}
use Rattle.std.specs.declared.ops.Bound.TheVariants.{Included, Unbounded}
use Rattle.std.specs.List.{AllByRecursion, filter, list_any}
use Rattle.std.specs.List.Sorted.{IsStrictlySortedBy}
use Rattle.std.specs.Ordering.{eq_by_cmp, is_eq, is_le}
use Rattle.sasi_terms.specs.declared.op.Op.{Op}
use Rattle.sasi_terms.specs.Holds.{holds}
use Rattle.sasi_memindex.specs.declared.posting.Posting.{Posting}
use Rattle.sasi_memindex.specs.Hits.{keys_of_hits}
use Rattle.sasi_memindex.specs.Postings.{posting_cmp, posting_total}
use Rattle.sasi_memindex.specs.Runs.{EndsAtFirst, IsFirst}

-- ---- the members of a list

or_true : (b c : Bool) → c ≡ true → (b || c) ≡ true
or_true true c h = refl
or_true false c h = h

-- what holds of each posting that is found in a list holds of its items
pub each_has : (P : Posting → Type 0) (ks : List Posting) → ((p : Posting) → list_any (eq_by_cmp posting_cmp p) ks ≡ true → P p) → AllByRecursion P ks
each_has P [] each = tt
each_has P (k ∷ ks) each = (
  each k (ap (λ r. is_eq r || list_any (eq_by_cmp posting_cmp k) ks) (tied_itself posting_total k)),
  each_has P ks (λ p h. each p (or_true (eq_by_cmp posting_cmp p k) (list_any (eq_by_cmp posting_cmp p) ks) h)),
)

-- ---- from the first one on

abbrev pub from : Posting → Posting → Bool
from first p = range_contains posting_cmp (Included first) Unbounded p

not_from : (b : Bool) → (b && true) ≡ false → b ≡ false
not_from true h = cc
not_from false h = refl

is_from : (b : Bool) → (b && true) ≡ true → b ≡ true
is_from true h = refl
is_from false h = cc

abbrev asked : Op → List ℕ → Posting → Bool
asked op body p = holds op p.term body

none_asked : (op : Op) (body : List ℕ) (ks : List Posting) → AllByRecursion (λ k. asked op body k ≡ false) ks → filter (asked op body) ks ≡ []
none_asked op body [] none = refl
none_asked op body (k ∷ ks) none = ap (λ b. cond b (k ∷ filter (asked op body) ks) (filter (asked op body) ks)) none.0 ∙ none_asked op body ks none.1

module _ (op : Op) (body : List ℕ) (first : Posting) (s : BTreeSet Posting) (is : IsFirst op body first s) where
  abbrev Has : Posting → Type 0
  Has p = tree.contains posting_cmp s p ≡ true

  -- what is asked for is there
  kept : (ks : List Posting) → AllByRecursion Has ks → filter (asked op body) (filter (from first) ks) ≡ filter (asked op body) ks
  kept [] each = refl
  kept (k ∷ ks) each = by (from first k) refl (kept ks each.1)
    where
      by : (b : Bool) → from first k ≡ b → filter (asked op body) (filter (from first) ks) ≡ filter (asked op body) ks → filter (asked op body) (filter (from first) (k ∷ ks)) ≡ filter (asked op body) (k ∷ ks)
      by true e rest =
          ap (λ b. filter (asked op body) (cond b (k ∷ filter (from first) ks) (filter (from first) ks))) e
          ∙ ap (λ (l : List Posting). cond (asked op body k) (k ∷ l) l) rest
      by false e rest =
          ap (λ b. filter (asked op body) (cond b (k ∷ filter (from first) ks) (filter (from first) ks))) e ∙ rest
          ∙ sym (ap (λ b. cond b (k ∷ filter (asked op body) ks) (filter (asked op body) ks)) (is.below k each.0 (not_from (is_le (posting_cmp first k)) e)))

  after : (p : Posting) → Has p → from first p ≡ true → asked op body p ≡ false → (ks : List Posting) → AllByRecursion Has ks → AllByRecursion (λ k. posting_cmp p k ≡ Less) ks → AllByRecursion (λ k. asked op body k ≡ false) ks
  after p has e isnt [] each above = tt
  after p has e isnt (k ∷ ks) each above = (is.after p k has each.0 (is_from (is_le (posting_cmp first p)) e) isnt above.0, after p has e isnt ks each.1 above.1)

  -- and nothing is behind the first one that isn't
  ends : (ks : List Posting) → AllByRecursion Has ks → IsStrictlySortedBy posting_cmp ks → EndsAtFirst op body (filter (from first) ks)
  unfolding IsStrictlySortedBy
  ends [] each sorted = tt
  ends (k ∷ ks) each sorted = by (from first k) refl (ends ks each.1 sorted.1)
    where
      by : (b : Bool) → from first k ≡ b → EndsAtFirst op body (filter (from first) ks) → EndsAtFirst op body (filter (from first) (k ∷ ks))
      by true e rest = subst (λ b. EndsAtFirst op body (cond b (k ∷ filter (from first) ks) (filter (from first) ks))) (sym e)
          (λ isnt. kept ks each.1 ∙ none_asked op body ks (after k each.0 e isnt ks each.1 sorted.0), rest)
      by false e rest = subst (λ b. EndsAtFirst op body (cond b (k ∷ filter (from first) ks) (filter (from first) ks))) (sym e) rest

  all_there : AllByRecursion Has s.keys
  all_there = each_has Has s.keys (λ p h. h)

  pub hits_kept : keys_of_hits op body (filter (from first) s.keys) ≡ keys_of_hits op body s.keys
  hits_kept = ap (map (λ (p : Posting). p.key)) (kept s.keys all_there)

  pub ends_first : IsOrdered posting_cmp s → EndsAtFirst op body (filter (from first) s.keys)
  ends_first sorted = ends s.keys all_there sorted
