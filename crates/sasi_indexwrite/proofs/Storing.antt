-- The postings that an index of a mode keeps, of those that were gathered.
use Rattle.std.proofs.Common.{◌≡◌, ℕ, zero, suc, ◌+◌, Bool, true, false, List, [], ◌∷◌, ◌++◌, length, get_or, cond, refl, sym, ◌∙◌, ap, subst, arith, rules, append-nil, length-append}
use Rattle.std.specs.Prelude.{map, not}
use Rattle.std.specs.List.{AllByRecursion, filter, flat_map}
use Rattle.std.specs.Ordering.{is_lt}
use Rattle.std.specs.declared.cmp.Ordering.{Ordering}
use Rattle.std.specs.declared.cmp.Ordering.TheVariants.{Less, Equal, Greater}
use Rattle.std.specs.Cmp.Lexicographic.{nat_list_cmp_total, same_text}
use Rattle.std.proofs.lemmas.Cmp.{tied_itself}
use Rattle.std.proofs.lemmas.List.{map-append, length-map}
use Rattle.std.proofs.lemmas.List.Elements.{filter-append}
use Rattle.sasi_types.specs.Term.{term_cmp, term_eq}
use Rattle.sasi_types.specs.declared.list_kind.ListKind.TheVariants.{Stored, Spill}
use Rattle.sasi_types.specs.declared.mode.Mode.{Mode}
use Rattle.sasi_types.specs.declared.mode.Mode.TheVariants.{Prefix, Contains, Sparse}
use Rattle.sasi_types.specs.declared.tree.Pair.{Pair}
use Rattle.sasi_host.specs.Names.{Bytes}
use Rattle.sasi_segments.specs.declared.posting.Posting.{Posting}
use Rattle.sasi_segments.specs.Postings.{posting_of}
use Rattle.sasi_sparse.specs.Sparse.{is_stored}
use Rattle.sasi_termblocks.specs.Entries.{is_below}
use Rattle.sasi_termblocks.specs.Scans.{IsRising as AreRisingTerms}
use Rattle.sasi_indexwrite.specs.Content.{TermPairs, postings_of, spill_postings, term_postings, terms_in}
use Rattle.sasi_indexwrite.specs.Kept.{common_pairs, kept_spill, kept_terms, rare_terms}
use Rattle.sasi_indexwrite.specs.Stored.{count_under, is_kept, is_under, stored}
use Rattle.sasi_indexwrite.specs.Unions.{union_of}
use Rattle.sasi_indexwrite.proofs.Unique.{rising_tail}

-- ---- filters of postings of one kind

module _ (p : Posting → Bool) (make : Pair → Posting) where
  filter_all : (pairs : List Pair) → ((x : Pair) → p (make x) ≡ true) → filter p (map make pairs) ≡ map make pairs
  filter_all [] h = refl
  filter_all (x ∷ pairs) h =
      ap (λ (b : Bool). cond b (make x ∷ filter p (map make pairs)) (filter p (map make pairs))) (h x) ∙ ap (λ (l : List Posting). make x ∷ l) (filter_all pairs h)

  filter_none : (pairs : List Pair) → ((x : Pair) → p (make x) ≡ false) → filter p (map make pairs) ≡ []
  filter_none [] h = refl
  filter_none (x ∷ pairs) h = ap (λ (b : Bool). cond b (make x ∷ filter p (map make pairs)) (filter p (map make pairs))) (h x) ∙ filter_none pairs h

pairs_back : (term : Bytes) (pairs : List Pair) → map (λ (q : Posting). q.pair) (map (posting_of term Stored) pairs) ≡ pairs
pairs_back term [] = refl
pairs_back term (x ∷ pairs) = ap (λ (l : List Pair). x ∷ l) (pairs_back term pairs)

spill_back : (pairs : List Pair) → map (λ (q : Posting). q.pair) (spill_postings pairs) ≡ pairs
spill_back [] = refl
spill_back (x ∷ pairs) = ap (λ (l : List Pair). x ∷ l) (spill_back pairs)

-- ---- how many postings stand under a term

under : Bytes → List TermPairs → ℕ
under term terms = length (filter (is_under term) (flat_map term_postings terms))

itself : (t : Bytes) → term_eq t t ≡ true
itself t = by_test (term_eq t t) refl
  where
    by_test : (b : Bool) → term_eq t t ≡ b → b ≡ true
    by_test true is = refl
    by_test false is = same_back t is
      where
        same_back : (u : Bytes) → term_eq u u ≡ false → false ≡ true
        same_back [] h = sym h
        same_back (x ∷ u) h = same_back u (search (rules, h))

under_join : (term : Bytes) (one : TermPairs) (terms : List TermPairs) → under term (one ∷ terms) ≡ length (filter (is_under term) (term_postings one)) + under term terms
unfolding under
under_join term one terms =
    ap length (filter-append (is_under term) (term_postings one) (flat_map term_postings terms)) ∙ length-append (filter (is_under term) (term_postings one)) (filter (is_under term) (flat_map term_postings terms))

own : (one : TermPairs) → length (filter (is_under one.0) (term_postings one)) ≡ length one.1
own one = ap length (filter_all (is_under one.0) (posting_of one.0 Stored) one.1 (λ x. itself one.0)) ∙ length-map one.1 (posting_of one.0 Stored)

others : (term : Bytes) (one : TermPairs) → term_eq term one.0 ≡ false → length (filter (is_under term) (term_postings one)) ≡ 0
others term one apart = ap length (filter_none (is_under term) (posting_of one.0 Stored) one.1 (λ x. apart))

-- terms that are not the same
abbrev AreApart : TermPairs → TermPairs → Type 0
AreApart a b = (term_eq a.0 b.0 ≡ false) × (term_eq b.0 a.0 ≡ false)

abbrev Apart : List TermPairs → Type 0
Apart [] = Unit {0}
Apart (one ∷ terms) = AllByRecursion (AreApart one) terms × Apart terms

none_under : (one : TermPairs) (terms : List TermPairs) → AllByRecursion (AreApart one) terms → under one.0 terms ≡ 0
unfolding under
none_under one [] apart = refl
none_under one (two ∷ terms) apart = under_join one.0 two terms ∙ omega (arith, others one.0 two apart.0.0, none_under one terms apart.1)

counts_more : (one : TermPairs) (all terms : List TermPairs) → AllByRecursion (AreApart one) terms → AllByRecursion (λ (t : TermPairs). under t.0 all ≡ length t.1) terms → AllByRecursion (λ (t : TermPairs). under t.0 (one ∷ all) ≡ length t.1) terms
counts_more one all [] apart held = tt
counts_more one all (two ∷ terms) apart held = (under_join two.0 one all ∙ omega (arith, others two.0 one apart.0.1, held.0), counts_more one all terms apart.1 held.1)

counts : (terms : List TermPairs) → Apart terms → AllByRecursion (λ (t : TermPairs). under t.0 terms ≡ length t.1) terms
counts [] apart = tt
counts (one ∷ terms) apart = (under_join one.0 one terms ∙ omega (arith, own one, none_under one terms apart.0), counts_more one terms terms apart.0 (counts terms apart.1))

-- the spill has no term
count_is : (terms : List TermPairs) (spill : List Pair) (term : Bytes) → count_under (postings_of terms spill) term ≡ under term terms
unfolding under
count_is terms spill term =
    ap length (filter-append (is_under term) (flat_map term_postings terms) (spill_postings spill)
    ∙ ap (λ (l : List Posting). filter (is_under term) (flat_map term_postings terms) ++ l) (filter_none (is_under term) (posting_of [] Spill) spill (λ x. refl)) ∙ append-nil (filter (is_under term) (flat_map term_postings terms)))

-- ---- terms that rise are apart

below_by : (a b : Bytes) → is_below a b ≡ true → term_cmp a b ≡ Less
below_by a b is = by (term_cmp a b) is
  where
    by : (r : Ordering) → is_lt r ≡ true → r ≡ Less
    by Less is = refl
    by Equal is = absurd cc
    by Greater is = absurd cc

apart_of : (a b : Bytes) → term_cmp a b ≡ Less → (term_eq a b ≡ false) × (term_eq b a ≡ false)
apart_of a b less = (by (term_eq a b) refl, back (term_eq b a) refl)
  where
    no : (x y : Bytes) → x ≡ y → term_cmp x y ≡ Less → ⊥
    no x y same less =
        let equal : term_cmp x y ≡ Equal = ap (λ (t : Bytes). term_cmp x t) (sym same) ∙ tied_itself nat_list_cmp_total x in
        let bad : Equal ≡ Less = sym equal ∙ less in cc

    by : (t : Bool) → term_eq a b ≡ t → t ≡ false
    by true is = absurd (no a b (same_text a b (sym is)) less)
    by false is = refl

    back : (t : Bool) → term_eq b a ≡ t → t ≡ false
    back true is = absurd (no a b (sym (same_text b a (sym is))) less)
    back false is = refl

rising_head : (a b : Bytes) (terms : List Bytes) → AreRisingTerms (a ∷ b ∷ terms) → term_cmp a b ≡ Less
rising_head a b terms rising = below_by a b (rising 0 (omega arith))

below_all : (one : TermPairs) (last : Bytes) (terms : List TermPairs) → term_cmp one.0 last ≡ Less → AreRisingTerms (last ∷ terms_in terms) → AllByRecursion (AreApart one) terms
below_all one last [] less rising = tt
below_all one last (two ∷ terms) less rising =
    let next : term_cmp one.0 two.0 ≡ Less = nat_list_cmp_total.trans one.0 last two.0 less (rising_head last two.0 (terms_in terms) rising) in
    (apart_of one.0 two.0 next, below_all one two.0 terms next (rising_tail last (terms_in (two ∷ terms)) rising))

apart : (terms : List TermPairs) → AreRisingTerms (terms_in terms) → Apart terms
apart [] rising = tt
apart (one ∷ []) rising = (tt, tt)
apart (one ∷ two ∷ terms) rising =
    let less = rising_head one.0 two.0 (terms_in terms) rising in
    let rest = rising_tail one.0 (terms_in (two ∷ terms)) rising in
    ((apart_of one.0 two.0 less, below_all one two.0 terms less rest), apart (two ∷ terms) rest)

-- some of the terms rise as all of them
above_all : (last : Bytes) (terms : List TermPairs) → AreRisingTerms (last ∷ terms_in terms) → AllByRecursion (λ (t : TermPairs). term_cmp last t.0 ≡ Less) terms
above_all last [] rising = tt
above_all last (two ∷ terms) rising =
    let less = rising_head last two.0 (terms_in terms) rising in
    (less, further last two.0 terms less (above_all two.0 terms (rising_tail last (terms_in (two ∷ terms)) rising)))
  where
    further : (a b : Bytes) (more : List TermPairs) → term_cmp a b ≡ Less → AllByRecursion (λ (t : TermPairs). term_cmp b t.0 ≡ Less) more → AllByRecursion (λ (t : TermPairs). term_cmp a t.0 ≡ Less) more
    further a b [] less all = tt
    further a b (one ∷ more) less all = (nat_list_cmp_total.trans a b one.0 less all.0, further a b more less all.1)

filtered : (p : TermPairs → Bool) (P : TermPairs → Type 0) (terms : List TermPairs) → AllByRecursion P terms → AllByRecursion P (filter p terms)
filtered p P [] all = tt
filtered p P (one ∷ terms) all = by (p one) (filtered p P terms all.1)
  where
    by : (b : Bool) → AllByRecursion P (filter p terms) → AllByRecursion P (cond b (one ∷ filter p terms) (filter p terms))
    by true rest = (all.0, rest)
    by false rest = rest

rising_cons : (last : Bytes) (terms : List TermPairs) → AllByRecursion (λ (t : TermPairs). term_cmp last t.0 ≡ Less) terms → AreRisingTerms (terms_in terms) → AreRisingTerms (last ∷ terms_in terms)
rising_cons last [] all rising index lt = absurd (omega (arith, lt))
rising_cons last (two ∷ terms) all rising zero lt = ap is_lt all.0
rising_cons last (two ∷ terms) all rising (suc index) lt =
    let e : suc (index + 1) ≡ suc index + 1 = omega arith in
    subst (λ (n : ℕ). is_below (get_or (terms_in (two ∷ terms)) index []) (get_or (last ∷ terms_in (two ∷ terms)) n []) ≡ true) e (rising index (omega (arith, lt)))

pub rare_rising : (terms : List TermPairs) → AreRisingTerms (terms_in terms) → AreRisingTerms (terms_in (rare_terms terms))
rare_rising [] rising = rising
rare_rising (one ∷ terms) rising = by (is_stored (length one.1)) (rare_rising terms (rising_tail one.0 (terms_in terms) rising))
  where
    by : (b : Bool) → AreRisingTerms (terms_in (rare_terms terms)) → AreRisingTerms (terms_in (cond b (one ∷ rare_terms terms) (rare_terms terms)))
    by true rest = rising_cons one.0 (rare_terms terms) (filtered (λ (t : TermPairs). is_stored (length t.1)) (λ (t : TermPairs). term_cmp one.0 t.0 ≡ Less) terms (above_all one.0 terms rising)) rest
    by false rest = rest

-- ---- what is kept

module _ (all : List Posting) where
  kept_in : (terms : List TermPairs) → AllByRecursion (λ (t : TermPairs). count_under all t.0 ≡ length t.1) terms → filter (is_kept all) (flat_map term_postings terms) ≡ flat_map term_postings (rare_terms terms)
  kept_in [] held = refl
  kept_in (one ∷ terms) held =
      filter-append (is_kept all) (term_postings one) (flat_map term_postings terms)
      ∙ ap (λ (l : List Posting). filter (is_kept all) (term_postings one) ++ l) (kept_in terms held.1) ∙ by_test (is_stored (length one.1)) (ap is_stored held.0)
    where
      by_test : (b : Bool) → is_stored (count_under all one.0) ≡ b → filter (is_kept all) (term_postings one) ++ flat_map term_postings (rare_terms terms) ≡ flat_map term_postings (cond b (one ∷ rare_terms terms) (rare_terms terms))
      by_test true is = ap (λ (l : List Posting). l ++ flat_map term_postings (rare_terms terms)) (filter_all (is_kept all) (posting_of one.0 Stored) one.1 (λ x. is))
      by_test false is = ap (λ (l : List Posting). l ++ flat_map term_postings (rare_terms terms)) (filter_none (is_kept all) (posting_of one.0 Stored) one.1 (λ x. is))

  abbrev goes : Posting → Bool
  goes q = not (is_kept all q)

  abbrev commons : List TermPairs → List TermPairs
  commons terms = filter (λ (t : TermPairs). not (is_stored (length t.1))) terms

  gone_in : (terms : List TermPairs) → AllByRecursion (λ (t : TermPairs). count_under all t.0 ≡ length t.1) terms → map (λ (q : Posting). q.pair) (filter goes (flat_map term_postings terms)) ≡ common_pairs terms
  gone_in [] held = refl
  gone_in (one ∷ terms) held =
      ap (λ (l : List Posting). map (λ (q : Posting). q.pair) l) (filter-append goes (term_postings one) (flat_map term_postings terms))
      ∙ map-append (λ (q : Posting). q.pair) (filter goes (term_postings one)) (filter goes (flat_map term_postings terms))
      ∙ ap (λ (l : List Pair). map (λ (q : Posting). q.pair) (filter goes (term_postings one)) ++ l) (gone_in terms held.1) ∙ by_test (is_stored (length one.1)) (ap is_stored held.0)
    where
      by_test : (b : Bool) → is_stored (count_under all one.0) ≡ b → map (λ (q : Posting). q.pair) (filter goes (term_postings one)) ++ common_pairs terms ≡ flat_map (λ (t : TermPairs). t.1) (cond (not b) (one ∷ commons terms) (commons terms))
      by_test true is = ap (λ (l : List Posting). map (λ (q : Posting). q.pair) l ++ common_pairs terms) (filter_none goes (posting_of one.0 Stored) one.1 (λ x. ap not is))
      by_test false is =
          ap (λ (l : List Posting). map (λ (q : Posting). q.pair) l ++ common_pairs terms) (filter_all goes (posting_of one.0 Stored) one.1 (λ x. ap not is))
          ∙ ap (λ (l : List Pair). l ++ common_pairs terms) (pairs_back one.0 one.1)

-- in the mode SPARSE those of the rare terms, and the others in the spill
sparse_back : (terms : List TermPairs) (spill : List Pair) → AreRisingTerms (terms_in terms) → postings_of (rare_terms terms) (union_of (common_pairs terms ++ spill)) ≡ stored Sparse (postings_of terms spill)
sparse_back terms spill rising =
    ap (λ (l : List Posting). l ++ spill_postings (union_of (common_pairs terms ++ spill))) (sym keeps)
    ∙ ap (λ (l : List Pair). filter (is_kept (postings_of terms spill)) (postings_of terms spill) ++ spill_postings (union_of l)) (sym gone)
  where
    each : (some : List TermPairs) → AllByRecursion (λ (t : TermPairs). under t.0 terms ≡ length t.1) some → AllByRecursion (λ (t : TermPairs). count_under (postings_of terms spill) t.0 ≡ length t.1) some
    each [] all = tt
    each (one ∷ some) all = (count_is terms spill one.0 ∙ all.0, each some all.1)

    counted : AllByRecursion (λ (t : TermPairs). count_under (postings_of terms spill) t.0 ≡ length t.1) terms
    counted = each terms (counts terms (apart terms rising))

    keeps : filter (is_kept (postings_of terms spill)) (postings_of terms spill) ≡ flat_map term_postings (rare_terms terms)
    keeps =
        filter-append (is_kept (postings_of terms spill)) (flat_map term_postings terms) (spill_postings spill)
        ∙ ap (λ (l : List Posting). filter (is_kept (postings_of terms spill)) (flat_map term_postings terms) ++ l) (filter_none (is_kept (postings_of terms spill)) (posting_of [] Spill) spill (λ x. refl))
        ∙ append-nil (filter (is_kept (postings_of terms spill)) (flat_map term_postings terms)) ∙ kept_in (postings_of terms spill) terms counted

    gone : map (λ (q : Posting). q.pair) (filter (λ q. not (is_kept (postings_of terms spill) q)) (postings_of terms spill)) ≡ common_pairs terms ++ spill
    gone =
        ap (λ (l : List Posting). map (λ (q : Posting). q.pair) l)
        (filter-append (λ q. not (is_kept (postings_of terms spill) q)) (flat_map term_postings terms) (spill_postings spill)
        ∙ ap (λ (l : List Posting). filter (λ q. not (is_kept (postings_of terms spill) q)) (flat_map term_postings terms) ++ l)
        (filter_all (λ q. not (is_kept (postings_of terms spill) q)) (posting_of [] Spill) spill (λ x. refl)))
        ∙ map-append (λ (q : Posting). q.pair) (filter (λ q. not (is_kept (postings_of terms spill) q)) (flat_map term_postings terms)) (spill_postings spill)
        ∙ ap (λ (l : List Pair). l ++ map (λ (q : Posting). q.pair) (spill_postings spill)) (gone_in (postings_of terms spill) terms counted) ∙ ap (λ (l : List Pair). common_pairs terms ++ l) (spill_back spill)

-- what a mode keeps of terms that rise and of the spill
pub stored_back : (mode : Mode) (terms : List TermPairs) (spill : List Pair) → AreRisingTerms (terms_in terms) → postings_of (kept_terms mode terms) (kept_spill mode terms spill) ≡ stored mode (postings_of terms spill)
stored_back Prefix terms spill rising = refl
stored_back Contains terms spill rising = refl
stored_back Sparse terms spill rising = sparse_back terms spill rising
