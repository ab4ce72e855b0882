-- What a search gives, and what that is in the map whose index it searches.
use Rattle.std.proofs.Common.{◌≡◌, ℕ, Bool, true, false, ◌&&◌, ◌||◌, cond, List, [], ◌∷◌, map, Option, None, Some, refl, sym, ap, ◌∙◌}
use Rattle.std.specs.Prelude.{T}
use Rattle.std.proofs.lemmas.Bool.{and_from, and_parts}
use Rattle.std.proofs.lemmas.Map.Lookups.{btree_set_from_contains}
use Rattle.std.specs.declared.cmp.Ordering.{Ordering}
use Rattle.std.specs.declared.cmp.Ordering.TheVariants.{Less, Equal, Greater}
use Rattle.std.specs.Cmp.Lexicographic.{bytes_decides}
use Rattle.std.specs.FinMap.{is_sorted}
use Rattle.std.specs.FinMap.Entries.{below_all}
use Rattle.std.specs.Option.{option_and_then, option_map_or}
use Rattle.std.proofs.lemmas.Cmp.{tied_itself}
use Rattle.std.specs.BTreeSet.{BTreeSet}
use Rattle.std.specs.BTreeSet as tree
use Rattle.std.specs.FinMap as map_
use Rattle.std.specs.FinSet as set
use Rattle.std.specs.List.{AllByRecursion, filter, list_any}
use Rattle.std.specs.List.Sorted.{IsStrictlySortedBy}
use Rattle.std.specs.Ordering.{eq_by_cmp, is_eq, is_lt}
use Rattle.sasi_types.specs.declared.decorated_key.DecoratedKey.{DecoratedKey}
use Rattle.sasi_types.specs.DecoratedKey.{decorated_cmp, decorated_total}
use Rattle.sasi_terms.specs.declared.op.Op.{Op}
use Rattle.sasi_terms.specs.Holds.{holds}
use Rattle.sasi_cells.proofs.Laws.Decorated.{decorated_same, equal_keys, none_below}
use Rattle.sasi_model.specs.Abbreviations.{Partitions}
use Rattle.sasi_model.specs.Cells.{Partition}
use Rattle.sasi_model.specs.IndexTerms.{any_holds, terms_at, terms_of_cell}
use Rattle.sasi_model.specs.Tokens.{same}
use Rattle.sasi_memindex.specs.declared.posting.Posting.{Posting}
use Rattle.sasi_memindex.specs.Hits.{AreHits, keys_in, keys_of_hits}
use Rattle.sasi_memindex.specs.IndexOf.{HasTermsAt, IsIndexOf}
use Rattle.sasi_memindex.specs.Kept.{set_of}
use Rattle.sasi_memindex.specs.MemIndexView.{MemIndexView}
use Rattle.sasi_memindex.specs.Postings.{Postings, posting, posting_cmp, posting_total}
use Rattle.sasi_memindex.proofs.PostingLaws.{contains-set_of, equal_postings, itself as own_term}

-- ---- tests of a list by its members

both : (b c : Bool) → (b ≡ true → c ≡ true) → (c ≡ true → b ≡ true) → b ≡ c
both true c there back = sym (there refl)
both false true there back = back refl
both false false there back = refl

first_true : (a b : Bool) → T (a && b) → T a
first_true true b h = tt
first_true false b h = absurd h

second_true : (a b : Bool) → T (a && b) → T b
second_true true b h = h
second_true false b h = absurd h

is_less : (o : Ordering) → T (is_lt o) → o ≡ Less
is_less Less h = refl
is_less Equal h = absurd h
is_less Greater h = absurd h

left_true : (b c : Bool) → b ≡ true → (b || c) ≡ true
left_true true c h = refl
left_true false c h = cc

right_true : (b c : Bool) → c ≡ true → (b || c) ≡ true
right_true true c h = refl
right_true false c h = h

module _ {A : Type 0} (eq : A → A → Bool) (own : (x : A) → eq x x ≡ true) (equal : (x y : A) → eq x y ≡ true → x ≡ y) where
  -- a test that a list passes is passed by a member, for which there is what is wanted
  by_member : (f : A → Bool) (G : Type 0) (xs : List A) → ((x : A) → list_any (eq x) xs ≡ true → f x ≡ true → G) → list_any f xs ≡ true → G
  by_member f G [] gives h = absurd cc
  by_member f G (x ∷ xs) gives h = by (f x) refl h (by_member f G xs (λ y has. gives y (right_true (eq y x) (list_any (eq y) xs) has)))
    where
      by : (b : Bool) → f x ≡ b → (b || list_any f xs) ≡ true → (list_any f xs ≡ true → G) → G
      by true e either rest = gives x (left_true (eq x x) (list_any (eq x) xs) (own x)) e
      by false e either rest = rest either

  -- a member that passes
  passes : (f : A → Bool) (x : A) (xs : List A) → list_any (eq x) xs ≡ true → f x ≡ true → list_any f xs ≡ true
  passes f x [] has is = absurd cc
  passes f x (y ∷ ys) has is = by (eq x y) refl has (λ rest. passes f x ys rest is)
    where
      by : (b : Bool) → eq x y ≡ b → (b || list_any (eq x) ys) ≡ true → (list_any (eq x) ys ≡ true → list_any f ys ≡ true) → (f y || list_any f ys) ≡ true
      by true e either rest = left_true (f y) (list_any f ys) (ap f (sym (equal x y e)) ∙ is)
      by false e either rest = right_true (f y) (list_any f ys) (rest either)

own_posting : (p : Posting) → eq_by_cmp posting_cmp p p ≡ true
own_posting p = ap is_eq (tied_itself posting_total p)

equal_terms : (a b : List ℕ) → same a b ≡ true → a ≡ b
equal_terms a b e = (bytes_decides a b).0 e

same_tests : (f : Posting → Bool) (ps qs : List Posting) → ((p : Posting) → list_any (eq_by_cmp posting_cmp p) ps ≡ list_any (eq_by_cmp posting_cmp p) qs) → list_any f ps ≡ list_any f qs
same_tests f ps qs alike = both (list_any f ps) (list_any f qs)
    (λ h. by_member (eq_by_cmp posting_cmp) own_posting equal_postings f (list_any f qs ≡ true) ps (λ p has is. passes (eq_by_cmp posting_cmp) own_posting equal_postings f p qs (sym (alike p) ∙ has) is) h)
    (λ h. by_member (eq_by_cmp posting_cmp) own_posting equal_postings f (list_any f ps ≡ true) qs (λ p has is. passes (eq_by_cmp posting_cmp) own_posting equal_postings f p ps (alike p ∙ has) is) h)

-- ---- hits

-- a key is among those of the hits where a posting of it is as asked
abbrev asked_at : Op → List ℕ → DecoratedKey → Posting → Bool
asked_at op body key p = holds op p.term body && eq_by_cmp decorated_cmp key p.key

pub any_hit : (op : Op) (body : List ℕ) (key : DecoratedKey) (ps : List Posting) → list_any (eq_by_cmp decorated_cmp key) (keys_of_hits op body ps) ≡ list_any (asked_at op body key) ps
any_hit op body key [] = refl
any_hit op body key (p ∷ ps) = by (holds op p.term body) refl (any_hit op body key ps)
  where
    by : (b : Bool) → holds op p.term body ≡ b → list_any (eq_by_cmp decorated_cmp key) (keys_of_hits op body ps) ≡ list_any (asked_at op body key) ps
        → list_any (eq_by_cmp decorated_cmp key) (map (λ (q : Posting). q.key) (cond b (p ∷ filter (λ (q : Posting). holds op q.term body) ps) (filter (λ (q : Posting). holds op q.term body) ps)))
        ≡ ((b && eq_by_cmp decorated_cmp key p.key) || list_any (asked_at op body key) ps)
    by true e rest = ap (λ b. eq_by_cmp decorated_cmp key p.key || b) rest
    by false e rest = rest

-- those of a tree are those of its set
pub hits_of_set : (op : Op) (body : List ℕ) (key : DecoratedKey) (s : BTreeSet Posting) → list_any (eq_by_cmp decorated_cmp key) (keys_of_hits op body s.keys) ≡ list_any (eq_by_cmp decorated_cmp key) (keys_of_hits op body (set.items (set_of s)))
hits_of_set op body key s =
    any_hit op body key s.keys
    ∙ same_tests (asked_at op body key) s.keys (set.items (set_of s)) (λ p. sym (contains-set_of s p) ∙ set.contains-items (set_of s) p)
    ∙ sym (any_hit op body key (set.items (set_of s)))

pub are_hits : (op : Op) (body : List ℕ) (s : BTreeSet Posting) (keys found : List DecoratedKey) → keys ≡ keys_of_hits op body s.keys → IsStrictlySortedBy decorated_cmp found
    → ((q : DecoratedKey) → list_any (eq_by_cmp decorated_cmp q) found ≡ list_any (eq_by_cmp decorated_cmp q) keys) → AreHits op body (set_of s) found
are_hits op body s keys found is rise alike = record {
  rise = rise;
  are = λ q. alike q ∙ ap (λ (ks : List DecoratedKey). list_any (eq_by_cmp decorated_cmp q) ks) is ∙ hits_of_set op body q s;
}

-- ---- in a map

-- a posting is as asked where a term at the key is
module _ (op : Op) (body : List ℕ) (index : MemIndexView) (key : DecoratedKey) (terms : List (List ℕ)) (is : HasTermsAt index key terms) where
  abbrev asks : List ℕ → Bool
  asks term = holds op term body

  there : (p : Posting) → list_any (eq_by_cmp posting_cmp p) (set.items index.postings) ≡ true → asked_at op body key p ≡ true → list_any asks terms ≡ true
  there p has asked =
      let parts = and_parts (holds op p.term body) (eq_by_cmp decorated_cmp key p.key) asked in
      let at : p.key ≡ key = sym (equal_keys key p.key parts.1) in
      let in_set : has_posting p ≡ true = set.contains-items index.postings p ∙ has in
      passes same own_term equal_terms asks p.term terms (sym (is p.term) ∙ ap (λ (k : DecoratedKey). set.contains index.postings (posting p.term k)) (sym at) ∙ in_set) parts.0
    where
      has_posting : Posting → Bool
      has_posting q = set.contains index.postings q

  back : (term : List ℕ) → list_any (same term) terms ≡ true → asks term ≡ true → list_any (asked_at op body key) (set.items index.postings) ≡ true
  back term has asked =
      passes (eq_by_cmp posting_cmp) own_posting equal_postings (asked_at op body key) (posting term key) (set.items index.postings)
      (sym (set.contains-items index.postings (posting term key)) ∙ is term ∙ has)
      (and_from (holds op term body) (eq_by_cmp decorated_cmp key key) asked (ap is_eq (tied_itself decorated_total key)))

  any_asked : list_any (asked_at op body key) (set.items index.postings) ≡ list_any asks terms
  any_asked = both (list_any (asked_at op body key) (set.items index.postings)) (list_any asks terms)
      (λ h. by_member (eq_by_cmp posting_cmp) own_posting equal_postings (asked_at op body key) (list_any asks terms ≡ true) (set.items index.postings) there h)
      (λ h. by_member same own_term equal_terms asks (list_any (asked_at op body key) (set.items index.postings) ≡ true) terms back h)

module _ (g : Partition → Bool) where
  abbrev kept : List (DecoratedKey × Partition) → List DecoratedKey
  kept es = map (λ (e : DecoratedKey × Partition). e.0) (filter (λ (e : DecoratedKey × Partition). g e.1) es)

  all_above : (k : DecoratedKey) (es : List (DecoratedKey × Partition)) → T (below_all decorated_cmp k es) → AllByRecursion (λ q. decorated_cmp k q ≡ Less) (kept es)
  all_above k [] below = tt
  all_above k (e ∷ es) below = by (g e.1) (all_above k es (second_true _ _ below))
    where
      by : (b : Bool) → AllByRecursion (λ q. decorated_cmp k q ≡ Less) (kept es)
          → AllByRecursion (λ q. decorated_cmp k q ≡ Less) (map (λ (e : DecoratedKey × Partition). e.0) (cond b (e ∷ filter (λ (e : DecoratedKey × Partition). g e.1) es) (filter (λ (e : DecoratedKey × Partition). g e.1) es)))
      by true rest = (is_less _ (first_true _ _ below), rest)
      by false rest = rest

  kept_rise : (es : List (DecoratedKey × Partition)) → T (is_sorted decorated_cmp es) → IsStrictlySortedBy decorated_cmp (kept es)
  unfolding IsStrictlySortedBy
  kept_rise [] sorted = tt
  kept_rise (e ∷ es) sorted = by (g e.1) (kept_rise es (second_true _ _ sorted))
    where
      by : (b : Bool) → IsStrictlySortedBy decorated_cmp (kept es)
          → IsStrictlySortedBy decorated_cmp (map (λ (e : DecoratedKey × Partition). e.0) (cond b (e ∷ filter (λ (e : DecoratedKey × Partition). g e.1) es) (filter (λ (e : DecoratedKey × Partition). g e.1) es)))
      by true rest = (all_above e.0 es (first_true _ _ sorted), rest)
      by false rest = rest

  -- a key is kept where its partition passes
  pub kept_at : (q : DecoratedKey) (es : List (DecoratedKey × Partition)) → T (is_sorted decorated_cmp es) → list_any (eq_by_cmp decorated_cmp q) (kept es) ≡ option_map_or g (map_.find decorated_cmp q es) false
  kept_at q [] sorted = refl
  kept_at q (e ∷ es) sorted = by (eq_by_cmp decorated_cmp q e.0) refl (g e.1) refl (kept_at q es (second_true _ _ sorted))
    where
      keep : {b : Bool} → g e.1 ≡ b → list_any (eq_by_cmp decorated_cmp q) (map (λ (e : DecoratedKey × Partition). e.0) (cond (g e.1) (e ∷ filter (λ (e : DecoratedKey × Partition). g e.1) es) (filter (λ (e : DecoratedKey × Partition). g e.1) es)))
          ≡ list_any (eq_by_cmp decorated_cmp q) (map (λ (e : DecoratedKey × Partition). e.0) (cond b (e ∷ filter (λ (e : DecoratedKey × Partition). g e.1) es) (filter (λ (e : DecoratedKey × Partition). g e.1) es)))
      keep passed = ap (λ c. list_any (eq_by_cmp decorated_cmp q) (map (λ (e : DecoratedKey × Partition). e.0) (cond c (e ∷ filter (λ (e : DecoratedKey × Partition). g e.1) es) (filter (λ (e : DecoratedKey × Partition). g e.1) es)))) passed

      none : eq_by_cmp decorated_cmp q e.0 ≡ true → map_.find decorated_cmp q es ≡ None
      none at = ap (λ (k : DecoratedKey). map_.find decorated_cmp k es) (equal_keys q e.0 at) ∙ none_below e.0 es (first_true _ _ sorted)

      by : (t : Bool) → eq_by_cmp decorated_cmp q e.0 ≡ t → (b : Bool) → g e.1 ≡ b → list_any (eq_by_cmp decorated_cmp q) (kept es) ≡ option_map_or g (map_.find decorated_cmp q es) false
          → list_any (eq_by_cmp decorated_cmp q) (map (λ (e : DecoratedKey × Partition). e.0) (cond (g e.1) (e ∷ filter (λ (e : DecoratedKey × Partition). g e.1) es) (filter (λ (e : DecoratedKey × Partition). g e.1) es)))
          ≡ option_map_or g (cond (eq_by_cmp decorated_cmp q e.0) (Some e.1) (map_.find decorated_cmp q es)) false
      by true at true passed rest =
          keep passed ∙ ap (λ t. t || list_any (eq_by_cmp decorated_cmp q) (kept es)) at ∙ sym (ap (λ t. option_map_or g (cond t (Some e.1) (map_.find decorated_cmp q es)) false) at ∙ passed)
      by true at false passed rest =
          keep passed ∙ rest ∙ ap (λ (o : Option Partition). option_map_or g o false) (none at)
          ∙ sym (ap (λ t. option_map_or g (cond t (Some e.1) (map_.find decorated_cmp q es)) false) at ∙ passed)
      by false at true passed rest =
          keep passed ∙ ap (λ t. t || list_any (eq_by_cmp decorated_cmp q) (kept es)) at ∙ rest ∙ sym (ap (λ t. option_map_or g (cond t (Some e.1) (map_.find decorated_cmp q es)) false) at)
      by false at false passed rest = keep passed ∙ rest ∙ sym (ap (λ t. option_map_or g (cond t (Some e.1) (map_.find decorated_cmp q es)) false) at)

-- ---- the answer

terms_found : (op : Op) (body : List ℕ) (index : MemIndexView) (m : Partitions) (key : DecoratedKey) → (found : Option Partition)
    → option_map_or (λ (p : Partition). any_holds op body (terms_of_cell index.rule (map_.get p.cells index.column))) found false ≡ any_holds op body (terms_of_cell index.rule (option_and_then (λ (p : Partition). map_.get p.cells index.column) found))
terms_found op body index m key None = refl
terms_found op body index m key (Some p) = refl

pub found_in : (op : Op) (body : List ℕ) (index : MemIndexView) (m : Partitions) → IsIndexOf m index → (found : List DecoratedKey) → AreHits op body index.postings found → found ≡ keys_in op body index m
found_in op body index m is found hits =
    let g = λ (p : Partition). any_holds op body (terms_of_cell index.rule (map_.get p.cells index.column)) in
    btree_set_from_contains decorated_total (record { keys = found }) (record { keys = keys_in op body index m }) hits.rise (kept_rise g (map_.entries m) (map_.entries_sorted m))
    (λ q.
    hits.are q ∙ any_hit op body q (set.items index.postings) ∙ any_asked op body index q (terms_at index.rule index.column m q) (is q)
    ∙ sym (terms_found op body index m q (map_.get m q)) ∙ ap (λ (o : Option Partition). option_map_or g o false) (map_.get-entries m q) ∙ sym (kept_at g q (map_.entries m) (map_.entries_sorted m)))
    decorated_same
