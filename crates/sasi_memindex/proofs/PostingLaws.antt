-- Laws of sets of postings.
use Rattle.std.proofs.Common.{◌≡◌, ℕ, zero, suc, ◌+◌, ◌<◌, ◌≤◌, Bool, true, false, not, ◌&&◌, ◌||◌, cond, List, [], ◌∷◌, length, drop, get_or, drop-cons, add-one, refl, sym, ap, subst, ◌∙◌, arith}
use Rattle.std.specs.declared.cmp.Ordering.{Ordering}
use Rattle.std.specs.declared.cmp.Ordering.TheVariants.{Less, Equal, Greater}
use Rattle.std.specs.BTreeSet.{BTreeSet}
use Rattle.std.specs.BTreeSet as tree
use Rattle.std.specs.Cmp.{eq_by_cmp_equiv, unsigned_ties}
use Rattle.std.specs.Cmp.Lexicographic.{bytes_decides, lists_ties}
use Rattle.std.specs.FinSet as set
use Rattle.std.specs.List.{list_any}
use Rattle.std.proofs.lemmas.List.{drop_all}
use Rattle.std.specs.Ordering.{eq_by_cmp, is_eq, nat_cmp, ordering_then}
use Rattle.sasi_types.specs.declared.column.ColumnType.{ColumnType}
use Rattle.sasi_types.specs.declared.decorated_key.DecoratedKey.{DecoratedKey}
use Rattle.sasi_types.specs.DecoratedKey.{decorated_cmp}
use Rattle.sasi_types.specs.Term.{term_cmp}
use Rattle.sasi_cells.proofs.Laws.Decorated.{decorated_same}
use Rattle.sasi_model.specs.Tokens.{same}
use Rattle.sasi_memindex.specs.declared.posting.Posting.{Posting}
use Rattle.sasi_memindex.specs.Kept.{AreOf, AreTermsOf, IsPostingOf, IsTermOf, is_among, set_of}
use Rattle.sasi_memindex.specs.Postings.{Postings, posting, posting_cmp, posting_total}

-- ---- postings

both_equal : (r s : Ordering) → ordering_then r s ≡ Equal → (r ≡ Equal) × (s ≡ Equal)
both_equal Less s e = cc
both_equal Equal s e = (refl, e)
both_equal Greater s e = cc

-- only equal ones tie
pub posting_same : set.IsAntisymmetric posting_cmp
posting_same a b tie =
    let parts = both_equal (term_cmp a.term b.term) (decorated_cmp a.key b.key) tie in
    let term : a.term ≡ b.term = set.slice_cmp-IsAntisymmetric set.nat_cmp-IsAntisymmetric a.term b.term parts.0 in
    let key : a.key ≡ b.key = decorated_same a.key b.key parts.1 in
    λ i. record { term = term i; key = key i }

tied : (r : Ordering) → is_eq r ≡ true → r ≡ Equal
tied Less e = cc
tied Equal e = refl
tied Greater e = cc

pub equal_postings : (p q : Posting) → eq_by_cmp posting_cmp p q ≡ true → p ≡ q
equal_postings p q e = posting_same p q (tied (posting_cmp p q) e)

both_tie : (r s : Ordering) → is_eq (ordering_then r s) ≡ (is_eq r && is_eq s)
both_tie Less s = refl
both_tie Equal s = refl
both_tie Greater s = refl

-- two postings are equal where their terms and their keys are
pub eq_posting : (p q : Posting) → eq_by_cmp posting_cmp p q ≡ (same p.term q.term && eq_by_cmp decorated_cmp p.key q.key)
eq_posting p q = both_tie (term_cmp p.term q.term) (decorated_cmp p.key q.key) ∙ ap (λ b. b && eq_by_cmp decorated_cmp p.key q.key) (sym (lists_ties nat_cmp unsigned_ties p.term q.term))

-- ---- the set of a tree

pub contains-set_of : (s : BTreeSet Posting) (q : Posting) → set.contains (set_of s) q ≡ tree.contains posting_cmp s q
contains-set_of s q = set.contains-from_list posting_total s.keys q

pub empty_set : (s : BTreeSet Posting) → s.keys ≡ [] → set_of s ≡ set.empty
empty_set s e = ap (λ (ks : List Posting). set.from_list {R = posting_cmp} ks) e

pub empty_is_of : (type : ColumnType) (s : BTreeSet Posting) → s.keys ≡ [] → AreOf type (set_of s)
empty_is_of type s e p h =
    let no : false ≡ true = sym (ap (λ (t : Postings). set.contains t p) (empty_set s e) ∙ set.contains-empty posting_cmp p) ∙ h in
    absurd cc

-- two sets with the same postings are equal
pub same_postings : (s t : Postings) → ((q : Posting) → set.contains s q ≡ set.contains t q) → s ≡ t
same_postings s t alike = set.same_set posting_total posting_same s t alike

turned : (q k : Posting) → eq_by_cmp posting_cmp k q ≡ eq_by_cmp posting_cmp q k
turned q k = (eq_by_cmp_equiv posting_total).symm k q

inserted : (b x : Bool) → cond b true x ≡ (b || x)
inserted true x = refl
inserted false x = refl

removed : (b x : Bool) → cond b false x ≡ (not b && x)
removed true x = refl
removed false x = refl

pub insert_is : (s n : BTreeSet Posting) (k : Posting) → ((q : Posting) → tree.contains posting_cmp n q ≡ cond (eq_by_cmp posting_cmp k q) true (tree.contains posting_cmp s q)) → set_of n ≡ set.insert (set_of s) k
insert_is s n k differs = same_postings (set_of n) (set.insert (set_of s) k) (λ q.
    contains-set_of n q ∙ differs q ∙ inserted (eq_by_cmp posting_cmp k q) (tree.contains posting_cmp s q)
    ∙ ap (λ b. b || tree.contains posting_cmp s q) (turned q k) ∙ ap (λ b. eq_by_cmp posting_cmp q k || b) (sym (contains-set_of s q)) ∙ sym (set.contains-insert posting_total (set_of s) k q))

pub remove_is : (s n : BTreeSet Posting) (k : Posting) → ((q : Posting) → tree.contains posting_cmp n q ≡ cond (eq_by_cmp posting_cmp k q) false (tree.contains posting_cmp s q)) → set_of n ≡ set.remove (set_of s) k
remove_is s n k differs = same_postings (set_of n) (set.remove (set_of s) k) (λ q.
    contains-set_of n q ∙ differs q ∙ removed (eq_by_cmp posting_cmp k q) (tree.contains posting_cmp s q)
    ∙ ap (λ b. not b && tree.contains posting_cmp s q) (turned q k) ∙ ap (λ b. not (eq_by_cmp posting_cmp q k) && b) (sym (contains-set_of s q)) ∙ sym (set.contains-remove posting_total (set_of s) k q))

-- ---- one more term of a key

one_removed : (c k a r : Bool) → ((not (a && k) && c) && not (k && r)) ≡ (c && not (k && (a || r)))
one_removed true true true r = refl
one_removed true true false r = refl
one_removed true false true r = refl
one_removed true false false r = refl
one_removed false true true r = refl
one_removed false true false r = refl
one_removed false false true r = refl
one_removed false false false r = refl

one_added : (c k a r : Bool) → (((a && k) || c) || (k && r)) ≡ (c || (k && (a || r)))
one_added true true true r = refl
one_added true true false r = refl
one_added true false true r = refl
one_added true false false r = refl
one_added false true true r = refl
one_added false true false r = refl
one_added false false true r = refl
one_added false false false r = refl

next_item : (xs : List (List ℕ)) (i : ℕ) (x : List ℕ) → i < length xs → x ≡ get_or xs i x → drop i xs ≡ x ∷ drop (i + 1) xs
next_item xs i x within is = drop-cons xs i x within ∙ ap (λ (y : List ℕ). y ∷ drop (suc i) xs) (sym is) ∙ ap (λ n. x ∷ drop n xs) (sym (add-one i))

pub remove_more : (s n : Postings) (key : DecoratedKey) (terms : List (List ℕ)) (i : ℕ) (term : List ℕ) → i < length terms → term ≡ get_or terms i term → n ≡ set.remove s (posting term key)
    → (p : Posting) → (set.contains n p && not (is_among key (drop (i + 1) terms) p)) ≡ (set.contains s p && not (is_among key (drop i terms) p))
remove_more s n key terms i term within is new p =
    ap (λ b. b && not (is_among key (drop (i + 1) terms) p)) (ap (λ (t : Postings). set.contains t p) new ∙ set.contains-remove posting_total s (posting term key) p ∙ ap (λ b. not b && set.contains s p) (eq_posting p (posting term key)))
    ∙ one_removed (set.contains s p) (eq_by_cmp decorated_cmp p.key key) (same p.term term) (list_any (same p.term) (drop (i + 1) terms))
    ∙ ap (λ (ts : List (List ℕ)). set.contains s p && not (is_among key ts p)) (sym (next_item terms i term within is))

pub add_more : (s n : Postings) (key : DecoratedKey) (terms : List (List ℕ)) (i : ℕ) (term : List ℕ) → i < length terms → term ≡ get_or terms i term → n ≡ set.insert s (posting term key)
    → (p : Posting) → (set.contains n p || is_among key (drop (i + 1) terms) p) ≡ (set.contains s p || is_among key (drop i terms) p)
add_more s n key terms i term within is new p =
    ap (λ b. b || is_among key (drop (i + 1) terms) p) (ap (λ (t : Postings). set.contains t p) new ∙ set.contains-insert posting_total s (posting term key) p ∙ ap (λ b. b || set.contains s p) (eq_posting p (posting term key)))
    ∙ one_added (set.contains s p) (eq_by_cmp decorated_cmp p.key key) (same p.term term) (list_any (same p.term) (drop (i + 1) terms))
    ∙ ap (λ (ts : List (List ℕ)). set.contains s p || is_among key ts p) (sym (next_item terms i term within is))

none_left : (b k : Bool) → (b && not (k && false)) ≡ b
none_left true true = refl
none_left true false = refl
none_left false k = refl

none_more : (b k : Bool) → (b || (k && false)) ≡ b
none_more true k = refl
none_more false true = refl
none_more false false = refl

pub all_removed : (n : Postings) (key : DecoratedKey) (terms : List (List ℕ)) (i : ℕ) → length terms ≤ i → (p : Posting) → (set.contains n p && not (is_among key (drop i terms) p)) ≡ set.contains n p
all_removed n key terms i past p =
    ap (λ (ts : List (List ℕ)). set.contains n p && not (is_among key ts p)) (drop_all i terms past) ∙ none_left (set.contains n p) (eq_by_cmp decorated_cmp p.key key)

pub all_added : (n : Postings) (key : DecoratedKey) (terms : List (List ℕ)) (i : ℕ) → length terms ≤ i → (p : Posting) → (set.contains n p || is_among key (drop i terms) p) ≡ set.contains n p
all_added n key terms i past p =
    ap (λ (ts : List (List ℕ)). set.contains n p || is_among key ts p) (drop_all i terms past) ∙ none_more (set.contains n p) (eq_by_cmp decorated_cmp p.key key)

-- ---- what all postings are

second_true : (a b : Bool) → (a && b) ≡ true → b ≡ true
second_true true b h = h
second_true false b h = cc

pub still_of : (type : ColumnType) (s n : Postings) (k : Posting) → n ≡ set.remove s k → AreOf type s → AreOf type n
still_of type s n k new are p h =
    are p (second_true (not (eq_by_cmp posting_cmp p k)) (set.contains s p) (sym (ap (λ (t : Postings). set.contains t p) new ∙ set.contains-remove posting_total s k p) ∙ h))

pub one_more_of : (type : ColumnType) (s n : Postings) (k : Posting) → n ≡ set.insert s k → IsPostingOf type k → AreOf type s → AreOf type n
one_more_of type s n k new one are p h = by (eq_by_cmp posting_cmp p k) refl (sym (ap (λ (t : Postings). set.contains t p) new ∙ set.contains-insert posting_total s k p) ∙ h)
  where
    by : (b : Bool) → eq_by_cmp posting_cmp p k ≡ b → (eq_by_cmp posting_cmp p k || set.contains s p) ≡ true → IsPostingOf type p
    by true e either = subst (λ (q : Posting). IsPostingOf type q) (sym (equal_postings p k e)) one
    by false e either = are p (sym (ap (λ b. b || set.contains s p) e) ∙ either)

pub itself : (x : List ℕ) → same x x ≡ true
itself x = (bytes_decides x x).1 refl

pub has_item : (xs : List (List ℕ)) (i : ℕ) (x : List ℕ) → i < length xs → x ≡ get_or xs i x → list_any (same x) xs ≡ true
has_item [] i x within is = absurd (omega arith)
has_item (y ∷ ys) zero x within is = ap (λ (z : List ℕ). same x z || list_any (same x) ys) (sym is) ∙ ap (λ b. b || list_any (same x) ys) (itself x)
has_item (y ∷ ys) (suc i) x within is = ap (λ b. same x y || b) (has_item ys i x (omega arith) is) ∙ or_true (same x y)
  where
    or_true : (b : Bool) → (b || true) ≡ true
    or_true true = refl
    or_true false = refl

pub posting_of : (type : ColumnType) (terms : List (List ℕ)) (i : ℕ) (term : List ℕ) → i < length terms → term ≡ get_or terms i term → AreTermsOf type terms → (key : DecoratedKey) (made : Posting) → made ≡ posting term key → 1 ≤ length made.key.key → IsPostingOf type made
posting_of type terms i term within is are key made new some = record {
  key = some;
  term = subst (λ (p : Posting). IsTermOf type p.term) (sym new) (are term (has_item terms i term within is));
}
