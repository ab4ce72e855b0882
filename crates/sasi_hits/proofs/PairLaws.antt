-- Laws of pairs that rise.
use Rattle.std.proofs.Common.{◌≡◌, ◌⊎◌, ◌&&◌, ℕ, suc, ◌+◌, ◌*◌, ◌^◌, ◌<◌, ◌≤◌, max, min, nat_lt, Bool, true, false, cond, if◌then◌else◌, List, [], ◌∷◌, ◌++◌, Option, None, Some, refl, sym, ap, subst, ◌∙◌, inl, inr, ⊎_elim, arith}
use Rattle.std.proofs.lemmas.Bool.Decides.{nat_tests}
use Rattle.std.specs.List.{AllByRecursion, filter}
use Rattle.sasi_types.specs.declared.tree.Pair.{Pair}
use Rattle.sasi_tokentree.specs.Format.{IsBefore}
use Rattle.sasi_treemerge.specs.Merges.{is_behind}
use Rattle.sasi_treemerge.specs.Sources.{is_before}
use Rattle.sasi_treemerge.proofs.PairOrder.{before_itself, before_yes, is_before_yes, not_before}
use Rattle.sasi_ranges.specs.Entries.{from_token}
use Rattle.sasi_hits.specs.Pairs.{IsIn, PairsRise, entries_of, is_from}
use Rattle.sasi_hits.specs.WordSearches.{HeadRises}

pub split : (b : Bool) → (b ≡ true) ⊎ (b ≡ false)
split true = inl refl
split false = inr refl

pub no_both : {A : Type 0} (b : Bool) → b ≡ true → b ≡ false → A
no_both b is isnt = (let differ : true ≡ false = sym is ∙ isnt in cc)

-- ---- the order

-- a pair behind one that comes behind the last one does, too
pub behind_on : (last : Option Pair) (found pair : Pair) → is_behind last found ≡ true → is_before found pair ≡ true → is_behind last pair ≡ true
behind_on None found pair first second = refl
behind_on (Some last) found pair first second = is_before_yes last pair (both (before_yes last found first) (before_yes found pair second))
  where
    both : IsBefore last found → IsBefore found pair → IsBefore last pair
    both one two = ⊎_elim
        (λ p. ⊎_elim (λ q. inl (omega (arith, p, q))) (λ q. inl (omega (arith, p, q.0))) two)
        (λ p. ⊎_elim (λ q. inl (omega (arith, p.0, q))) (λ q. inr (p.0 ∙ q.0, omega (arith, p.1, q.1))) two)
        one

pub chain : (a b c : Pair) → is_before a b ≡ true → is_before b c ≡ true → is_before a c ≡ true
chain a b c first second = behind_on (Some a) b c first second

-- of two pairs only one comes before the other
pub before_one : (a b : Pair) → is_before a b ≡ true → is_before b a ≡ false
before_one a b before = ⊎_elim (λ back. no_both (is_before a a) (chain a b a before back) (before_itself a)) (λ no. no) (split (is_before b a))

-- where neither does, they are the same
pub equal_pairs : (a b : Pair) → is_before a b ≡ false → is_before b a ≡ false → a ≡ b
equal_pairs a b first second = ⊎_elim
    (λ p. ⊎_elim (λ q. absurd (omega (arith, p, q))) (λ q. absurd (omega (arith, p, q.0))) (not_before b a second))
    (λ p. ⊎_elim (λ q. absurd (omega (arith, p.0, q))) (λ q. same q.0 (omega (arith, p.1, q.1))) (not_before b a second))
    (not_before a b first)
  where
    same : a.token ≡ b.token → a.place ≡ b.place → a ≡ b
    same token place = λ i. record { token = token i; place = place i }

-- a pair from another one on is that one or comes behind it
pub from_cases : (p q : Pair) → is_before q p ≡ false → (q ≡ p) ⊎ (is_before p q ≡ true)
from_cases p q from = ⊎_elim (λ behind. inr behind) (λ no. inl (equal_pairs q p from no)) (split (is_before p q))

-- pairs from one behind the last one on come behind that
pub from_behind : (last : Option Pair) (p q : Pair) → is_behind last p ≡ true → is_before q p ≡ false → is_behind last q ≡ true
from_behind last p q behind from = ⊎_elim (λ same. ap (is_behind last) same ∙ behind) (λ later. behind_on last p q behind later) (from_cases p q from)

pub from_token_below : (p q : Pair) → p.token < q.token → is_before p q ≡ true
from_token_below p q lt = is_before_yes p q (inl lt)

-- ---- members

-- what holds of each pair behind holds of one of them
pub of_all : (P : Pair → Type 0) (p : Pair) (xs : List Pair) → AllByRecursion P xs → IsIn p xs → P p
of_all P p [] all has = absurd has
of_all P p (x ∷ xs) all has = ⊎_elim (λ same. subst P same all.0) (λ later. of_all P p xs all.1 later) has

pub each_of : (P : Pair → Type 0) (xs : List Pair) → ((p : Pair) → IsIn p xs → P p) → AllByRecursion P xs
each_of P [] each = tt
each_of P (x ∷ xs) each = (each x (inl refl), each_of P xs (λ p has. each p (inr has)))

pub in_filter : (test : Pair → Bool) (p : Pair) (xs : List Pair) → IsIn p xs → test p ≡ true → IsIn p (filter test xs)
in_filter test p [] has is = has
in_filter test p (x ∷ xs) has is = by (test x) refl (λ later. in_filter test p xs later is)
  where
    by : (b : Bool) → test x ≡ b → (IsIn p xs → IsIn p (filter test xs)) → IsIn p (cond b (x ∷ filter test xs) (filter test xs))
    by true tested rest = ⊎_elim (λ same. inl same) (λ later. inr (rest later)) has
    by false tested rest = ⊎_elim (λ same. no_both (test p) is (ap test (sym same) ∙ tested)) (λ later. rest later) has

pub filter_in : (test : Pair → Bool) (p : Pair) (xs : List Pair) → IsIn p (filter test xs) → IsIn p xs × (test p ≡ true)
filter_in test p [] has = absurd has
filter_in test p (x ∷ xs) has = by (test x) refl (filter_in test p xs) has
  where
    by : (b : Bool) → test x ≡ b → (IsIn p (filter test xs) → IsIn p xs × (test p ≡ true)) → IsIn p (cond b (x ∷ filter test xs) (filter test xs)) → ((x ≡ p) ⊎ IsIn p xs) × (test p ≡ true)
    by true tested rest has = ⊎_elim (λ same. (inl same, ap test (sym same) ∙ tested)) (λ later. (let r = rest later in (inr r.0, r.1))) has
    by false tested rest has = (let r = rest has in (inr r.0, r.1))

-- ---- from a token on

pub from_yes : (token : ℕ) (pair : Pair) → token ≤ pair.token → is_from token pair ≡ true
from_yes token pair le = grind (arith, nat_tests)

pub from_no : (token : ℕ) (pair : Pair) → pair.token < token → is_from token pair ≡ false
from_no token pair lt = grind (arith, nat_tests)

-- a pair that isn't below a token comes from it on, and so do those behind it
behind_from : (token : ℕ) (x y : Pair) → token ≤ x.token → is_before x y ≡ true → is_from token y ≡ true
behind_from token x y le before = (
    let far : x.token ≤ y.token = ⊎_elim (λ p. omega (arith, p)) (λ p. omega (arith, p.0)) (before_yes x y before) in
    let most : token ≤ y.token = omega (arith, le, far) in
    grind (arith, nat_tests)
    )

keeps_all : (test : Pair → Bool) (xs : List Pair) → AllByRecursion (λ x. test x ≡ true) xs → filter test xs ≡ xs
keeps_all test [] all = refl
keeps_all test (x ∷ xs) all = ap (λ b. cond b (x ∷ filter test xs) (filter test xs)) all.0 ∙ ap (λ l. x ∷ l) (keeps_all test xs all.1)

all_from : (token : ℕ) (x : Pair) (xs : List Pair) → token ≤ x.token → AllByRecursion (λ y. is_before x y ≡ true) xs → AllByRecursion (λ y. is_from token y ≡ true) xs
all_from token x [] le all = tt
all_from token x (y ∷ ys) le all = (behind_from token x y le all.0, all_from token x ys le all.1)

-- **To skip the hits at pairs that rise is to skip the pairs.**
pub skip_entries : (leaf part token : ℕ) (pairs : List Pair) → PairsRise pairs → from_token token (entries_of leaf part pairs) ≡ entries_of leaf part (filter (is_from token) pairs)
skip_entries leaf part token [] rise = refl
skip_entries leaf part token (x ∷ xs) rise = by (nat_lt x.token token) refl (skip_entries leaf part token xs rise.1)
  where
    by : (b : Bool) → nat_lt x.token token ≡ b → from_token token (entries_of leaf part xs) ≡ entries_of leaf part (filter (is_from token) xs)
        → (if b then from_token token (entries_of leaf part xs) else entries_of leaf part (x ∷ xs)) ≡ entries_of leaf part (cond (is_from token x) (x ∷ filter (is_from token) xs) (filter (is_from token) xs))
    by true below rest = (
        let no : is_from token x ≡ false = grind (arith, nat_tests) in
        rest ∙ sym (ap (λ b. entries_of leaf part (cond b (x ∷ filter (is_from token) xs) (filter (is_from token) xs))) no)
        )
    by false above rest = (
        let le : token ≤ x.token = grind (arith, nat_tests) in
        let yes : is_from token x ≡ true = grind (arith, nat_tests) in
        ap (entries_of leaf part) (ap (λ l. x ∷ l) (sym (keeps_all (is_from token) xs (all_from token x xs le rise.0))))
        ∙ sym (ap (λ b. entries_of leaf part (cond b (x ∷ filter (is_from token) xs) (filter (is_from token) xs))) yes)
        )

both_from : (floor token : ℕ) (x : Pair) → is_from (max floor token) x ≡ (is_from floor x && is_from token x)
both_from floor token x = grind (arith, nat_tests)

-- a floor that rises leaves what both leave
pub floor_rises : (floor token : ℕ) (xs : List Pair) → filter (is_from token) (filter (is_from floor) xs) ≡ filter (is_from (max floor token)) xs
floor_rises floor token [] = refl
floor_rises floor token (x ∷ xs) = by (is_from floor x) refl (floor_rises floor token xs)
  where
    rest : List Pair
    rest = filter (is_from (max floor token)) xs

    by : (b : Bool) → is_from floor x ≡ b → filter (is_from token) (filter (is_from floor) xs) ≡ rest
        → filter (is_from token) (cond b (x ∷ filter (is_from floor) xs) (filter (is_from floor) xs)) ≡ cond (is_from (max floor token) x) (x ∷ rest) rest
    by true is later =
        ap (λ l. cond (is_from token x) (x ∷ l) l) later
        ∙ sym (ap (λ b. cond b (x ∷ rest) rest) (both_from floor token x ∙ ap (λ b. b && is_from token x) is))
    by false is later = later ∙ sym (ap (λ b. cond b (x ∷ rest) rest) (both_from floor token x ∙ ap (λ b. b && is_from token x) is))

-- ---- one pair after another

pub rise_behind : (passed rest : List Pair) → PairsRise (passed ++ rest) → PairsRise rest
rise_behind [] rest rise = rise
rise_behind (x ∷ passed) rest rise = rise_behind passed rest rise.1

-- the pairs below the floor are passed
pub none_from : (test : Pair → Bool) (passed rest : List Pair) → AllByRecursion (λ x. test x ≡ false) passed → filter test (passed ++ rest) ≡ filter test rest
none_from test [] rest none = refl
none_from test (x ∷ passed) rest none = ap (λ b. cond b (x ∷ filter test (passed ++ rest)) (filter test (passed ++ rest))) none.0 ∙ none_from test passed rest none.1

pub first_kept : (test : Pair → Bool) (x : Pair) (rest : List Pair) → test x ≡ true → filter test (x ∷ rest) ≡ x ∷ filter test rest
first_kept test x rest is = ap (λ b. cond b (x ∷ filter test rest) (filter test rest)) is

-- ---- a number of a pair, by which its order is told

pub rank : Option Pair → ℕ
rank None = 0
rank (Some pair) = suc (2 ^ 65 * pair.token + min pair.place (2 ^ 64))

rank_some : (old : Option Pair) (pair : Pair) → is_behind old pair ≡ true → pair.token < 2 ^ 64 → pair.place < 2 ^ 64 → (rank old < rank (Some pair)) × (rank (Some pair) ≤ 2 ^ 130)
unfolding rank
rank_some None pair behind token place = (omega arith, omega (arith, token, place))
rank_some (Some head) pair behind token place = (
  ⊎_elim (λ p. omega (arith, p, place)) (λ p. omega (arith, p.0, p.1, place)) (before_yes head pair behind),
  omega (arith, token, place),
)

-- it rises with the pairs
pub rank_rises : (old new : Option Pair) → HeadRises old new → (rank old < rank new) × (rank new ≤ 2 ^ 130)
rank_rises old new rises = subst (λ (o : Option Pair). (rank old < rank o) × (rank o ≤ 2 ^ 130)) (sym rises.1) (rank_some old rises.0 rises.2 rises.3 rises.4)
