-- The order of pairs, and what rising pairs behind one are.
use Rattle.std.specs.Prelude.{◌≡◌, ℕ, zero, suc, ◌+◌, ◌<◌, ◌≤◌, ◌==◌, nat_lt, nat_le, Bool, true, false, ◌&&◌, ◌||◌, ◌⊎◌, List, [], ◌∷◌, length, drop, get_or, Contains, Option, Some, None, refl}
use Rattle.std.proofs.Common.{◌∙◌, sym, ap, arith, rules, inl, inr, ⊎_elim, length-drop, cond}
use Rattle.std.proofs.lemmas.List.{get_or-drop}
use Rattle.std.specs.Ordering.{is_lt, ordering_then}
use Rattle.std.specs.declared.cmp.Ordering.TheVariants.{Less, Equal, Greater}
use Rattle.sasi_types.specs.declared.tree.Pair.{Pair}
use Rattle.sasi_tokentree.specs.Format.{IsBefore, IsRising, pair_at}
use Rattle.sasi_treemerge.specs.Sources.{is_before}
use Rattle.sasi_treemerge.specs.Merges.{is_behind, is_left}

-- the one pair doesn't come before the other
abbrev pub IsNotBefore : Pair → Pair → Type 0
IsNotBefore a b = (b.token < a.token) ⊎ ((b.token ≡ a.token) × (b.place ≤ a.place))

-- by two tests
lt_is : (a b c d : Bool) → is_lt (ordering_then (cond a Less (cond b Equal Greater)) (cond c Less (cond d Equal Greater))) ≡ a || (b && c)
lt_is true b c d = refl
lt_is false true true d = refl
lt_is false true false true = refl
lt_is false true false false = refl
lt_is false false c d = refl

before_is : (a b : Pair) → is_before a b ≡ nat_lt a.token b.token || ((a.token == b.token) && nat_lt a.place b.place)
before_is a b = lt_is (nat_lt a.token b.token) (a.token == b.token) (nat_lt a.place b.place) (a.place == b.place)

by_tests : (first same second : Bool) (a b : Pair) → nat_lt a.token b.token ≡ first → (a.token == b.token) ≡ same → nat_lt a.place b.place ≡ second → first || (same && second) ≡ false → IsNotBefore a b
by_tests true same second a b one two three out = absurd cc
by_tests false true true a b one two three out = absurd cc
by_tests false true false a b one two three out = let p : a.token ≡ b.token = search (rules, two) in let q : b.place ≤ a.place = search (rules, three) in inr (sym p, q)
by_tests false false second a b one two three out = let p : b.token ≤ a.token = search (rules, one) in let q : a.token ≡ b.token → ⊥ = search (rules, two) in inl (less a.token b.token p q)
  where
    less : (m n : ℕ) → n ≤ m → (m ≡ n → ⊥) → n < m
    less m n le out = omega arith

pub not_before : (a b : Pair) → is_before a b ≡ false → IsNotBefore a b
not_before a b out = by_tests (nat_lt a.token b.token) (a.token == b.token) (nat_lt a.place b.place) a b refl refl refl (sym (before_is a b) ∙ out)

from_tests : (first same second : Bool) (a b : Pair) → nat_lt a.token b.token ≡ first → (a.token == b.token) ≡ same → nat_lt a.place b.place ≡ second → IsNotBefore a b → first || (same && second) ≡ false
from_tests true same second a b one two three out = let p : a.token < b.token = search (rules, one) in absurd (⊎_elim (λ l. omega (arith, l, p)) (λ r. omega (arith, r.0, p)) out)
from_tests false false second a b one two three out = refl
from_tests false true false a b one two three out = refl
from_tests false true true a b one two three out =
    let p : a.token ≡ b.token = search (rules, two) in let q : a.place < b.place = search (rules, three) in absurd (⊎_elim (λ l. omega (arith, l, p)) (λ r. omega (arith, r.1, q)) out)

pub is_not_before : (a b : Pair) → IsNotBefore a b → is_before a b ≡ false
is_not_before a b out = before_is a b ∙ from_tests (nat_lt a.token b.token) (a.token == b.token) (nat_lt a.place b.place) a b refl refl refl out

pub before_itself : (a : Pair) → is_before a a ≡ false
before_itself a = is_not_before a a (inr (refl, omega arith))

-- what isn't before a pair that isn't before another isn't before that
pub not_before_on : (a b c : Pair) → is_before a b ≡ false → is_before b c ≡ false → is_before a c ≡ false
not_before_on a b c first second =
    is_not_before a c
    (⊎_elim
    (λ p. ⊎_elim (λ q. inl (omega (arith, p, q))) (λ q. inl (omega (arith, p, q.0))) (not_before b c second))
    (λ p. ⊎_elim (λ q. inl (omega (arith, p.0, q))) (λ q. inr (q.0 ∙ p.0, omega (arith, p.1, q.1))) (not_before b c second))
    (not_before a b first))

true_or_false : (b : Bool) → (b ≡ true) ⊎ (b ≡ false)
true_or_false true = inl refl
true_or_false false = inr refl

-- ---- what is left

both_hold : (a b : Bool) → a && b ≡ true → (a ≡ true) × (b ≡ true)
both_hold true b h = (refl, h)
both_hold false b h = absurd cc

before_tests : (first same second : Bool) (a b : Pair) → nat_lt a.token b.token ≡ first → (a.token == b.token) ≡ same → nat_lt a.place b.place ≡ second → first || (same && second) ≡ true → IsBefore a b
before_tests true same second a b one two three before = let p : a.token < b.token = search (rules, one) in inl p
before_tests false true true a b one two three before = let p : a.token ≡ b.token = search (rules, two) in let q : a.place < b.place = search (rules, three) in inr (p, q)
before_tests false true false a b one two three before = absurd cc
before_tests false false second a b one two three before = absurd cc

pub before_yes : (a b : Pair) → is_before a b ≡ true → IsBefore a b
before_yes a b before = before_tests (nat_lt a.token b.token) (a.token == b.token) (nat_lt a.place b.place) a b refl refl refl (sym (before_is a b) ∙ before)

not_both : (a b : Pair) → IsBefore a b → IsNotBefore a b → ⊥
not_both a b before out = ⊎_elim
    (λ p. ⊎_elim (λ q. omega (arith, p, q)) (λ q. omega (arith, p, q.0)) out)
    (λ p. ⊎_elim (λ q. omega (arith, p.0, q)) (λ q. omega (arith, p.1, q.1)) out)
    before

pub is_before_yes : (a b : Pair) → IsBefore a b → is_before a b ≡ true
is_before_yes a b before = ⊎_elim (λ t. t) (λ f. absurd (not_both a b before (not_before a b f))) (true_or_false (is_before a b))

chain : (a b c : Pair) → IsBefore a b → IsBefore b c → IsBefore a c
chain a b c first second = ⊎_elim
    (λ p. ⊎_elim (λ q. inl (omega (arith, p, q))) (λ q. inl (omega (arith, p, q.0))) second)
    (λ p. ⊎_elim (λ q. inl (omega (arith, p.0, q))) (λ q. inr (p.0 ∙ q.0, omega (arith, p.1, q.1))) second)
    first

-- a pair behind one that is left comes behind the last one
pub behind_on : (last : Option Pair) (found pair : Pair) → is_behind last found ≡ true → is_before found pair ≡ true → is_behind last pair ≡ true
behind_on None found pair first second = refl
behind_on (Some last) found pair first second = is_before_yes last pair (chain last found pair (before_yes last found first) (before_yes found pair second))

pub left_behind : (last : Option Pair) (floor : ℕ) (found pair : Pair) → is_left last floor found ≡ true → is_left (Some found) floor pair ≡ true → is_left last floor pair ≡ true
left_behind last floor found pair first second =
    let one = both_hold (is_behind last found) (nat_le floor found.token) first in
    let two = both_hold (is_before found pair) (nat_le floor pair.token) second in
    ap (λ (t : Bool). t && nat_le floor pair.token) (behind_on last found pair one.0 two.0) ∙ two.1

-- the last pair itself isn't left
pub last_gone : (found : Pair) (floor : ℕ) → is_left (Some found) floor found ≡ false
last_gone found floor = ap (λ (t : Bool). t && nat_le floor found.token) (before_itself found)

-- ---- rising pairs

rising_far : (pairs : List Pair) → IsRising pairs → (first more : ℕ) → first + more < length pairs → is_before (pair_at pairs (first + more)) (pair_at pairs first) ≡ false
rising_far pairs rising first zero lt = ap (λ (n : ℕ). is_before (pair_at pairs n) (pair_at pairs first)) (omega arith) ∙ before_itself (pair_at pairs first)
rising_far pairs rising first (suc more) lt =
    let step : IsBefore (pair_at pairs (first + more)) (pair_at pairs (first + more + 1)) = rising (first + more) (omega arith) in
    let far = rising_far pairs rising first more (omega arith) in
    let next : is_before (pair_at pairs (first + more + 1)) (pair_at pairs (first + more)) ≡ false = ⊎_elim
    (λ t. absurd (cycle (pair_at pairs (first + more)) (pair_at pairs (first + more + 1)) step (before_yes _ _ t))) (λ f. f)
    (true_or_false (is_before (pair_at pairs (first + more + 1)) (pair_at pairs (first + more)))) in
    ap (λ (n : ℕ). is_before (pair_at pairs n) (pair_at pairs first)) (omega arith)
    ∙ not_before_on (pair_at pairs (first + more + 1)) (pair_at pairs (first + more)) (pair_at pairs first) next far
  where
    cycle : (a b : Pair) → IsBefore a b → IsBefore b a → ⊥
    cycle a b one two = not_both a a (chain a b a one two) (inr (refl, omega arith))

-- of what is left of rising pairs none comes before the first
pub first_least : (pairs : List Pair) (before passed : ℕ) (head pair : Pair) → IsRising pairs → drop before pairs ≡ head ∷ drop passed pairs → Contains (head ∷ drop passed pairs) pair → is_before pair head ≡ false
first_least pairs before passed head pair rising is has =
    let rest = head ∷ drop passed pairs in
    let lt : has.0 < length rest = has.1 in
    let long : length (drop before pairs) ≡ length rest = ap (λ (l : List Pair). length l) is in
    let within : before + has.0 < length pairs = omega (arith, long, length-drop before pairs, lt) in
    let first : head ≡ pair_at pairs (before + 0) = ap (λ (l : List Pair). get_or l 0 (record { token = 0; place = 0 })) (sym is) ∙ get_or-drop before pairs 0 (record { token = 0; place = 0 }) in
    let other : pair ≡ pair_at pairs (before + has.0) =
    sym has.2 ∙ any_default rest has.0 pair (record { token = 0; place = 0 }) lt ∙ ap (λ (l : List Pair). get_or l has.0 (record { token = 0; place = 0 })) (sym is) ∙ get_or-drop before pairs has.0 (record { token = 0; place = 0 }) in
    let base : before + 0 ≡ before = omega arith in
    ap (λ (p : Pair). is_before p head) other ∙ ap (λ (p : Pair). is_before (pair_at pairs (before + has.0)) p) (first ∙ ap (λ (n : ℕ). pair_at pairs n) base) ∙ rising_far pairs rising before has.0 within
  where
    any_default : (l : List Pair) (k : ℕ) (d e : Pair) → k < length l → get_or l k d ≡ get_or l k e
    any_default [] k d e lt = absurd (omega (arith, lt))
    any_default (x ∷ l) zero d e lt = refl
    any_default (x ∷ l) (suc k) d e lt = any_default l k d e (omega (arith, lt))
