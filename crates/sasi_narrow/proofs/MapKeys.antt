-- The keys of a token among keys in their order.
use Rattle.std.proofs.Common.{◌≡◌, ℕ, ◌+◌, ◌-◌, ◌<◌, ◌≤◌, true, false, nat_eq, nat_le, nat_lt, List, length, take, drop, get_or, refl, sym, ◌∙◌, ap, subst, arith, ⊎_elim}
use Rattle.std.specs.declared.cmp.Ordering.{Ordering}
use Rattle.std.specs.declared.cmp.Ordering.TheVariants.{Less, Equal, Greater}
use Rattle.std.specs.Cmp.Lexicographic.{slice_cmp}
use Rattle.std.specs.List.{filter}
use Rattle.std.specs.List.Sorted.{IsNonDecreasingBy, IsPartitionPoint, IsStrictlySortedBy}
use Rattle.std.specs.Ordering.{nat_cmp, ordering_then}
use Rattle.std.proofs.lemmas.Bool.{cases_lt}
use Rattle.std.proofs.lemmas.Bool.Decides.{nat_tests}
use Rattle.std.proofs.lemmas.Cmp.{ranked}
use Rattle.std.proofs.lemmas.List.{get_or-drop, length-drop, take_rest}
use Rattle.std.proofs.lemmas.List.Sorted.{IsNonDecreasingBy-drop}
use Rattle.std.proofs.lemmas.Map.Keys.{Less-from_sorted}
use Rattle.sasi_types.specs.declared.decorated_key.DecoratedKey.{DecoratedKey}
use Rattle.sasi_types.specs.DecoratedKey.{decorated_cmp}
use Rattle.sasi_narrow.proofs.Spans.{span_is}

no_lower : (a b : DecoratedKey) → decorated_cmp a b ≡ Less → a.token ≤ b.token
no_lower a b less = by (nat_cmp a.token b.token) refl less
  where
    by : (o : Ordering) → nat_cmp a.token b.token ≡ o → ordering_then o (slice_cmp nat_cmp a.key b.key) ≡ Less → a.token ≤ b.token
    by Less is less = omega (arith, ranked a.token b.token Less (sym is))
    by Equal is less = omega (arith, ranked a.token b.token Equal (sym is))
    by Greater is less = cc

-- the tokens of keys in their order don't fall
pub tokens_rise : (keys : List DecoratedKey) → IsStrictlySortedBy decorated_cmp keys → IsNonDecreasingBy (λ (key : DecoratedKey). key.token) keys
tokens_rise keys rise i j d upto within = ⊎_elim
    (λ below. no_lower (get_or keys i d) (get_or keys j d) (Less-from_sorted decorated_cmp keys i j d rise below within))
    (λ same. (let is : i ≡ j = omega (arith, same, upto) in omega (arith, ap (λ n. (get_or keys n d).token) is)))
    (cases_lt i j)

lower : (a token : ℕ) → nat_lt a token ≡ true → nat_eq a token ≡ false
lower a token is = grind (arith, nat_tests)

higher : (a token : ℕ) → nat_le a token ≡ false → nat_eq a token ≡ false
higher a token is = grind (arith, nat_tests)

between : (a token : ℕ) → nat_lt a token ≡ false → nat_le a token ≡ true → nat_eq a token ≡ true
between a token least most = grind (arith, nat_tests)

-- the tokens from an index on, as a slice has them, don't fall either
pub rest_rises : (first : ℕ) (keys : List DecoratedKey) → IsNonDecreasingBy (λ (key : DecoratedKey). key.token) keys → IsNonDecreasingBy (λ (key : DecoratedKey). key.token) (take (length keys - first) (drop first keys))
rest_rises first keys rise =
    subst (λ (l : List DecoratedKey). IsNonDecreasingBy (λ (key : DecoratedKey). key.token) l) (sym (take_rest keys first)) (IsNonDecreasingBy-drop (λ (key : DecoratedKey). key.token) first keys rise)

abbrev SpanOf : ℕ → List DecoratedKey → ℕ → ℕ → List DecoratedKey → Type 0
SpanOf token keys first end rest = end ≤ length rest
    → IsPartitionPoint (λ (y : DecoratedKey). nat_le y.token token ≡ true) (λ (y : DecoratedKey). nat_le y.token token ≡ false) rest end
    → take end rest ≡ filter (λ (key : DecoratedKey). nat_eq key.token token) keys

-- **The keys from the first one that isn't below the token up to the last that isn't above it are those of the token.**
pub token_span : (token : ℕ) (keys rest : List DecoratedKey) (first end : ℕ) → first ≤ length keys → end ≤ length rest → rest ≡ drop first keys
    → IsPartitionPoint (λ (y : DecoratedKey). nat_lt y.token token ≡ true) (λ (y : DecoratedKey). nat_lt y.token token ≡ false) keys first
    → IsPartitionPoint (λ (y : DecoratedKey). nat_le y.token token ≡ true) (λ (y : DecoratedKey). nat_le y.token token ≡ false) rest end
    → take end rest ≡ filter (λ (key : DecoratedKey). nat_eq key.token token) keys
token_span token keys rest first end within ends is low high = subst (SpanOf token keys first end) (sym is) span ends high
  where
    at_least : (k : ℕ) (d : DecoratedKey) → k < length (drop first keys) → nat_lt (get_or (drop first keys) k d).token token ≡ false
    at_least k d inside =
        ap (λ (y : DecoratedKey). nat_lt y.token token) (get_or-drop first keys k d) ∙ low.1 (first + k) d (omega arith) (omega (arith, inside, length-drop first keys))

    span : SpanOf token keys first end (drop first keys)
    span ends high = span_is (λ (key : DecoratedKey). nat_eq key.token token) keys first end within ends
        (λ k d from below. lower (get_or keys k d).token token (low.0 k d from below))
        (λ k d from below. between (get_or (drop first keys) k d).token token (at_least k d (omega (arith, below, ends))) (high.0 k d from below))
        (λ k d from below. higher (get_or (drop first keys) k d).token token (high.1 k d from below))
