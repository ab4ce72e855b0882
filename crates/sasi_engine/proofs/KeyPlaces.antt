-- The keys of a part with a token: which of them are hits of a relation.
use Rattle.std.proofs.Common.{◌≡◌, ℕ, zero, suc, ◌+◌, ◌<◌, ◌≤◌, Bool, true, false, cond, ◌&&◌, ◌||◌, not, nat_eq, is_some, List, [], ◌∷◌, ◌++◌, length, map, slice_index_or, Option, None, Some, refl, sym, ap, ap₂, subst, ◌∙◌, arith}
use Rattle.std.proofs.lemmas.Bool.{and_parts}
use Rattle.std.proofs.lemmas.Bool.Decides.{nat_tests}
use Rattle.std.proofs.lemmas.List.Folds.{list_any-append}
use Rattle.std.proofs.lemmas.Map.Lookups.{exact_bytes}
use Rattle.std.proofs.lemmas.Map.Views.{tells_apart}
use Rattle.std.specs.Cmp.{unsigned_ties}
use Rattle.std.specs.Cmp.Lexicographic.{lists_ties}
use Rattle.std.specs.FinMap as map_
use Rattle.std.specs.List.{AllByRecursion, filter, list_any, zip}
use Rattle.std.specs.Ordering.{eq_by_cmp, nat_cmp}
use Rattle.sasi_types.specs.declared.decorated_key.DecoratedKey.{DecoratedKey}
use Rattle.sasi_types.specs.declared.partitioner.Partitioner.{Partitioner}
use Rattle.sasi_types.specs.declared.tree.Pair.{Pair}
use Rattle.sasi_types.specs.DecoratedKey.{decorated_cmp}
use Rattle.sasi_types.specs.Token.{token_of}
use Rattle.sasi_cells.proofs.Laws.Decorated.{equal_keys}
use Rattle.sasi_model.specs.Abbreviations.{Partitions}
use Rattle.sasi_model.specs.Tokens.{same}
use Rattle.sasi_datawrite.specs.Format.{Content, decorated_key, pairs_from, partition_bytes}
use Rattle.sasi_datawrite.proofs.Laws.{partition_length}
use Rattle.sasi_dataread.specs.declared.token_keys.PlacedKey.{PlacedKey}
use Rattle.sasi_dataread.specs.PlacedKeys.{keys_at}
use Rattle.sasi_candidates.proofs.PairLists.{pair_itself}
use Rattle.sasi_hits.proofs.PartHits.{pairs_of}
use Rattle.sasi_narrow.specs.Narrowing.{hit_in_file, hit_in_map}
use Rattle.sasi_narrow.proofs.NarrowingLaws.{hit_without_index}
use Rattle.sasi_engine.proofs.EntryTests.{is_pair}
use Rattle.sasi_engine.proofs.TokenTests.{filtered_any, own_key, same_any}

-- ---- tests

pub alike_any : {A : Type 0} (f g : A → Bool) → ((x : A) → f x ≡ g x) → (xs : List A) → list_any f xs ≡ list_any g xs
alike_any f g alike [] = refl
alike_any f g alike (x ∷ xs) = ap₂ (λ b c. b || c) (alike x) (alike_any f g alike xs)

pub each_way : (b c : Bool) → (b ≡ true → c ≡ true) → (c ≡ true → b ≡ true) → b ≡ c
each_way true c there back = sym (there refl)
each_way false true there back = back refl
each_way false false there back = refl

-- the key with these bytes and this token
abbrev pub key_with : ℕ → List ℕ → DecoratedKey
key_with token bytes = record { token = token; key = bytes }

equal_numbers : (x y : ℕ) → nat_eq x y ≡ true → x ≡ y
equal_numbers x y e = grind (arith, nat_tests)

own_number : (x : ℕ) → nat_eq x x ≡ true
own_number x = grind (arith, nat_tests)

pub equal_bytes : (a b : List ℕ) → same a b ≡ true → a ≡ b
equal_bytes a b e = tells_apart exact_bytes a b (sym (lists_ties nat_cmp unsigned_ties a b) ∙ e)

pub own_bytes : (bytes : List ℕ) → same bytes bytes ≡ true
own_bytes [] = refl
own_bytes (b ∷ bytes) = ap₂ (λ x y. x && y) (own_number b) (own_bytes bytes)

-- the key is the one with these bytes and this token
pub is_key : (token : ℕ) (bytes : List ℕ) (k : DecoratedKey) → (nat_eq k.token token && same bytes k.key) ≡ eq_by_cmp decorated_cmp (key_with token bytes) k
is_key token bytes k = each_way (nat_eq k.token token && same bytes k.key) (eq_by_cmp decorated_cmp (key_with token bytes) k)
    (λ both.
    (let parts = and_parts (nat_eq k.token token) (same bytes k.key) both in
    let token_is = equal_numbers k.token token parts.0 in
    let key_is = equal_bytes bytes k.key parts.1 in
    let q_is : key_with token bytes ≡ k = λ i. record { token = sym token_is i; key = key_is i } in
    subst (λ (x : DecoratedKey). eq_by_cmp decorated_cmp (key_with token bytes) x ≡ true) q_is (own_key (key_with token bytes))))
    (λ tied.
    subst (λ (x : DecoratedKey). (nat_eq x.token token && same bytes x.key) ≡ true) (equal_keys (key_with token bytes) k tied)
    (ap₂ (λ x y. x && y) (own_number token) (own_bytes bytes)))

absorbs : (t a : Bool) → (t || (a && t)) ≡ t
absorbs true a = refl
absorbs false true = refl
absorbs false false = refl

at_key : (q : DecoratedKey) (test : DecoratedKey → Bool) (xs : List DecoratedKey) → list_any (λ (k : DecoratedKey). eq_by_cmp decorated_cmp q k && test k) xs ≡ (list_any (eq_by_cmp decorated_cmp q) xs && test q)
at_key q test [] = refl
at_key q test (x ∷ xs) = by (eq_by_cmp decorated_cmp q x) refl (at_key q test xs)
  where
    later : Bool
    later = list_any (λ (k : DecoratedKey). eq_by_cmp decorated_cmp q k && test k) xs

    there : Bool
    there = list_any (eq_by_cmp decorated_cmp q) xs

    by : (b : Bool) → eq_by_cmp decorated_cmp q x ≡ b → later ≡ (there && test q) → ((b && test x) || later) ≡ ((b || there) && test q)
    by true same rest = ap₂ (λ t l. t || l) (ap test (sym (equal_keys q x same))) rest ∙ absorbs (test q) there
    by false other rest = rest

only_there : (a t : Bool) → (t ≡ true → a ≡ true) → (a && t) ≡ t
only_there true t there = refl
only_there false true there = there refl
only_there false false there = refl

-- **Among keys of which one that passes is one, the key with these bytes and this token is found by its test.**
pub one_key : (token : ℕ) (bytes : List ℕ) (test : DecoratedKey → Bool) (xs : List DecoratedKey) → (test (key_with token bytes) ≡ true → list_any (eq_by_cmp decorated_cmp (key_with token bytes)) xs ≡ true)
    → list_any (λ (k : DecoratedKey). (nat_eq k.token token && same bytes k.key) && test k) xs ≡ test (key_with token bytes)
one_key token bytes test xs there =
    alike_any (λ (k : DecoratedKey). (nat_eq k.token token && same bytes k.key) && test k) (λ (k : DecoratedKey). eq_by_cmp decorated_cmp (key_with token bytes) k && test k) (λ k. ap (λ b. b && test k) (is_key token bytes k)) xs
    ∙ at_key (key_with token bytes) test xs
    ∙ only_there (list_any (eq_by_cmp decorated_cmp (key_with token bytes)) xs) (test (key_with token bytes)) there

-- ---- a map

-- **The hits in a map are by its keys.**
pub map_hit : (token : ℕ) (bytes : List ℕ) (test : DecoratedKey → Bool) (xs : List DecoratedKey) → (test (key_with token bytes) ≡ true → list_any (eq_by_cmp decorated_cmp (key_with token bytes)) xs ≡ true)
    → hit_in_map token (filter test xs) bytes ≡ test (key_with token bytes)
map_hit token bytes test xs there = filtered_any (λ (k : DecoratedKey). nat_eq k.token token && same bytes k.key) test xs ∙ one_key token bytes test xs there

-- ---- a data file without the index

keys_known : (p : Partitioner) (token : ℕ) (bytes : List ℕ) (at : ℕ) (content : Content)
    → list_any (λ (placed : PlacedKey). same bytes placed.key) (keys_at p token at content) ≡ list_any (λ (k : DecoratedKey). nat_eq k.token token && same bytes k.key) (map (decorated_key p) content)
keys_known p token bytes at [] = refl
keys_known p token bytes at (one ∷ content) = by (nat_eq (token_of p one.0) token) (keys_known p token bytes (at + length (partition_bytes one.0 one.1)) content)
  where
    rest : List PlacedKey
    rest = keys_at p token (at + length (partition_bytes one.0 one.1)) content

    others : Bool
    others = list_any (λ (k : DecoratedKey). nat_eq k.token token && same bytes k.key) (map (decorated_key p) content)

    by : (b : Bool) → list_any (λ (placed : PlacedKey). same bytes placed.key) rest ≡ others
        → list_any (λ (placed : PlacedKey). same bytes placed.key) ((cond b (record { place = at; key = one.0 } ∷ []) []) ++ rest) ≡ ((b && same bytes one.0) || others)
    by true is = ap (λ c. same bytes one.0 || c) is
    by false is = is

-- **Without the index each key of a file is a hit.**
pub unindexed_hit : (p : Partitioner) (token : ℕ) (bytes : List ℕ) (was_given : ℕ → Bool) (at : ℕ) (content : Content)
    → hit_in_file was_given false (keys_at p token at content) bytes ≡ list_any (eq_by_cmp decorated_cmp (key_with token bytes)) (map (decorated_key p) content)
unindexed_hit p token bytes was_given at content =
    hit_without_index was_given (keys_at p token at content) bytes
    ∙ keys_known p token bytes at content
    ∙ alike_any (λ (k : DecoratedKey). nat_eq k.token token && same bytes k.key) (eq_by_cmp decorated_cmp (key_with token bytes)) (is_key token bytes) (map (decorated_key p) content)

-- ---- offsets tell keys apart

abbrev Row : Type 0
Row = Pair × DecoratedKey

abbrev RowsRise : List Row → Type 0
RowsRise [] = Unit {0}
RowsRise (x ∷ xs) = AllByRecursion (λ (y : Row). x.0.place < y.0.place) xs × RowsRise xs

all_behind : (p : Partitioner) (place at : ℕ) (content : Content) → place < at → AllByRecursion (λ (y : Row). place < y.0.place) (zip (pairs_from p at content) (map (decorated_key p) content))
all_behind p place at [] lt = tt
all_behind p place at (one ∷ content) lt = (lt, all_behind p place (at + length (partition_bytes one.0 one.1)) content (omega (arith, lt)))

-- partitions stand one after another
rows_rise : (p : Partitioner) (at : ℕ) (content : Content) → RowsRise (zip (pairs_from p at content) (map (decorated_key p) content))
rows_rise p at [] = tt
rows_rise p at (one ∷ content) = (
  all_behind p at (at + length (partition_bytes one.0 one.1)) content (omega (arith, partition_length one.0 one.1)),
  rows_rise p (at + length (partition_bytes one.0 one.1)) content,
)

lower : (x y : ℕ) → x < y → nat_eq x y ≡ false
lower x y lt = grind (arith, nat_tests)

higher : (x y : ℕ) → x < y → nat_eq y x ≡ false
higher x y lt = grind (arith, nat_tests)

and_false : (b : Bool) → (b && false) ≡ false
and_false true = refl
and_false false = refl

apart : (x y : Pair) → x.place < y.place → (is_pair x.token x.place y ≡ false) × (is_pair y.token y.place x ≡ false)
apart x y lt = (
  ap (λ b. nat_eq y.token x.token && b) (higher x.place y.place lt) ∙ and_false (nat_eq y.token x.token),
  ap (λ b. nat_eq x.token y.token && b) (lower x.place y.place lt) ∙ and_false (nat_eq x.token y.token),
)

none_behind : (test : DecoratedKey → Bool) (e : Row) (es : List Row) → AllByRecursion (λ (y : Row). e.0.place < y.0.place) es → list_any (is_pair e.0.token e.0.place) (pairs_of test es) ≡ false
none_behind test e [] all = refl
none_behind test e (y ∷ es) all = by (test y.1) (none_behind test e es all.1)
  where
    by : (b : Bool) → list_any (is_pair e.0.token e.0.place) (pairs_of test es) ≡ false
        → list_any (is_pair e.0.token e.0.place) (map (λ (x : Row). x.0) (cond b (y ∷ filter (λ (x : Row). test x.1) es) (filter (λ (x : Row). test x.1) es))) ≡ false
    by true rest = ap₂ (λ x y. x || y) (apart e.0 y.0 all.0).0 rest
    by false rest = rest

-- of rows in the order of their offsets, the pair of one is among those of the rows that pass where that one passes
own_pairs : (test : DecoratedKey → Bool) (es : List Row) → RowsRise es → AllByRecursion (λ (e : Row). list_any (is_pair e.0.token e.0.place) (pairs_of test es) ≡ test e.1) es
own_pairs test [] rise = tt
own_pairs test (e ∷ es) rise = (head (test e.1) refl, tail es rise.0 (own_pairs test es rise.1))
  where
    kept : Bool → List Pair
    kept b = map (λ (x : Row). x.0) (cond b (e ∷ filter (λ (x : Row). test x.1) es) (filter (λ (x : Row). test x.1) es))

    head : (b : Bool) → test e.1 ≡ b → list_any (is_pair e.0.token e.0.place) (kept (test e.1)) ≡ test e.1
    head true is = ap (λ b. list_any (is_pair e.0.token e.0.place) (kept b)) is ∙ ap (λ b. b || list_any (is_pair e.0.token e.0.place) (pairs_of test es)) (pair_itself e.0) ∙ sym is
    head false is = ap (λ b. list_any (is_pair e.0.token e.0.place) (kept b)) is ∙ none_behind test e es rise.0 ∙ sym is

    one : (y : Row) (b : Bool) → e.0.place < y.0.place → list_any (is_pair y.0.token y.0.place) (pairs_of test es) ≡ test y.1 → list_any (is_pair y.0.token y.0.place) (kept b) ≡ test y.1
    one y true before is = ap (λ b. b || list_any (is_pair y.0.token y.0.place) (pairs_of test es)) (apart e.0 y.0 before).1 ∙ is
    one y false before is = is

    tail : (xs : List Row) → AllByRecursion (λ (y : Row). e.0.place < y.0.place) xs → AllByRecursion (λ (y : Row). list_any (is_pair y.0.token y.0.place) (pairs_of test es) ≡ test y.1) xs
        → AllByRecursion (λ (y : Row). list_any (is_pair y.0.token y.0.place) (kept (test e.1)) ≡ test y.1) xs
    tail [] above all = tt
    tail (y ∷ xs) above all = (one y (test e.1) above.0 all.0, tail xs above.1 all.1)

-- ---- a data file with the index

keys_given : (p : Partitioner) (token : ℕ) (f : ℕ → List ℕ → Bool) (at : ℕ) (content : Content)
    → list_any (λ (placed : PlacedKey). f placed.place placed.key) (keys_at p token at content) ≡ list_any (λ (e : Row). nat_eq e.0.token token && f e.0.place e.1.key) (zip (pairs_from p at content) (map (decorated_key p) content))
keys_given p token f at [] = refl
keys_given p token f at (one ∷ content) = by (nat_eq (token_of p one.0) token) (keys_given p token f (at + length (partition_bytes one.0 one.1)) content)
  where
    next : ℕ
    next = at + length (partition_bytes one.0 one.1)

    others : Bool
    others = list_any (λ (e : Row). nat_eq e.0.token token && f e.0.place e.1.key) (zip (pairs_from p next content) (map (decorated_key p) content))

    by : (b : Bool) → list_any (λ (placed : PlacedKey). f placed.place placed.key) (keys_at p token next content) ≡ others
        → list_any (λ (placed : PlacedKey). f placed.place placed.key) ((cond b (record { place = at; key = one.0 } ∷ []) []) ++ keys_at p token next content) ≡ ((b && f at one.0) || others)
    by true is = ap (λ c. f at one.0 || c) is
    by false is = is

keys_alone : (p : Partitioner) (g : DecoratedKey → Bool) (at : ℕ) (content : Content) → list_any (λ (e : Row). g e.1) (zip (pairs_from p at content) (map (decorated_key p) content)) ≡ list_any g (map (decorated_key p) content)
keys_alone p g at [] = refl
keys_alone p g at (one ∷ content) = ap (λ b. g (decorated_key p one) || b) (keys_alone p g (at + length (partition_bytes one.0 one.1)) content)

tokens_alike : (p : Partitioner) (at : ℕ) (content : Content) → AllByRecursion (λ (e : Row). e.0.token ≡ e.1.token) (zip (pairs_from p at content) (map (decorated_key p) content))
tokens_alike p at [] = tt
tokens_alike p at (one ∷ content) = (refl, tokens_alike p (at + length (partition_bytes one.0 one.1)) content)

-- **With the index the hits of a file are those whose pairs were given.**
pub indexed_hit : (p : Partitioner) (token : ℕ) (bytes : List ℕ) (test : DecoratedKey → Bool) (was_given : ℕ → Bool) (at : ℕ) (content : Content)
    → ((place : ℕ) → was_given place ≡ list_any (is_pair token place) (pairs_of test (zip (pairs_from p at content) (map (decorated_key p) content))))
    → (test (key_with token bytes) ≡ true → list_any (eq_by_cmp decorated_cmp (key_with token bytes)) (map (decorated_key p) content) ≡ true)
    → hit_in_file was_given true (keys_at p token at content) bytes ≡ test (key_with token bytes)
indexed_hit p token bytes test was_given at content given there =
    keys_given p token (λ place key. same bytes key && was_given place) at content
    ∙ same_any (λ (e : Row). nat_eq e.0.token token && (same bytes e.1.key && was_given e.0.place)) (λ (e : Row). (nat_eq e.1.token token && same bytes e.1.key) && test e.1) rows
    (each rows (tokens_alike p at content) (own_pairs test rows (rows_rise p at content)))
    ∙ keys_alone p (λ (k : DecoratedKey). (nat_eq k.token token && same bytes k.key) && test k) at content
    ∙ one_key token bytes test (map (decorated_key p) content) there
  where
    rows : List Row
    rows = zip (pairs_from p at content) (map (decorated_key p) content)

    and_tests : (b c : Bool) (s g t : Bool) → b ≡ c → (b ≡ true → g ≡ t) → (b && (s && g)) ≡ ((c && s) && t)
    and_tests true true s g t alike is = ap (λ x. s && x) (is refl)
    and_tests true false s g t alike is = cc
    and_tests false true s g t alike is = cc
    and_tests false false s g t alike is = refl

    one : (e : Row) → e.0.token ≡ e.1.token → list_any (is_pair e.0.token e.0.place) (pairs_of test rows) ≡ test e.1 → (nat_eq e.0.token token && (same bytes e.1.key && was_given e.0.place)) ≡ ((nat_eq e.1.token token && same bytes e.1.key) && test e.1)
    one e alike own =
        and_tests (nat_eq e.0.token token) (nat_eq e.1.token token) (same bytes e.1.key) (was_given e.0.place) (test e.1) (ap (λ n. nat_eq n token) alike)
        (λ is. given e.0.place ∙ ap (λ n. list_any (is_pair n e.0.place) (pairs_of test rows)) (sym (equal_numbers e.0.token token is)) ∙ own)

    each : (xs : List Row) → AllByRecursion (λ (e : Row). e.0.token ≡ e.1.token) xs → AllByRecursion (λ (e : Row). list_any (is_pair e.0.token e.0.place) (pairs_of test rows) ≡ test e.1) xs
        → AllByRecursion (λ (e : Row). (nat_eq e.0.token token && (same bytes e.1.key && was_given e.0.place)) ≡ ((nat_eq e.1.token token && same bytes e.1.key) && test e.1)) xs
    each [] alike own = tt
    each (e ∷ xs) alike own = (one e alike.0 own.0, each xs alike.1 own.1)
