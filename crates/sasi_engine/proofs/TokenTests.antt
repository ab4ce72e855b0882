-- Which tokens the lists of hits have.
use Rattle.std.proofs.Common.{◌≡◌, ℕ, suc, ◌+◌, length, Bool, true, false, cond, ◌&&◌, ◌||◌, nat_eq, is_some, List, [], ◌∷◌, map, refl, sym, ap, ◌∙◌}
use Rattle.std.proofs.lemmas.Cmp.{tied_itself}
use Rattle.std.specs.FinMap as map_
use Rattle.std.specs.FinMap.Entries.{is_some-find}
use Rattle.std.specs.List.{AllByRecursion, filter, list_any, zip}
use Rattle.std.specs.Ordering.{eq_by_cmp, is_eq}
use Rattle.sasi_types.specs.declared.decorated_key.DecoratedKey.{DecoratedKey}
use Rattle.sasi_types.specs.declared.partitioner.Partitioner.{Partitioner}
use Rattle.sasi_types.specs.declared.tree.Pair.{Pair}
use Rattle.sasi_types.specs.DecoratedKey.{decorated_cmp, decorated_total}
use Rattle.sasi_types.specs.Token.{token_of}
use Rattle.sasi_model.specs.Abbreviations.{Partitions}
use Rattle.sasi_model.specs.State.{Index}
use Rattle.sasi_model.specs.Conditions.{Search}
use Rattle.sasi_datawrite.specs.Format.{Content, decorated_key, header, key_pairs, pairs_from, partition_bytes}
use Rattle.sasi_layout.specs.Flushed.{contents_of}
use Rattle.sasi_ranges.specs.Entries.{has_token}
use Rattle.sasi_candidates.specs.Costs.{has_index}
use Rattle.sasi_candidates.specs.Parts.{Disk, Memory, Origin, Part, hit_at, hit_on_disk}
use Rattle.sasi_candidates.specs.Searches.{keyed}
use Rattle.sasi_hits.specs.MapHits.{placed}
use Rattle.sasi_hits.specs.Pairs.{entries_of}
use Rattle.sasi_engine.specs.Asked.{Asked, has_hit, hit_pairs, is_hit, keys_of, placed_in}
use Rattle.sasi_engine.specs.Views.{IsDecorated}

-- ---- tests of lists

pub mapped_any : {A B : Type 0} (f : B → Bool) (g : A → B) (xs : List A) → list_any f (map g xs) ≡ list_any (λ x. f (g x)) xs
mapped_any f g [] = refl
mapped_any f g (x ∷ xs) = ap (λ b. f (g x) || b) (mapped_any f g xs)

kept : (c r s : Bool) → r ≡ s → (c || r) ≡ ((c && true) || s)
kept true r s e = refl
kept false r s e = e

passed : (c r s : Bool) → r ≡ s → r ≡ ((c && false) || s)
passed true r s e = e
passed false r s e = e

pub filtered_any : {A : Type 0} (f test : A → Bool) (xs : List A) → list_any f (filter test xs) ≡ list_any (λ x. f x && test x) xs
filtered_any f test [] = refl
filtered_any f test (x ∷ xs) = by (test x) (filtered_any f test xs)
  where
    by : (b : Bool) → list_any f (filter test xs) ≡ list_any (λ y. f y && test y) xs → list_any f (cond b (x ∷ filter test xs) (filter test xs)) ≡ ((f x && b) || list_any (λ y. f y && test y) xs)
    by true rest = kept (f x) (list_any f (filter test xs)) (list_any (λ y. f y && test y) xs) rest
    by false rest = passed (f x) (list_any f (filter test xs)) (list_any (λ y. f y && test y) xs) rest

-- tests that agree on each item
pub same_any : {A : Type 0} (f g : A → Bool) (xs : List A) → AllByRecursion (λ x. f x ≡ g x) xs → list_any f xs ≡ list_any g xs
same_any f g [] all = refl
same_any f g (x ∷ xs) all = ap (λ b. b || list_any f xs) all.0 ∙ ap (λ b. g x || b) (same_any f g xs all.1)

-- ---- keys of a map

-- a map has the keys of its entries
pub there_among : (m : Partitions) (q : DecoratedKey) → is_some (map_.get m q) ≡ list_any (eq_by_cmp decorated_cmp q) (keys_of m)
there_among m q = ap is_some (map_.get-entries m q) ∙ is_some-find decorated_cmp q (map_.entries m)

more_tests : (x : DecoratedKey) (xs ys : List DecoratedKey) → AllByRecursion (λ q. list_any (eq_by_cmp decorated_cmp q) xs ≡ true) ys → AllByRecursion (λ q. (eq_by_cmp decorated_cmp q x || list_any (eq_by_cmp decorated_cmp q) xs) ≡ true) ys
more_tests x xs [] all = tt
more_tests x xs (y ∷ ys) all = (by (eq_by_cmp decorated_cmp y x) all.0, more_tests x xs ys all.1)
  where
    by : (b : Bool) → list_any (eq_by_cmp decorated_cmp y) xs ≡ true → (b || list_any (eq_by_cmp decorated_cmp y) xs) ≡ true
    by true e = refl
    by false e = e

pub own_key : (q : DecoratedKey) → eq_by_cmp decorated_cmp q q ≡ true
own_key q = ap is_eq (tied_itself decorated_total q)

each_among : (xs : List DecoratedKey) → AllByRecursion (λ q. list_any (eq_by_cmp decorated_cmp q) xs ≡ true) xs
each_among [] = tt
each_among (x ∷ xs) = (ap (λ b. b || list_any (eq_by_cmp decorated_cmp x) xs) (own_key x), more_tests x xs xs (each_among xs))

each_there : (m : Partitions) (xs : List DecoratedKey) → AllByRecursion (λ q. list_any (eq_by_cmp decorated_cmp q) (keys_of m) ≡ true) xs → AllByRecursion (λ q. is_some (map_.get m q) ≡ true) xs
each_there m [] all = tt
each_there m (x ∷ xs) all = (there_among m x ∙ all.0, each_there m xs all.1)

pub keys_there : (m : Partitions) → AllByRecursion (λ q. is_some (map_.get m q) ≡ true) (keys_of m)
keys_there m = each_there m (keys_of m) (each_among (keys_of m))

-- ---- tokens of pairs

pub entries_token : (token leaf at : ℕ) (pairs : List Pair) → has_token token (entries_of leaf at pairs) ≡ list_any (λ (x : Pair). nat_eq x.token token) pairs
entries_token token leaf at [] = refl
entries_token token leaf at (x ∷ pairs) = ap (λ b. nat_eq x.token token || b) (entries_token token leaf at pairs)

placed_token : (token at : ℕ) (keys : List DecoratedKey) → list_any (λ (x : Pair). nat_eq x.token token) (placed at keys) ≡ list_any (λ (q : DecoratedKey). nat_eq q.token token) keys
placed_token token at [] = refl
placed_token token at (q ∷ keys) = ap (λ b. nat_eq q.token token || b) (placed_token token (suc at) keys)

module _ (p : Partitioner) (token : ℕ) where
  pairs_token : (at : ℕ) (content : Content) → list_any (λ (x : Pair). nat_eq x.token token) (pairs_from p at content) ≡ list_any (λ (q : DecoratedKey). nat_eq q.token token) (map (decorated_key p) content)
  pairs_token at [] = refl
  pairs_token at (one ∷ content) = ap (λ b. nat_eq (token_of p one.0) token || b) (pairs_token (at + length (partition_bytes one.0 one.1)) content)

  keyed_token : (test : DecoratedKey → Bool) (at : ℕ) (content : Content)
      → list_any (λ (e : Pair × DecoratedKey). nat_eq e.0.token token && test e.1) (zip (pairs_from p at content) (map (decorated_key p) content)) ≡ list_any (λ (q : DecoratedKey). nat_eq q.token token && test q) (map (decorated_key p) content)
  keyed_token test at [] = refl
  keyed_token test at (one ∷ content) = ap (λ b. (nat_eq (token_of p one.0) token && test (decorated_key p one)) || b) (keyed_token test (at + length (partition_bytes one.0 one.1)) content)

  -- the pairs of the keys that pass a test have the tokens of these keys
  placed_has : (origin : Origin) (m : Partitions) → IsDecorated p origin m → (test : DecoratedKey → Bool)
      → list_any (λ (x : Pair). nat_eq x.token token) (placed_in p origin m test) ≡ list_any (λ (q : DecoratedKey). nat_eq q.token token && test q) (keys_of m)
  placed_has Memory m own test = placed_token token 0 (filter test (keys_of m)) ∙ filtered_any (λ (q : DecoratedKey). nat_eq q.token token) test (keys_of m)
  placed_has (Disk columns) m own test =
      mapped_any (λ (x : Pair). nat_eq x.token token) (λ (e : Pair × DecoratedKey). e.0) (filter (λ (e : Pair × DecoratedKey). test e.1) (keyed p (contents_of m)))
      ∙ filtered_any (λ (e : Pair × DecoratedKey). nat_eq e.0.token token) (λ (e : Pair × DecoratedKey). test e.1) (keyed p (contents_of m))
      ∙ keyed_token test (length header) (contents_of m)
      ∙ ap (list_any (λ (q : DecoratedKey). nat_eq q.token token && test q)) (sym own)

  -- **The list of a relation's hits in a part has the token where the relation has a hit with it.**
  pub own_has : (part : Part) → IsDecorated p part.origin part.holds → (a : Asked) (leaf at : ℕ) → has_token token (entries_of leaf at (hit_pairs p a part)) ≡ has_hit token a part
  own_has part own a leaf at = entries_token token leaf at (hit_pairs p a part) ∙ placed_has part.origin part.holds own (is_hit a part)

  -- ---- where the part lacks the index

  each_hit : (index : Index) (search : Search) (origin : Origin) (m : Partitions) (keys : List DecoratedKey) → has_index index origin ≡ false → AllByRecursion (λ q. is_some (map_.get m q) ≡ true) keys
      → AllByRecursion (λ (q : DecoratedKey). nat_eq q.token token ≡ (nat_eq q.token token && hit_at origin index search m q)) keys
  each_hit index search Memory m keys lacks there = cc
  each_hit index search (Disk columns) m [] lacks there = tt
  each_hit index search (Disk columns) m (q ∷ keys) lacks there = (
    by (nat_eq q.token token) (hit_at (Disk columns) index search m q) (ap (λ b. hit_on_disk b index search m q) lacks ∙ there.0),
    each_hit index search (Disk columns) m keys lacks there.1,
  )
    where
      by : (b h : Bool) → h ≡ true → b ≡ (b && h)
      by true h e = sym e
      by false h e = refl

  keys_token : (origin : Origin) (m : Partitions) → IsDecorated p origin m → (index : Index) → has_index index origin ≡ false
      → list_any (λ (x : Pair). nat_eq x.token token) (key_pairs p (contents_of m)) ≡ list_any (λ (q : DecoratedKey). nat_eq q.token token) (keys_of m)
  keys_token Memory m own index lacks = cc
  keys_token (Disk columns) m own index lacks = pairs_token (length header) (contents_of m) ∙ ap (list_any (λ (q : DecoratedKey). nat_eq q.token token)) (sym own)

  -- **Where a part lacks the index, the list of all keys has the token where the relation has a hit with it.**
  pub lacking_has : (part : Part) → IsDecorated p part.origin part.holds → (a : Asked) → has_index a.index part.origin ≡ false → (leaf at : ℕ)
      → has_token token (entries_of leaf at (key_pairs p (contents_of part.holds))) ≡ has_hit token a part
  lacking_has part own a lacks leaf at =
      entries_token token leaf at (key_pairs p (contents_of part.holds))
      ∙ keys_token part.origin part.holds own a.index lacks
      ∙ same_any (λ (q : DecoratedKey). nat_eq q.token token) (λ (q : DecoratedKey). nat_eq q.token token && is_hit a part q) (keys_of part.holds)
      (each_hit a.index a.search part.origin part.holds (keys_of part.holds) lacks (keys_there part.holds))
