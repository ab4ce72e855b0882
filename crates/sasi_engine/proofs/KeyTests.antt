-- Tests of the keys of maps, and the hits of all parts.
use Rattle.std.proofs.Common.{◌≡◌, ℕ, ◌≤◌, Bool, true, false, ◌&&◌, ◌||◌, nat_eq, is_some, List, [], ◌∷◌, length, map, Option, None, Some, refl, sym, ap, ◌∙◌}
use Rattle.std.proofs.lemmas.Bool.{and_from, and_parts, or_left, or_right}
use Rattle.std.specs.FinMap as map_
use Rattle.std.specs.List.{list_any}
use Rattle.std.specs.Ordering.{eq_by_cmp}
use Rattle.sasi_types.specs.declared.decorated_key.DecoratedKey.{DecoratedKey}
use Rattle.sasi_types.specs.DecoratedKey.{decorated_cmp}
use Rattle.sasi_cells.proofs.Laws.Decorated.{equal_keys}
use Rattle.sasi_cells.proofs.Laws.Maps.{get_merge_maps}
use Rattle.sasi_cells.specs.Maps.{joined, merge_maps, merged}
use Rattle.sasi_model.specs.Abbreviations.{Partitions}
use Rattle.sasi_model.specs.Cells.{Partition}
use Rattle.sasi_model.specs.Conditions.{Search}
use Rattle.sasi_model.specs.State.{Index}
use Rattle.sasi_candidates.specs.Parts.{Part, hit, maps_of}
use Rattle.sasi_candidates.proofs.Hits.{hit_merged}
use Rattle.sasi_engine.specs.Asked.{Asked, has_hit, is_hit, keys_of}
use Rattle.sasi_engine.proofs.TokenTests.{own_key, there_among}

-- ---- one map

among_passes : (q : DecoratedKey) (test : DecoratedKey → Bool) (xs : List DecoratedKey) → list_any (eq_by_cmp decorated_cmp q) xs ≡ true → test q ≡ true → list_any test xs ≡ true
among_passes q test [] among passes = cc
among_passes q test (x ∷ xs) among passes = by (eq_by_cmp decorated_cmp q x) refl among (λ later. among_passes q test xs later passes)
  where
    by : (b : Bool) → eq_by_cmp decorated_cmp q x ≡ b → (b || list_any (eq_by_cmp decorated_cmp q) xs) ≡ true → (list_any (eq_by_cmp decorated_cmp q) xs ≡ true → list_any test xs ≡ true) → (test x || list_any test xs) ≡ true
    by true same is later = or_left (test x) (list_any test xs) (ap test (sym (equal_keys q x same)) ∙ passes)
    by false other is later = or_right (test x) (list_any test xs) (later is)

-- a key that the map has passes a test of its keys
pub there_passes : (m : Partitions) (q : DecoratedKey) (test : DecoratedKey → Bool) → is_some (map_.get m q) ≡ true → test q ≡ true → list_any test (keys_of m) ≡ true
there_passes m q test there passes = among_passes q test (keys_of m) (sym (there_among m q) ∙ there) passes

-- one of the keys that passes
record Passes (test : DecoratedKey → Bool) (xs : List DecoratedKey) : Type 0 where
  pub key : DecoratedKey
  pub among : list_any (eq_by_cmp decorated_cmp key) xs ≡ true
  pub passes : test key ≡ true

some_passes : (test : DecoratedKey → Bool) (xs : List DecoratedKey) → list_any test xs ≡ true → Passes test xs
some_passes test [] some = cc
some_passes test (x ∷ xs) some = by (test x) refl some (some_passes test xs)
  where
    by : (b : Bool) → test x ≡ b → (b || list_any test xs) ≡ true → (list_any test xs ≡ true → Passes test xs) → Passes test (x ∷ xs)
    by true is any later = record { key = x; among = or_left (eq_by_cmp decorated_cmp x x) (list_any (eq_by_cmp decorated_cmp x) xs) (own_key x); passes = is }
    by false isnt any later =
        (let rest = later any in
        record { key = rest.key; among = or_right (eq_by_cmp decorated_cmp rest.key x) (list_any (eq_by_cmp decorated_cmp rest.key) xs) rest.among; passes = rest.passes })

-- ---- hits

joined_none : (before found : Option Partition) → before ≡ None → is_some (joined before found) ≡ true → is_some found ≡ true
joined_none before None is some = (let no : is_some before ≡ false = ap is_some is in let both : true ≡ false = sym some ∙ no in cc)
joined_none before (Some p) is some = refl

-- a hit is of a key that the part has
pub hit_there : (a : Asked) (part : Part) (q : DecoratedKey) → 1 ≤ length a.search.words → is_hit a part q ≡ true → is_some (map_.get part.holds q) ≡ true
hit_there a part q some is =
    joined_none (map_.get (map_.empty {R = decorated_cmp}) q) (map_.get part.holds q) (map_.get-empty decorated_cmp q)
    (ap is_some (sym (get_merge_maps map_.empty part.holds q)) ∙ hit_merged a.index a.search q some (part ∷ []) (or_left (hit a.index a.search q part) false is))

both : (b c : Bool) → (b ≡ true → c ≡ true) → (c ≡ true → b ≡ true) → b ≡ c
both true c there back = sym (there refl)
both false true there back = back refl
both false false there back = refl

module _ (a : Asked) (some : 1 ≤ length a.search.words) (token : ℕ) where
  -- the key has the token and is a hit in some of the parts
  abbrev pub is_hit_in : List Part → DecoratedKey → Bool
  is_hit_in parts q = nat_eq q.token token && list_any (hit a.index a.search q) parts

  -- a key with the token that is a hit in some part
  record HitSomewhere (parts : List Part) : Type 0 where
    pub key : DecoratedKey
    pub token_is : nat_eq key.token token ≡ true
    pub hit_is : list_any (hit a.index a.search key) parts ≡ true

  some_hit : (parts : List Part) → list_any (has_hit token a) parts ≡ true → HitSomewhere parts
  some_hit [] any = cc
  some_hit (part ∷ parts) any = by (has_hit token a part) refl any (some_hit parts)
    where
      by : (b : Bool) → has_hit token a part ≡ b → (b || list_any (has_hit token a) parts) ≡ true → (list_any (has_hit token a) parts ≡ true → HitSomewhere parts) → HitSomewhere (part ∷ parts)
      by true here any later =
          (let found = some_passes (λ (q : DecoratedKey). nat_eq q.token token && is_hit a part q) (keys_of part.holds) here in
          let parts_of = and_parts (nat_eq found.key.token token) (is_hit a part found.key) found.passes in
          record { key = found.key; token_is = parts_of.0; hit_is = or_left (hit a.index a.search found.key part) (list_any (hit a.index a.search found.key) parts) parts_of.1 })
      by false nowhere any later =
          (let rest = later any in
          record { key = rest.key; token_is = rest.token_is; hit_is = or_right (hit a.index a.search rest.key part) (list_any (hit a.index a.search rest.key) parts) rest.hit_is })

  hit_some : (q : DecoratedKey) (parts : List Part) → nat_eq q.token token ≡ true → list_any (hit a.index a.search q) parts ≡ true → list_any (has_hit token a) parts ≡ true
  hit_some q [] at any = cc
  hit_some q (part ∷ parts) at any = by (hit a.index a.search q part) refl any (hit_some q parts at)
    where
      by : (b : Bool) → hit a.index a.search q part ≡ b → (b || list_any (hit a.index a.search q) parts) ≡ true → (list_any (hit a.index a.search q) parts ≡ true → list_any (has_hit token a) parts ≡ true) → (has_hit token a part || list_any (has_hit token a) parts) ≡ true
      by true here any later =
          or_left (has_hit token a part) (list_any (has_hit token a) parts)
          (there_passes part.holds q (λ (x : DecoratedKey). nat_eq x.token token && is_hit a part x) (hit_there a part q some here) (and_from (nat_eq q.token token) (is_hit a part q) at here))
      by false nowhere any later = or_right (has_hit token a part) (list_any (has_hit token a) parts) (later any)

  -- **A relation has a hit with the token in some part where a key of the merge with this token is a hit in some part.**
  pub token_hits : (parts : List Part) → list_any (has_hit token a) parts ≡ list_any (is_hit_in parts) (keys_of (merged (maps_of parts)))
  token_hits parts = both (list_any (has_hit token a) parts) (list_any (is_hit_in parts) (keys_of (merged (maps_of parts))))
      (λ any.
      (let found = some_hit parts any in
      there_passes (merged (maps_of parts)) found.key (is_hit_in parts) (hit_merged a.index a.search found.key some parts found.hit_is)
      (and_from (nat_eq found.key.token token) (list_any (hit a.index a.search found.key) parts) found.token_is found.hit_is)))
      (λ any.
      (let found = some_passes (is_hit_in parts) (keys_of (merged (maps_of parts))) any in
      let parts_of = and_parts (nat_eq found.key.token token) (list_any (hit a.index a.search found.key) parts) found.passes in
      hit_some found.key parts parts_of.0 parts_of.1))
