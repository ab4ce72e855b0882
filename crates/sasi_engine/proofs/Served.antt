-- Which tokens the relations of a plan have.
use Rattle.std.proofs.Common.{◌≡◌, ℕ, zero, suc, ◌+◌, ◌<◌, ◌≤◌, Bool, true, false, cond, ◌&&◌, ◌||◌, List, [], ◌∷◌, ◌++◌, length, map, drop, get_or, slice_get, take, Option, None, Some, refl, sym, ap, ap₂, ◌∙◌, arith, length-append}
use Rattle.std.proofs.lemmas.List.Folds.{list_all-append}
use Rattle.std.specs.List.{AllByRecursion, list_all, list_any}
use Rattle.sasi_types.specs.declared.partitioner.Partitioner.{Partitioner}
use Rattle.sasi_datawrite.specs.Format.{key_pairs}
use Rattle.sasi_layout.specs.Flushed.{contents_of}
use Rattle.sasi_ranges.specs.declared.entry.Entry.{Entry}
use Rattle.sasi_ranges.specs.Entries.{has_token}
use Rattle.sasi_ranges.specs.Lists.{each_relation_has, list_at, relation_has}
use Rattle.sasi_candidates.specs.Costs.{has_index}
use Rattle.sasi_candidates.specs.Parts.{Part}
use Rattle.sasi_hits.specs.Pairs.{entries_of}
use Rattle.sasi_engine.specs.Asked.{Asked, first_lacking, has_hit, hit_pairs, indexed_in}
use Rattle.sasi_engine.specs.HitLists.{column_of, columns_of, hit_lists, key_count, key_list, own_count, own_lists, own_positions, part_lists, part_positions, position_rows, serving}
use Rattle.sasi_engine.specs.Views.{IsDecorated}
use Rattle.sasi_engine.proofs.TokenTests.{lacking_has, own_has}

-- ---- lists by their positions

at_drop : (n : ℕ) (ls rest : List (List Entry)) (l : List Entry) → drop n ls ≡ l ∷ rest → list_at ls n ≡ l
at_drop zero [] rest l is = cc
at_drop zero (x ∷ ls) rest l is = cc
at_drop (suc n) [] rest l is = cc
at_drop (suc n) (x ∷ ls) rest l is = at_drop n ls rest l is

next_drop : (n : ℕ) (ls rest : List (List Entry)) (l : List Entry) → drop n ls ≡ l ∷ rest → drop (suc n) ls ≡ rest
next_drop zero [] rest l is = cc
next_drop zero (x ∷ ls) rest l is = cc
next_drop (suc n) [] rest l is = cc
next_drop (suc n) (x ∷ ls) rest l is = next_drop n ls rest l is

behind_drop : (n : ℕ) (ls front rest : List (List Entry)) → drop n ls ≡ front ++ rest → drop (n + length front) ls ≡ rest
behind_drop n ls [] rest is = let same : n + 0 ≡ n = omega arith in ap (λ k. drop k ls) same ∙ is
behind_drop n ls (l ∷ front) rest is =
    let same : n + suc (length front) ≡ suc n + length front = omega arith in
    ap (λ k. drop k ls) same ∙ behind_drop (suc n) ls front rest (next_drop n ls (front ++ rest) l is)

-- ---- one part

module _ (p : Partitioner) (token : ℕ) (ls : List (List Entry)) (at : ℕ) (part : Part) (own : IsDecorated p part.origin part.holds) where
  abbrev bits_of : List Asked → List Bool
  bits_of asked = map (λ (a : Asked). has_index a.index part.origin) asked

  -- the list of the keys serves a relation whose index the part lacks
  abbrev ServesKeys : ℕ → Asked → Type 0
  ServesKeys keys a = has_index a.index part.origin ≡ false → has_token token (list_at ls keys) ≡ has_hit token a part

  own_served : (keys next leaf : ℕ) (asked : List Asked) (rest : List (List Entry)) → drop next ls ≡ own_lists p at part leaf asked ++ rest → AllByRecursion (ServesKeys keys) asked
      → (i : ℕ) (a : Asked) → slice_get asked i ≡ Some a → has_token token (list_at ls (get_or (own_positions keys next (bits_of asked)) i 0)) ≡ has_hit token a part
  own_served keys next leaf [] rest is all i a listed = cc
  own_served keys next leaf (b ∷ asked) rest is all i a listed =
      by (has_index b.index part.origin) refl is i listed (own_served keys (suc next) (suc leaf) asked rest) (λ lists. own_served keys next (suc leaf) asked rest lists all.1)
    where
      mine : List Entry
      mine = entries_of leaf at (hit_pairs p b part)

      by : (t : Bool) → has_index b.index part.origin ≡ t
          → drop next ls ≡ (cond t (mine ∷ own_lists p at part (suc leaf) asked) (own_lists p at part (suc leaf) asked)) ++ rest
          → (j : ℕ) → slice_get (b ∷ asked) j ≡ Some a
          → (drop (suc next) ls ≡ own_lists p at part (suc leaf) asked ++ rest → AllByRecursion (ServesKeys keys) asked → (k : ℕ) (c : Asked) → slice_get asked k ≡ Some c → has_token token (list_at ls (get_or (own_positions keys (suc next) (bits_of asked)) k 0)) ≡ has_hit token c part)
          → (drop next ls ≡ own_lists p at part (suc leaf) asked ++ rest → (k : ℕ) (c : Asked) → slice_get asked k ≡ Some c → has_token token (list_at ls (get_or (own_positions keys next (bits_of asked)) k 0)) ≡ has_hit token c part)
          → has_token token (list_at ls (get_or (own_positions keys next (t ∷ bits_of asked)) j 0)) ≡ has_hit token a part
      by true has lists zero is_a one other =
          let same : b ≡ a = cc in
          ap (has_token token) (at_drop next ls (own_lists p at part (suc leaf) asked ++ rest) mine lists) ∙ own_has p token part own b leaf at ∙ ap (λ (c : Asked). has_hit token c part) same
      by true has lists (suc j) is_a one other = one (next_drop next ls (own_lists p at part (suc leaf) asked ++ rest) mine lists) all.1 j a is_a
      by false has lists zero is_a one other = (let same : b ≡ a = cc in all.0 has ∙ ap (λ (c : Asked). has_hit token c part) same)
      by false has lists (suc j) is_a one other = other lists j a is_a

  -- ---- the list of the keys

  all_indexed : (n keys : ℕ) (asked : List Asked) → first_lacking n (bits_of asked) ≡ None → AllByRecursion (ServesKeys keys) asked
  all_indexed n keys [] none = tt
  all_indexed n keys (a ∷ asked) none = by (has_index a.index part.origin) refl none (all_indexed (suc n) keys asked)
    where
      by : (t : Bool) → has_index a.index part.origin ≡ t → first_lacking n (t ∷ bits_of asked) ≡ None → (first_lacking (suc n) (bits_of asked) ≡ None → AllByRecursion (ServesKeys keys) asked) → AllByRecursion (ServesKeys keys) (a ∷ asked)
      by true has is rest = ((λ lacks. (let no : true ≡ false = sym has ∙ lacks in cc)), rest is)
      by false lacks is rest = cc

  served_by : (keys leaf : ℕ) (asked : List Asked) → list_at ls keys ≡ entries_of leaf at (key_pairs p (contents_of part.holds)) → AllByRecursion (ServesKeys keys) asked
  served_by keys leaf [] is = tt
  served_by keys leaf (a ∷ asked) is = ((λ lacks. ap (has_token token) is ∙ lacking_has p token part own a lacks leaf at), served_by keys leaf asked is)

  -- each relation's list has the token where the relation has a hit with it
  part_served : (from : ℕ) (asked : List Asked) (rest : List (List Entry)) → drop from ls ≡ part_lists p asked at part ++ rest
      → (i : ℕ) (a : Asked) → slice_get asked i ≡ Some a → has_token token (list_at ls (get_or (part_positions from (indexed_in asked part)) i 0)) ≡ has_hit token a part
  part_served from asked rest is = by (first_lacking 0 (bits_of asked)) refl is
    where
      by : (o : Option ℕ) → first_lacking 0 (bits_of asked) ≡ o → drop from ls ≡ (key_list p at part o ++ own_lists p at part 0 asked) ++ rest
          → (i : ℕ) (a : Asked) → slice_get asked i ≡ Some a → has_token token (list_at ls (get_or (own_positions from (from + key_count o) (bits_of asked)) i 0)) ≡ has_hit token a part
      by None none lists =
          (let same : from ≡ from + 0 = omega arith in
          own_served from (from + 0) 0 asked rest (ap (λ k. drop k ls) (sym same) ∙ lists) (all_indexed 0 from asked none))
      by (Some leaf) some lists =
          (let keys : List Entry = entries_of leaf at (key_pairs p (contents_of part.holds)) in
          let one : suc from ≡ from + 1 = omega arith in
          own_served from (from + 1) 0 asked rest (ap (λ k. drop k ls) (sym one) ∙ next_drop from ls (own_lists p at part 0 asked ++ rest) keys lists)
          (served_by from leaf asked (at_drop from ls (own_lists p at part 0 asked ++ rest) keys lists)))

-- ---- all parts

own_length : (p : Partitioner) (at leaf : ℕ) (part : Part) (asked : List Asked) → length (own_lists p at part leaf asked) ≡ own_count (indexed_in asked part)
own_length p at leaf part [] = refl
own_length p at leaf part (a ∷ asked) = by (has_index a.index part.origin) (own_length p at (suc leaf) part asked)
  where
    by : (t : Bool) → length (own_lists p at part (suc leaf) asked) ≡ own_count (indexed_in asked part)
        → length (cond t (entries_of leaf at (hit_pairs p a part) ∷ own_lists p at part (suc leaf) asked) (own_lists p at part (suc leaf) asked)) ≡ own_count (t ∷ indexed_in asked part)
    by true rest = ap suc rest
    by false rest = rest

key_length : (p : Partitioner) (at : ℕ) (part : Part) (o : Option ℕ) → length (key_list p at part o) ≡ key_count o
key_length p at part None = refl
key_length p at part (Some leaf) = refl

lists_length : (p : Partitioner) (asked : List Asked) (at : ℕ) (part : Part) → length (part_lists p asked at part) ≡ key_count (first_lacking 0 (indexed_in asked part)) + own_count (indexed_in asked part)
lists_length p asked at part =
    length-append (key_list p at part (first_lacking 0 (indexed_in asked part))) (own_lists p at part 0 asked)
    ∙ ap₂ (λ a b. a + b) (key_length p at part (first_lacking 0 (indexed_in asked part))) (own_length p at 0 part asked)

-- each part is as `IsDecorated` says
abbrev pub AreDecorated : Partitioner → List Part → Type 0
AreDecorated p parts = AllByRecursion (λ (part : Part). IsDecorated p part.origin part.holds) parts

module _ (p : Partitioner) (token : ℕ) (ls : List (List Entry)) (asked : List Asked) (i : ℕ) (a : Asked) (listed : slice_get asked i ≡ Some a) where
  parts_served : (from at : ℕ) (parts : List Part) → AreDecorated p parts → drop from ls ≡ hit_lists p asked at parts → relation_has ls token (column_of (position_rows from (map (indexed_in asked) parts)) i) ≡ list_any (has_hit token a) parts
  parts_served from at [] own is = refl
  parts_served from at (part ∷ parts) own is =
      let next = from + (key_count (first_lacking 0 (indexed_in asked part)) + own_count (indexed_in asked part)) in
      ap₂ (λ x y. x || y) (part_served p token ls at part own.0 from asked (hit_lists p asked (suc at) parts) is i a listed)
      (parts_served next (suc at) parts own.1
      (ap (λ n. drop (from + n) ls) (sym (lists_length p asked at part)) ∙ behind_drop from ls (part_lists p asked at part) (hit_lists p asked (suc at) parts) is))

-- ---- all relations

item_at : {A : Type 0} (n : ℕ) (xs : List A) → n < length xs → (x : A) × (slice_get xs n ≡ Some x) × (take (suc n) xs ≡ take n xs ++ x ∷ [])
item_at n [] lt = absurd (omega (arith, lt))
item_at zero (x ∷ xs) lt = (x, refl, refl)
item_at (suc n) (x ∷ xs) lt = let rest = item_at n xs (omega (arith, lt)) in (rest.0, rest.1, ap (λ l. x ∷ l) rest.2)

whole_take : {A : Type 0} (xs : List A) → take (length xs) xs ≡ xs
whole_take [] = refl
whole_take (x ∷ xs) = ap (λ l. x ∷ l) (whole_take xs)

module _ (p : Partitioner) (token : ℕ) (asked : List Asked) (parts : List Part) (own : AreDecorated p parts) where
  columns_served : (n : ℕ) → n ≤ length asked
      → list_all (relation_has (hit_lists p asked 0 parts) token) (columns_of (position_rows 0 (map (indexed_in asked) parts)) n) ≡ list_all (λ (a : Asked). list_any (has_hit token a) parts) (take n asked)
  columns_served zero le = refl
  columns_served (suc n) le =
      let rows = position_rows 0 (map (indexed_in asked) parts) in
      let item = item_at n asked (omega (arith, le)) in
      let test = relation_has (hit_lists p asked 0 parts) token in
      let met : Asked → Bool = λ a. list_any (has_hit token a) parts in
      list_all-append test (columns_of rows n) (column_of rows n ∷ [])
      ∙ ap₂ (λ x y. x && (y && true)) (columns_served n (omega (arith, le))) (parts_served p token (hit_lists p asked 0 parts) asked n item.0 item.1 0 0 parts own refl)
      ∙ sym (list_all-append met (take n asked) (item.0 ∷ []))
      ∙ ap (list_all met) (sym item.2)

  -- **Every relation has a token where each has a hit with it in some part.**
  pub relations_have : each_relation_has (serving asked parts) (hit_lists p asked 0 parts) token ≡ list_all (λ (a : Asked). list_any (has_hit token a) parts) asked
  relations_have = columns_served (length asked) (omega arith) ∙ ap (list_all (λ (a : Asked). list_any (has_hit token a) parts)) (whole_take asked)

-- ---- how many there are

pub columns_long : (rows : List (List ℕ)) (n : ℕ) → length (columns_of rows n) ≡ n
columns_long rows zero = refl
columns_long rows (suc n) = omega (arith, length-append (columns_of rows n) (column_of rows n ∷ []), columns_long rows n)
