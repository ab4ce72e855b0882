-- For callers: the keys of a token that all relations leave are those of its candidates.
use Rattle.std.proofs.Common.{◌≡◌, ℕ, zero, suc, ◌+◌, ◌≤◌, Bool, true, false, cond, ◌&&◌, ◌||◌, nat_eq, is_some, List, [], ◌∷◌, length, map, slice_get, slice_index_or, Option, None, Some, refl, sym, ap, ap₂, subst, ◌∙◌, arith}
use Rattle.std.proofs.lemmas.Bool.{and_parts}
use Rattle.std.proofs.lemmas.Bool.Decides.{nat_tests}
use Rattle.std.specs.FinMap as map_
use Rattle.std.specs.List.{AllByRecursion, enumerate_from, filter, list_all, list_any}
use Rattle.std.specs.List.Sorted.{IsStrictlySortedBy}
use Rattle.std.specs.Ordering.{eq_by_cmp}
use Rattle.sasi_types.specs.declared.decorated_key.DecoratedKey.{DecoratedKey}
use Rattle.sasi_types.specs.declared.partitioner.Partitioner.{Partitioner}
use Rattle.sasi_types.specs.DecoratedKey.{decorated_cmp}
use Rattle.sasi_types.specs.Key.{key_cmp}
use Rattle.sasi_cells.specs.Maps.{merged}
use Rattle.sasi_model.specs.Abbreviations.{Partitions}
use Rattle.sasi_model.specs.Cells.{Partition}
use Rattle.sasi_model.specs.Conditions.{Condition, OfKey, Indexed, Plain}
use Rattle.sasi_model.specs.Filters.{all_of, key_asked, leaves, where_of}
use Rattle.sasi_model.specs.Tokens.{same}
use Rattle.sasi_layout.specs.Flushed.{contents_of}
use Rattle.sasi_datawrite.specs.Format.{decorated_key, header}
use Rattle.sasi_dataread.specs.declared.token_keys.PlacedKey.{PlacedKey}
use Rattle.sasi_dataread.specs.PlacedKeys.{keys_at}
use Rattle.sasi_ranges.specs.declared.entry.Entry.{Entry}
use Rattle.sasi_ranges.specs.Lists.{each_relation_has, intersection_by}
use Rattle.sasi_candidates.specs.Candidates.{admits, is_candidate}
use Rattle.sasi_candidates.specs.Costs.{files_of, has_index, is_on_disk}
use Rattle.sasi_candidates.specs.Groups.{Group, candidates_in}
use Rattle.sasi_candidates.specs.Parts.{Disk, Memory, Origin, Part, hit, hit_at, hit_on_disk, maps_of}
use Rattle.sasi_candidates.proofs.Hits.{hit_merged}
use Rattle.sasi_narrow.specs.declared.part_hits.PartHits.{PartHits}
use Rattle.sasi_narrow.specs.declared.part_hits.PartHits.TheVariants.{File, Map}
use Rattle.sasi_narrow.specs.Narrowing.{AreThose, each_below, has_entry, hit_from, hit_in_file, hit_in_map, is_hit as is_hit_of, is_left, same_entry, some_hit}
use Rattle.sasi_narrow.proofs.NarrowingLaws.{same_keys}
use Rattle.sasi_engine.specs.Asked.{Asked, asked_of, hit_pairs, indexed_in, is_hit, keys_of, placed_in}
use Rattle.sasi_engine.specs.HitLists.{hit_lists, serving}
use Rattle.sasi_engine.specs.Parts.{HitsIn, OfFile, files_after, hits_at, hits_in, hits_of}
use Rattle.sasi_engine.specs.Parts as parts
use Rattle.sasi_engine.specs.TokenHits.{keys_in_files, row_keys}
use Rattle.sasi_engine.specs.TokenTurns.{with_token}
use Rattle.sasi_engine.specs.Views.{IsDecorated}
use Rattle.sasi_engine.proofs.EntryTests.{entry_there, is_entry, is_pair}
use Rattle.sasi_engine.proofs.GroupTests.{IsTold, tested}
use Rattle.sasi_engine.proofs.KeyPlaces.{alike_any, indexed_hit, key_with, map_hit, one_key, unindexed_hit}
use Rattle.sasi_engine.proofs.KeyTests.{hit_there}
use Rattle.sasi_engine.proofs.Looked.{HaveWords}
use Rattle.sasi_engine.proofs.Served.{AreDecorated}
use Rattle.sasi_engine.proofs.TokenTests.{filtered_any, mapped_any, there_among}

-- ---- lists by their positions

mapped_at : {A B : Type 0} (f : A → B) (xs : List A) (k : ℕ) (x : A) (d : B) → slice_get xs k ≡ Some x → slice_index_or (map f xs) k d ≡ f x
mapped_at f [] k x d is = cc
mapped_at f (y ∷ xs) zero x d is = cc
mapped_at f (y ∷ xs) (suc k) x d is = mapped_at f xs k x d is

all_at : {A : Type 0} (P : A → Type 0) (xs : List A) (k : ℕ) (x : A) → AllByRecursion P xs → slice_get xs k ≡ Some x → P x
all_at P [] k x all is = cc
all_at P (y ∷ xs) zero x all is = (let same : y ≡ x = cc in subst P same all.0)
all_at P (y ∷ xs) (suc k) x all is = all_at P xs k x all.1 is

from_zero : (k : ℕ) → 0 + k ≡ k
from_zero k = omega arith

and_swap : (b : Bool) → (true && b) ≡ (b && true)
and_swap true = refl
and_swap false = refl

and_over : (a b c : Bool) → ((a && b) && c) ≡ (a && (b && c))
and_over true b c = refl
and_over false b c = refl

each_shift : (n : ℕ) (t : ℕ → Bool) → each_below (suc n) t ≡ (t 0 && each_below n (λ k. t (suc k)))
each_shift zero t = and_swap (t 0)
each_shift (suc n) t = ap (λ b. b && t (suc n)) (each_shift n t) ∙ and_over (t 0) (each_below n (λ k. t (suc k))) (t (suc n))

each_listed : (test : Asked → Bool) (t : ℕ → Bool) (asked : List Asked) → ((leaf : ℕ) (a : Asked) → slice_get asked leaf ≡ Some a → t leaf ≡ test a) → each_below (length asked) t ≡ list_all test asked
each_listed test t [] tells = refl
each_listed test t (a ∷ asked) tells = each_shift (length asked) t ∙ ap₂ (λ b c. b && c) (tells 0 a refl) (each_listed test (λ k. t (suc k)) asked (λ leaf b is. tells (suc leaf) b is))

-- ---- where the hits of a part are

module _ (token : ℕ) (given : Entry → Bool) (keys : List (List PlacedKey)) (leaf : ℕ) (bytes : List ℕ) where
  abbrev hit_by : ℕ → HitsIn → Bool
  hit_by at (OfFile file bits) = hit_in_file (λ place. given (record { token = token; leaf = leaf; part = at; place = place })) (slice_index_or bits leaf false) (slice_index_or keys file []) bytes
  hit_by at (parts.OfMap found) = hit_in_map token (slice_index_or found leaf []) bytes

  abbrev any_by : ℕ → List HitsIn → Bool
  any_by at [] = false
  any_by at (h ∷ hs) = hit_by at h || any_by (at + 1) hs

  of_place : (at : ℕ) (h : PartHits) → is_hit_of token given keys leaf at h bytes ≡ hit_by at (hits_in h)
  of_place at (File file indexed) = refl
  of_place at (Map found) = refl

  of_places : (at : ℕ) (hs : List PartHits) → hit_from token given keys leaf at hs bytes ≡ any_by at (map hits_in hs)
  of_places at [] = refl
  of_places at (h ∷ hs) = ap₂ (λ b c. b || c) (of_place at h) (of_places (at + 1) hs)

  -- ---- one part

  module _ (p : Partitioner) (asked : List Asked) (a : Asked) (some : 1 ≤ length a.search.words) (listed : slice_get asked leaf ≡ Some a) where
    abbrev q : DecoratedKey
    q = key_with token bytes

    -- where the part has the relation's index, its hits with the token were given
    abbrev IsGiven : ℕ → Part → Type 0
    IsGiven at part = has_index a.index part.origin ≡ true → (place : ℕ) → given (record { token = token; leaf = leaf; part = at; place = place }) ≡ list_any (is_pair token place) (hit_pairs p a part)

    -- the keys of the token in a file
    abbrev HasKeys : ℕ → Part → Origin → Type 0
    HasKeys files part Memory = Unit {0}
    HasKeys files part (Disk columns) = slice_index_or keys files [] ≡ keys_at p token (length header) (contents_of part.holds)

    there : (part : Part) → is_hit a part q ≡ true → list_any (eq_by_cmp decorated_cmp q) (keys_of part.holds) ≡ true
    there part is = sym (there_among part.holds q) ∙ hit_there a part q some is

    on_disk : (at files : ℕ) (part : Part) (columns : List ℕ) → part.origin ≡ Disk columns → IsDecorated p part.origin part.holds → IsGiven at part → HasKeys files part (Disk columns)
        → hit_by at (OfFile files (indexed_in asked part)) ≡ is_hit a part q
    on_disk at files part columns origin own tells has =
        ap₂ (λ b ks. hit_in_file was_given b ks bytes) (mapped_at (λ (x : Asked). has_index x.index part.origin) asked leaf a false listed) has
        ∙ by (has_index a.index part.origin) refl
      where
        was_given : ℕ → Bool
        was_given place = given (record { token = token; leaf = leaf; part = at; place = place })

        keys_are : keys_of part.holds ≡ map (decorated_key p) (contents_of part.holds)
        keys_are = subst (λ (o : Origin). IsDecorated p o part.holds) origin own

        by : (b : Bool) → has_index a.index part.origin ≡ b → hit_in_file was_given (has_index a.index part.origin) (keys_at p token (length header) (contents_of part.holds)) bytes ≡ is_hit a part q
        by true is =
            ap (λ b. hit_in_file was_given b (keys_at p token (length header) (contents_of part.holds)) bytes) is
            ∙ indexed_hit p token bytes (is_hit a part) was_given (length header) (contents_of part.holds)
            (λ place. tells is place ∙ ap (λ (o : Origin). list_any (is_pair token place) (placed_in p o part.holds (is_hit a part))) origin)
            (λ hits. ap (list_any (eq_by_cmp decorated_cmp q)) (sym keys_are) ∙ there part hits)
        by false is =
            ap (λ b. hit_in_file was_given b (keys_at p token (length header) (contents_of part.holds)) bytes) is
            ∙ unindexed_hit p token bytes was_given (length header) (contents_of part.holds)
            ∙ ap (list_any (eq_by_cmp decorated_cmp q)) (sym keys_are)
            ∙ sym (there_among part.holds q)
            ∙ sym (ap (λ (o : Origin). hit_at o a.index a.search part.holds q) origin ∙ ap (λ b. hit_on_disk b a.index a.search part.holds q) (ap (has_index a.index) (sym origin) ∙ is))

    part_hit : (at files : ℕ) (part : Part) → IsDecorated p part.origin part.holds → IsGiven at part → (o : Origin) → part.origin ≡ o → HasKeys files part o → hit_by at (hits_at asked files part o) ≡ is_hit a part q
    part_hit at files part own tells Memory origin has =
        ap (λ (l : List DecoratedKey). hit_in_map token l bytes) (mapped_at (λ (x : Asked). filter (is_hit x part) (keys_of part.holds)) asked leaf a [] listed)
        ∙ map_hit token bytes (is_hit a part) (keys_of part.holds) (there part)
    part_hit at files part own tells (Disk columns) origin has = on_disk at files part columns origin own tells has

    -- ---- all parts

    abbrev AreGiven : ℕ → List Part → Type 0
    AreGiven at [] = Unit {0}
    AreGiven at (part ∷ ps) = IsGiven at part × AreGiven (at + 1) ps

    abbrev HaveKeys : ℕ → List Part → Type 0
    HaveKeys files [] = Unit {0}
    HaveKeys files (part ∷ ps) = HasKeys files part part.origin × HaveKeys (files_after files part.origin) ps

    any_hit : (at files : ℕ) (ps : List Part) → AreDecorated p ps → AreGiven at ps → HaveKeys files ps → any_by at (hits_of asked files ps) ≡ list_any (hit a.index a.search q) ps
    any_hit at files [] own tells has = refl
    any_hit at files (part ∷ ps) own tells has =
        ap₂ (λ b c. b || c) (part_hit at files part own.0 tells.0 part.origin refl has.0) (any_hit (at + 1) (files_after files part.origin) ps own.1 tells.1 has.1)

    -- ---- what is given, and the keys in the files

    given_from : (all : List Part) (tells : (at : ℕ) (one : Part) → slice_get all at ≡ Some one → IsGiven at one) (at : ℕ) (ps : List Part) → ((k : ℕ) → slice_get all (at + k) ≡ slice_get ps k) → AreGiven at ps
    given_from all tells at [] here = tt
    given_from all tells at (part ∷ ps) here = (
      (let same : at ≡ at + 0 = omega arith in tells at part (ap (slice_get all) same ∙ here 0)),
      given_from all tells (at + 1) ps (λ k. (let same : (at + 1) + k ≡ at + suc k = omega arith in ap (slice_get all) same ∙ here (suc k))),
    )

    keys_from : (files : ℕ) (ps : List Part) → ((k : ℕ) → slice_index_or keys (files + k) [] ≡ slice_index_or (keys_in_files p token ps) k []) → HaveKeys files ps
    keys_from files [] here = tt
    keys_from files (part ∷ ps) here = by part.origin refl here (λ n at. keys_from n ps at)
      where
        own_keys : List PlacedKey
        own_keys = keys_at p token (length header) (contents_of part.holds)

        others : List Part
        others = files_of ps

        listed_keys : Bool → List (List PlacedKey)
        listed_keys b = map (λ (one : Part). keys_at p token (length header) (contents_of one.holds)) (cond b (part ∷ others) others)

        by : (o : Origin) → part.origin ≡ o → ((k : ℕ) → slice_index_or keys (files + k) [] ≡ slice_index_or (listed_keys (is_on_disk o)) k [])
            → ((n : ℕ) → ((k : ℕ) → slice_index_or keys (n + k) [] ≡ slice_index_or (map (λ (one : Part). keys_at p token (length header) (contents_of one.holds)) others) k []) → HaveKeys n ps) → HasKeys files part o × HaveKeys (files_after files o) ps
        by Memory is at rest = (tt, rest files at)
        by (Disk columns) is at rest = (
          (let same : files ≡ files + 0 = omega arith in ap (λ n. slice_index_or keys n []) same ∙ at 0),
          rest (suc files) (λ k. (let same : suc files + k ≡ files + suc k = omega arith in ap (λ n. slice_index_or keys n []) same ∙ at (suc k))),
        )

-- ---- the entries of the token in hand

swapped : (x y : ℕ) → nat_eq x y ≡ nat_eq y x
swapped x y = grind (arith, nat_tests)

reordered : (a b c d : Bool) → ((((a && b) && c) && d) && a) ≡ (a && (b && (c && d)))
reordered false b c d = refl
reordered true false c d = refl
reordered true true false d = refl
reordered true true true false = refl
reordered true true true true = refl

entry_test : (token leaf part place : ℕ) (x : Entry) → (same_entry (record { token = token; leaf = leaf; part = part; place = place }) x && nat_eq x.token token) ≡ is_entry token leaf part place x
entry_test token leaf part place x =
    ap₂ (λ (a : Bool × Bool) (b : Bool × Bool). (((a.0 && a.1) && b.0) && b.1) && nat_eq x.token token) (λ i. (swapped token x.token i, swapped leaf x.leaf i)) (λ i. (swapped part x.part i, swapped place x.place i))
    ∙ reordered (nat_eq x.token token) (nat_eq x.leaf leaf) (nat_eq x.part part) (nat_eq x.place place)

-- **Of a token that every relation has, those entries of a relation and a part with its index are given that are hits.**
pub given_hits : (p : Partitioner) (asked : List Asked) (seen : List Part) (token leaf part place : ℕ) (a : Asked) (one : Part) → slice_get asked leaf ≡ Some a → slice_get seen part ≡ Some one → has_index a.index one.origin ≡ true
    → each_relation_has (serving asked seen) (hit_lists p asked 0 seen) token ≡ true
    → has_entry (with_token token (intersection_by (serving asked seen) (hit_lists p asked 0 seen))) (record { token = token; leaf = leaf; part = part; place = place }) ≡ list_any (is_pair token place) (hit_pairs p a one)
given_hits p asked seen token leaf part place a one listed found has asks =
    filtered_any (same_entry (record { token = token; leaf = leaf; part = part; place = place })) (λ (x : Entry). nat_eq x.token token) (intersection_by (serving asked seen) (hit_lists p asked 0 seen))
    ∙ alike_any (λ (x : Entry). same_entry (record { token = token; leaf = leaf; part = part; place = place }) x && nat_eq x.token token) (is_entry token leaf part place) (entry_test token leaf part place) (intersection_by (serving asked seen) (hit_lists p asked 0 seen))
    ∙ entry_there p asked seen (serving asked seen) token leaf part place a one listed found has asks

-- ---- all relations

module _ (seen : List Part) (key : DecoratedKey) where
  -- all conditions on indexed columns leave the key where the others do too
  all_admit : (conditions : List Condition) → key_asked conditions ≡ None → list_all (λ (a : Asked). list_any (hit a.index a.search key) seen) (asked_of conditions) ≡ all_of (admits seen key) (leaves conditions)
  all_admit [] free = refl
  all_admit (OfKey bytes ∷ conditions) free = cc
  all_admit (Indexed index search ∷ conditions) free = ap (λ b. list_any (hit index search key) seen && b) (all_admit conditions free)
  all_admit (Plain column comparison ∷ conditions) free = all_admit conditions free

  first_hit : (asked : List Asked) → HaveWords asked → 1 ≤ length asked → list_all (λ (a : Asked). list_any (hit a.index a.search key) seen) asked ≡ true → is_some (map_.get (merged (maps_of seen)) key) ≡ true
  first_hit [] words some all = absurd (omega (arith, some))
  first_hit (a ∷ asked) words some all =
      hit_merged a.index a.search key words.0 seen (and_parts (list_any (hit a.index a.search key) seen) (list_all (λ (x : Asked). list_any (hit x.index x.search key) seen) asked) all).0

-- ---- a token that is looked at

module _ (p : Partitioner) (seen : List Part) (own : AreDecorated p seen) (conditions : List Condition) (words : HaveWords (asked_of conditions)) (free : key_asked conditions ≡ None) (some : 1 ≤ length (asked_of conditions))
    (g : Group) (told : IsTold (map_.entries (merged (maps_of seen))) g) where
  abbrev asked : List Asked
  asked = asked_of conditions

  abbrev entries : List Entry
  entries = intersection_by (serving asked seen) (hit_lists p asked 0 seen)

  candidate_there : (key : DecoratedKey) → is_candidate seen (where_of conditions) key ≡ true → list_any (eq_by_cmp decorated_cmp key) (keys_of (merged (maps_of seen))) ≡ true
  candidate_there key is = sym (there_among (merged (maps_of seen)) key) ∙ first_hit seen key asked words some (all_admit seen key conditions free ∙ is)

  -- the candidates of the group have the keys that are candidates
  pub group_keys : (bytes : List ℕ) → list_any (λ (e : DecoratedKey × Partition). same bytes e.0.key) (candidates_in seen (where_of conditions) g).rows ≡ is_candidate seen (where_of conditions) (key_with g.token bytes)
  group_keys bytes =
      filtered_any (λ (e : DecoratedKey × Partition). same bytes e.0.key) (λ (e : DecoratedKey × Partition). is_candidate seen (where_of conditions) e.0) g.rows
      ∙ sym (told (λ (k : DecoratedKey). same bytes k.key && is_candidate seen (where_of conditions) k))
      ∙ alike_any (tested (λ (k : DecoratedKey). same bytes k.key && is_candidate seen (where_of conditions) k) g.token) (λ (e : DecoratedKey × Partition). (nat_eq e.0.token g.token && same bytes e.0.key) && is_candidate seen (where_of conditions) e.0)
      (λ e. sym (and_over (nat_eq e.0.token g.token) (same bytes e.0.key) (is_candidate seen (where_of conditions) e.0))) (map_.entries (merged (maps_of seen)))
      ∙ sym (mapped_any (λ (k : DecoratedKey). (nat_eq k.token g.token && same bytes k.key) && is_candidate seen (where_of conditions) k) (λ (e : DecoratedKey × Partition). e.0) (map_.entries (merged (maps_of seen))))
      ∙ one_key g.token bytes (is_candidate seen (where_of conditions)) (keys_of (merged (maps_of seen))) (candidate_there (key_with g.token bytes))

  module _ (asks : each_relation_has (serving asked seen) (hit_lists p asked 0 seen) g.token ≡ true) (hits : List PartHits) (hits_are : map hits_in hits ≡ hits_of asked 0 seen) where
    -- **The keys of the token that all relations leave are those of its candidates.**
    pub left_keys : (bytes : List ℕ) → is_left g.token (has_entry (with_token g.token entries)) (keys_in_files p g.token seen) hits (length asked) bytes
        ≡ list_any (λ (e : DecoratedKey × Partition). same bytes e.0.key) (candidates_in seen (where_of conditions) g).rows
    left_keys bytes =
        each_listed (λ (a : Asked). list_any (hit a.index a.search (key_with g.token bytes)) seen) (λ leaf. some_hit g.token given keys hits leaf bytes) asked one
        ∙ all_admit seen (key_with g.token bytes) conditions free
        ∙ sym (group_keys bytes)
      where
        given : Entry → Bool
        given = has_entry (with_token g.token entries)

        keys : List (List PlacedKey)
        keys = keys_in_files p g.token seen

        one : (leaf : ℕ) (a : Asked) → slice_get asked leaf ≡ Some a → some_hit g.token given keys hits leaf bytes ≡ list_any (hit a.index a.search (key_with g.token bytes)) seen
        one leaf a listed =
            (let some_word = all_at (λ (x : Asked). 1 ≤ length x.search.words) asked leaf a words listed in
            of_places g.token given keys leaf bytes 0 hits
            ∙ ap (any_by g.token given keys leaf bytes 0) hits_are
            ∙ any_hit g.token given keys leaf bytes p asked a some_word listed 0 0 seen own
            (given_from g.token given keys leaf bytes p asked a some_word listed seen (λ at part found has place. given_hits p asked seen g.token leaf at place a part listed found has asks) 0 seen (λ k. ap (slice_get seen) (from_zero k)))
            (keys_from g.token given keys leaf bytes p asked a some_word listed 0 seen (λ k. ap (λ n. slice_index_or keys n []) (from_zero k))))

    -- **So keys that rise and are those are the candidates' keys, in order.**
    pub left_are : (left : List (List ℕ)) → IsStrictlySortedBy key_cmp left → AreThose (is_left g.token (has_entry (with_token g.token entries)) (keys_in_files p g.token seen) hits (length asked)) left
        → IsStrictlySortedBy key_cmp (row_keys (candidates_in seen (where_of conditions) g)) → left ≡ row_keys (candidates_in seen (where_of conditions) g)
    left_are left rise are rows_rise =
        same_keys left (row_keys (candidates_in seen (where_of conditions) g)) rise rows_rise
        (λ bytes. are bytes ∙ left_keys bytes ∙ sym (mapped_any (same bytes) (λ (e : DecoratedKey × Partition). e.0.key) (candidates_in seen (where_of conditions) g).rows))
