-- For callers: the tokens of the intersection are those that are looked at.
use Rattle.std.proofs.Common.{◌≡◌, ℕ, zero, suc, ◌<◌, ◌≤◌, Bool, true, false, cond, ◌&&◌, ◌||◌, nat_eq, Contains, List, [], ◌∷◌, ◌++◌, length, map, slice_index_or, Option, None, Some, refl, sym, ap, ap₂, subst, ◌∙◌, arith}
use Rattle.std.proofs.lemmas.Bool.{and_parts}
use Rattle.std.proofs.lemmas.Bool.Decides.{nat_tests}
use Rattle.std.specs.FinMap as map_
use Rattle.std.specs.List.{AllByRecursion, filter, flat_map, list_all, list_any}
use Rattle.sasi_types.specs.declared.decorated_key.DecoratedKey.{DecoratedKey}
use Rattle.sasi_types.specs.declared.partitioner.Partitioner.{Partitioner}
use Rattle.sasi_cells.specs.Maps.{merged}
use Rattle.sasi_model.specs.Abbreviations.{Partitions}
use Rattle.sasi_model.specs.Cells.{Partition}
use Rattle.sasi_model.specs.Conditions.{Comparison, Condition, OfKey, Indexed, Plain}
use Rattle.sasi_model.specs.Filters.{all_of, key_asked, leaves, where_of}
use Rattle.sasi_ranges.specs.declared.entry.Entry.{Entry}
use Rattle.sasi_ranges.specs.Entries.{Rises, has_token}
use Rattle.sasi_ranges.specs.Lists.{each_relation_has, intersection_by, list_at, relation_has, union_of}
use Rattle.sasi_ranges.proofs.ListLaws.{intersection_by_has, intersection_by_rises}
use Rattle.sasi_candidates.specs.Groups.{Group, by_token, is_looked, touches}
use Rattle.sasi_candidates.specs.Parts.{Part, hit, maps_of}
use Rattle.sasi_candidates.proofs.PairLists.{any_at}
use Rattle.sasi_engine.specs.Asked.{Asked, asked_of, has_hit, indexed_in, keys_of}
use Rattle.sasi_engine.specs.HitLists.{hit_lists, position_rows, serving}
use Rattle.sasi_engine.proofs.GroupTests.{AreGroups, IsGroup, IsTold, group_tests, map_groups, no_group, tested}
use Rattle.sasi_engine.proofs.KeyTests.{is_hit_in, token_hits}
use Rattle.sasi_engine.specs.TokenTurns.{with_token}
use Rattle.sasi_engine.proofs.Runs.{AreAmong, TokensApart, token_runs}
use Rattle.sasi_engine.proofs.Served.{AreDecorated, columns_long, relations_have}
use Rattle.sasi_engine.proofs.TokenTests.{mapped_any}

-- ---- the conditions on indexed columns

conditions_asked : (f : Condition → Bool) (conditions : List Condition) → key_asked conditions ≡ None → ((column : ℕ) (comparison : Comparison) → f (Plain column comparison) ≡ true)
    → list_all (λ (a : Asked). f (Indexed a.index a.search)) (asked_of conditions) ≡ all_of f (leaves conditions)
conditions_asked f [] none plain = refl
conditions_asked f (OfKey bytes ∷ conditions) none plain = cc
conditions_asked f (Indexed index search ∷ conditions) none plain = ap (λ b. f (Indexed index search) && b) (conditions_asked f conditions none plain)
conditions_asked f (Plain column comparison ∷ conditions) none plain =
    conditions_asked f conditions none plain ∙ ap (λ b. b && all_of f (leaves conditions)) (sym (plain column comparison))

same_all : {A : Type 0} (P : A → Type 0) (f g : A → Bool) → ((x : A) → P x → f x ≡ g x) → (xs : List A) → AllByRecursion P xs → list_all f xs ≡ list_all g xs
same_all P f g same [] all = refl
same_all P f g same (x ∷ xs) all = ap₂ (λ b c. b && c) (same x all.0) (same_all P f g same xs all.1)

-- each relation has a word at least
abbrev pub HaveWords : List Asked → Type 0
HaveWords asked = AllByRecursion (λ (a : Asked). 1 ≤ length a.search.words) asked

some_row : (rows : List (DecoratedKey × Partition)) → 1 ≤ length rows → list_any (λ (e : DecoratedKey × Partition). true) rows ≡ true
some_row [] some = absurd (omega (arith, some))
some_row (e ∷ rows) some = refl

-- ---- tokens

module _ (p : Partitioner) (parts : List Part) (own : AreDecorated p parts) where
  abbrev rows : List (DecoratedKey × Partition)
  rows = map_.entries (merged (maps_of parts))

  abbrev pub groups_of : List Group
  groups_of = by_token rows

  -- a relation has the token in some part where a row with the token is a hit in some part
  row_hits : (a : Asked) → 1 ≤ length a.search.words → (token : ℕ) → list_any (has_hit token a) parts ≡ list_any (tested (λ q. list_any (hit a.index a.search q) parts) token) rows
  row_hits a some token = token_hits a some token parts ∙ mapped_any (is_hit_in a some token parts) (λ (e : DecoratedKey × Partition). e.0) rows

  module _ (asked : List Asked) (words : HaveWords asked) where
    abbrev lists : List (List Entry)
    lists = hit_lists p asked 0 parts

    abbrev relations : List (List ℕ)
    relations = serving asked parts

    -- every relation has the token
    abbrev pub each_asks : ℕ → Bool
    each_asks token = each_relation_has relations lists token

    group_asks : (g : Group) → IsTold rows g → each_asks g.token ≡ list_all (λ (a : Asked). touches parts g.rows (Indexed a.index a.search)) asked
    group_asks g told =
        relations_have p g.token asked parts own
        ∙ same_all (λ (a : Asked). 1 ≤ length a.search.words) (λ (a : Asked). list_any (has_hit g.token a) parts) (λ (a : Asked). touches parts g.rows (Indexed a.index a.search))
        (λ a some. row_hits a some g.token ∙ told (λ q. list_any (hit a.index a.search q) parts)) asked words

    nowhere : (token : ℕ) → list_any (λ (g : Group). nat_eq g.token token) groups_of ≡ false → 1 ≤ length asked → each_asks token ≡ false
    nowhere token none some = relations_have p token asked parts own ∙ by asked words some
      where
        by : (more : List Asked) → HaveWords more → 1 ≤ length more → list_all (λ (a : Asked). list_any (has_hit token a) parts) more ≡ false
        by [] all some = absurd (omega (arith, some))
        by (a ∷ more) all some =
            ap (λ b. b && list_all (λ (x : Asked). list_any (has_hit token x) parts) more)
            (row_hits a all.0 token ∙ no_group (merged (maps_of parts)) (λ q. list_any (hit a.index a.search q) parts) token none)

  -- ---- the tokens that are looked at

  module _ (conditions : List Condition) (words : HaveWords (asked_of conditions)) (free : key_asked conditions ≡ None) where
    abbrev looks_at : Group → Bool
    looks_at g = is_looked parts (where_of conditions) g

    abbrev asks : ℕ → Bool
    asks token = each_asks (asked_of conditions) words token

    -- **Every relation has the token of a group exactly where it is looked at,**
    pub group_looked : AllByRecursion (λ (g : Group). asks g.token ≡ looks_at g) groups_of
    group_looked = each groups_of (map_groups (merged (maps_of parts))) (group_tests (merged (maps_of parts)))
      where
        each : (gs : List Group) → AreGroups gs → AllByRecursion (IsTold rows) gs → AllByRecursion (λ (g : Group). asks g.token ≡ looks_at g) gs
        each [] are told = tt
        each (g ∷ gs) are told = (
          group_asks (asked_of conditions) words g told.0 ∙ conditions_asked (touches parts g.rows) conditions free (λ column comparison. some_row g.rows are.0.some),
          each gs are.2 told.1,
        )

    module _ (some : 1 ≤ length (asked_of conditions)) where
      -- **and no relation has a token that no group has.**
      pub none_looked : (token : ℕ) → list_any (λ (g : Group). nat_eq g.token token) groups_of ≡ false → asks token ≡ false
      none_looked token none = nowhere (asked_of conditions) words token none some

      -- ---- the entries, token by token

      abbrev pub entries : List Entry
      entries = intersection_by (serving (asked_of conditions) parts) (hit_lists p (asked_of conditions) 0 parts)

      abbrev pub looked_groups : List Group
      looked_groups = filter looks_at groups_of

      abbrev tokens : List ℕ
      tokens = map (λ (g : Group). g.token) looked_groups

      any_looked : (token : ℕ) (gs : List Group) → AllByRecursion (λ (g : Group). asks g.token ≡ looks_at g) gs → list_any (λ (g : Group). nat_eq g.token token) gs ≡ true → asks token ≡ true
          → list_any (nat_eq token) (map (λ (g : Group). g.token) (filter looks_at gs)) ≡ true
      any_looked token [] all any is = cc
      any_looked token (g ∷ gs) all any is = by (nat_eq g.token token) refl (looks_at g) refl any (λ e. any_looked token gs all.1 e is)
        where
          rest : List ℕ
          rest = map (λ (h : Group). h.token) (filter looks_at gs)

          swapped : (x y : ℕ) → nat_eq x y ≡ true → nat_eq y x ≡ true
          swapped x y e = grind (arith, nat_tests)

          equal : (x y : ℕ) → nat_eq x y ≡ true → x ≡ y
          equal x y e = grind (arith, nat_tests)

          later : (b c : Bool) → c ≡ true → (b || c) ≡ true
          later true c e = refl
          later false c e = e

          by : (b : Bool) → nat_eq g.token token ≡ b → (c : Bool) → looks_at g ≡ c → (b || list_any (λ (h : Group). nat_eq h.token token) gs) ≡ true → (list_any (λ (h : Group). nat_eq h.token token) gs ≡ true → list_any (nat_eq token) rest ≡ true)
              → list_any (nat_eq token) (map (λ (h : Group). h.token) (cond (looks_at g) (g ∷ filter looks_at gs) (filter looks_at gs))) ≡ true
          by true same true looked e others =
              ap (λ c. list_any (nat_eq token) (map (λ (h : Group). h.token) (cond c (g ∷ filter looks_at gs) (filter looks_at gs)))) looked
              ∙ ap (λ b. b || list_any (nat_eq token) rest) (swapped g.token token same)
          by true same false passed e others =
              (let no : true ≡ false = sym is ∙ ap asks (sym (equal g.token token same)) ∙ all.0 ∙ passed in cc)
          by false other true looked e others =
              ap (λ c. list_any (nat_eq token) (map (λ (h : Group). h.token) (cond c (g ∷ filter looks_at gs) (filter looks_at gs)))) looked
              ∙ later (nat_eq token g.token) (list_any (nat_eq token) rest) (others e)
          by false other false passed e others =
              ap (λ c. list_any (nat_eq token) (map (λ (h : Group). h.token) (cond c (g ∷ filter looks_at gs) (filter looks_at gs)))) passed
              ∙ others e

      of_group : (token : ℕ) → asks token ≡ true → list_any (λ (g : Group). nat_eq g.token token) groups_of ≡ true
      of_group token is = by (list_any (λ (g : Group). nat_eq g.token token) groups_of) refl
        where
          by : (b : Bool) → list_any (λ (g : Group). nat_eq g.token token) groups_of ≡ b → b ≡ true
          by true some_group = refl
          by false none = (let no : true ≡ false = sym is ∙ none_looked token none in cc)

      among : (es : List Entry) → AreAmong tokens (filter (λ (e : Entry). asks e.token) es)
      among [] = tt
      among (e ∷ es) = by (asks e.token) refl (among es)
        where
          by : (b : Bool) → asks e.token ≡ b → AreAmong tokens (filter (λ (x : Entry). asks x.token) es) → AreAmong tokens (cond b (e ∷ filter (λ (x : Entry). asks x.token) es) (filter (λ (x : Entry). asks x.token) es))
          by true is rest = (any_looked e.token groups_of group_looked (of_group e.token is) is, rest)
          by false isnt rest = rest

      kept_above : (t : ℕ) (gs : List Group) → AllByRecursion (λ (h : Group). t < h.token) gs → AllByRecursion (λ u. t < u) (map (λ (g : Group). g.token) (filter looks_at gs))
      kept_above t [] all = tt
      kept_above t (g ∷ gs) all = by (looks_at g) (kept_above t gs all.1)
        where
          by : (b : Bool) → AllByRecursion (λ u. t < u) (map (λ (h : Group). h.token) (filter looks_at gs)) → AllByRecursion (λ u. t < u) (map (λ (h : Group). h.token) (cond b (g ∷ filter looks_at gs) (filter looks_at gs)))
          by true rest = (all.0, rest)
          by false rest = rest

      tokens_apart : (gs : List Group) → AreGroups gs → TokensApart (map (λ (g : Group). g.token) (filter looks_at gs))
      tokens_apart [] are = tt
      tokens_apart (g ∷ gs) are = by (looks_at g) (tokens_apart gs are.2)
        where
          by : (b : Bool) → TokensApart (map (λ (h : Group). h.token) (filter looks_at gs)) → TokensApart (map (λ (h : Group). h.token) (cond b (g ∷ filter looks_at gs) (filter looks_at gs)))
          by true rest = (kept_above g.token gs are.1, rest)
          by false rest = rest

      by_groups : (f : ℕ → List Entry) (gs : List Group) → flat_map f (map (λ (g : Group). g.token) gs) ≡ flat_map (λ (g : Group). f g.token) gs
      by_groups f [] = refl
      by_groups f (g ∷ gs) = ap (λ l. f g.token ++ l) (by_groups f gs)

      -- **The entries of the intersection are those with the token of the first group that is looked at, then those of the next.**
      pub entries_run : entries ≡ flat_map (λ (g : Group). with_token g.token entries) looked_groups
      entries_run =
          token_runs tokens entries (tokens_apart groups_of (map_groups (merged (maps_of parts)))) (intersection_by_rises (serving (asked_of conditions) parts) (hit_lists p (asked_of conditions) 0 parts))
          (among (union_of (hit_lists p (asked_of conditions) 0 parts)))
          ∙ by_groups (λ t. with_token t entries) looked_groups

      -- ---- each of the tokens has an entry

      listed_at : (token : ℕ) (ls : List (List Entry)) (at : ℕ) → has_token token (list_at ls at) ≡ true → Contains ls (list_at ls at)
      listed_at token [] at is = cc
      listed_at token (l ∷ ls) zero is = (0, omega arith, refl)
      listed_at token (l ∷ ls) (suc at) is = let rest = listed_at token ls at is in (suc rest.0, omega (arith, rest.1), rest.2)

      -- an entry of the list with the token
      record HasEntry (token : ℕ) (l : List Entry) : Type 0 where
        pub entry : Entry
        pub listed : Contains l entry
        pub token_is : nat_eq entry.token token ≡ true

      entry_with : (token : ℕ) (l : List Entry) → has_token token l ≡ true → HasEntry token l
      entry_with token [] is = cc
      entry_with token (e ∷ l) is = by (nat_eq e.token token) refl is (entry_with token l)
        where
          by : (b : Bool) → nat_eq e.token token ≡ b → (b || has_token token l) ≡ true → (has_token token l ≡ true → HasEntry token l) → HasEntry token (e ∷ l)
          by true same any others = record { entry = e; listed = (0, omega arith, refl); token_is = same }
          by false other any others = (let rest = others any in record { entry = rest.entry; listed = (suc rest.listed.0, omega (arith, rest.listed.1), rest.listed.2); token_is = rest.token_is })

      equal_tokens : (x y : ℕ) → nat_eq x y ≡ true → x ≡ y
      equal_tokens x y e = grind (arith, nat_tests)

      from_list : (token : ℕ) → asks token ≡ true → (at : ℕ) → has_token token (list_at (hit_lists p (asked_of conditions) 0 parts) at) ≡ true → has_token token entries ≡ true
      from_list token is at has =
          let ls = hit_lists p (asked_of conditions) 0 parts in
          let found = entry_with token (list_at ls at) has in
          let there = intersection_by_has (serving (asked_of conditions) parts) ls (list_at ls at) found.entry (listed_at token ls at has) found.listed (ap asks (equal_tokens found.entry.token token found.token_is) ∙ is) in
          any_at (λ (e : Entry). nat_eq e.token token) entries found.entry there.0 there.1 there.2 found.token_is

      from_relation : (token : ℕ) → asks token ≡ true → (positions : List ℕ) → relation_has (hit_lists p (asked_of conditions) 0 parts) token positions ≡ true → has_token token entries ≡ true
      from_relation token is [] has = cc
      from_relation token is (at ∷ positions) has = by (has_token token (list_at (hit_lists p (asked_of conditions) 0 parts) at)) refl has (from_relation token is positions)
        where
          by : (b : Bool) → has_token token (list_at (hit_lists p (asked_of conditions) 0 parts) at) ≡ b → (b || relation_has (hit_lists p (asked_of conditions) 0 parts) token positions) ≡ true → (relation_has (hit_lists p (asked_of conditions) 0 parts) token positions ≡ true → has_token token entries ≡ true) → has_token token entries ≡ true
          by true here any others = from_list token is at here
          by false nowhere any others = others any

      token_there : (token : ℕ) → asks token ≡ true → (relations : List (List ℕ)) → 1 ≤ length relations → each_relation_has relations (hit_lists p (asked_of conditions) 0 parts) token ≡ true → has_token token entries ≡ true
      token_there token is [] any all = absurd (omega (arith, any))
      token_there token is (positions ∷ relations) any all =
          from_relation token is positions (and_parts (relation_has (hit_lists p (asked_of conditions) 0 parts) token positions) (each_relation_has relations (hit_lists p (asked_of conditions) 0 parts) token) all).0

      serving_long : 1 ≤ length (serving (asked_of conditions) parts)
      serving_long = omega (arith, columns_long (position_rows 0 (map (indexed_in (asked_of conditions)) parts)) (length (asked_of conditions)), some)

      -- **The intersection has an entry with each token that is looked at.**
      pub looked_there : AllByRecursion (λ (g : Group). has_token g.token entries ≡ true) looked_groups
      looked_there = each groups_of group_looked
        where
          each : (gs : List Group) → AllByRecursion (λ (g : Group). asks g.token ≡ looks_at g) gs → AllByRecursion (λ (g : Group). has_token g.token entries ≡ true) (filter looks_at gs)
          each [] all = tt
          each (g ∷ gs) all = by (looks_at g) refl (each gs all.1)
            where
              by : (b : Bool) → looks_at g ≡ b → AllByRecursion (λ (h : Group). has_token h.token entries ≡ true) (filter looks_at gs) → AllByRecursion (λ (h : Group). has_token h.token entries ≡ true) (cond b (g ∷ filter looks_at gs) (filter looks_at gs))
              by true looked rest = (token_there g.token (all.0 ∙ looked) (serving (asked_of conditions) parts) serving_long (all.0 ∙ looked), rest)
              by false passed rest = rest
