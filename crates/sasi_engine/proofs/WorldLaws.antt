-- What holds in the world of a plan: what its parts have of a key, and the rows of the tokens that are looked at.
use Rattle.std.proofs.Common.{◌≡◌, ◌≢◌, ℕ, ◌<◌, ◌≤◌, Bool, true, false, cond, not, nat_eq, is_some, List, [], ◌∷◌, ◌++◌, length, map, Option, None, Some, refl, sym, ap, ap₂, subst, ◌∙◌, arith}
use Rattle.std.proofs.lemmas.Bool.Decides.{nat_tests}
use Rattle.std.proofs.lemmas.List.{map-append}
use Rattle.std.specs.FinMap as map_
use Rattle.std.specs.List.{AllByRecursion, filter, flat_map}
use Rattle.std.specs.List.Sorted.{IsStrictlySortedBy}
use Rattle.sasi_types.specs.declared.decorated_key.DecoratedKey.{DecoratedKey}
use Rattle.sasi_types.specs.declared.partitioner.Partitioner.{Partitioner}
use Rattle.sasi_types.specs.DecoratedKey.{decorated_cmp, decorated_total}
use Rattle.sasi_types.specs.Key.{key_cmp}
use Rattle.sasi_types.specs.Token.{token_of}
use Rattle.sasi_cells.proofs.Laws.Decorated.{entries_have, same_maps}
use Rattle.sasi_cells.specs.Maps.{merged}
use Rattle.sasi_model.specs.Abbreviations.{Partitions}
use Rattle.sasi_model.specs.Cells.{Partition}
use Rattle.sasi_model.specs.State.{decorated}
use Rattle.sasi_memindex.specs.Book.{Book}
use Rattle.sasi_layout.specs.Flushed.{contents_of}
use Rattle.sasi_layout.specs.Layout.{TableParts}
use Rattle.sasi_datawrite.specs.Format.{Content, decorated_key}
use Rattle.sasi_scan.specs.Finding.{file_maps, found_in}
use Rattle.sasi_scan.specs.Parts.{entries_of}
use Rattle.sasi_scan.proofs.KeyLookups.{found_merged}
use Rattle.sasi_ranges.specs.declared.entry.Entry.{Entry}
use Rattle.sasi_ranges.specs.Entries.{has_token}
use Rattle.sasi_ranges.specs.Lists.{each_relation_has}
use Rattle.sasi_candidates.specs.Candidates.{is_candidate}
use Rattle.sasi_candidates.specs.Costs.{files_of, is_on_disk}
use Rattle.sasi_model.specs.Filters.{where_of}
use Rattle.sasi_candidates.specs.Groups.{Group, by_token, candidates_in, is_looked, rows_in}
use Rattle.sasi_candidates.specs.Parts.{Disk, Memory, Origin, Part, maps_of}
use Rattle.sasi_candidates.proofs.GroupLaws.{all_by_token}
use Rattle.sasi_engine.specs.declared.relation.IndexedRelation.{IndexedRelation}
use Rattle.sasi_engine.specs.Asked.{Asked, asked_of, keys_of}
use Rattle.sasi_engine.specs.HitCandidates.{IsRowOf, IsWorld, PlanWorld, candidates_at, entries_at, hit_entries, in_memory, looked_groups}
use Rattle.sasi_engine.specs.HitLists.{hit_lists, serving}
use Rattle.sasi_engine.specs.TokenHits.{contents_in_files, maps_numbered, row_keys}
use Rattle.sasi_engine.specs.Views.{AreAsked, IsDecorated}
use Rattle.sasi_engine.proofs.CandidateOrder.{candidates_rise}
use Rattle.sasi_engine.proofs.GroupTests.{AreGroups, IsTold, group_tests, map_groups}
use Rattle.sasi_engine.proofs.Looked.{HaveWords, group_looked, looked_there}
use Rattle.sasi_engine.proofs.Places.{view_decorated}
use Rattle.sasi_engine.proofs.Served.{AreDecorated}

abbrev Row : Type 0
Row = DecoratedKey × Partition

-- ---- what the parts have of a key

rows_decorated : (p : Partitioner) (rows : List Row) → map (λ (e : Row). e.0) rows ≡ map (decorated_key p) (map (λ (e : Row). (e.0.key, e.1)) rows) → entries_of p (map (λ (e : Row). (e.0.key, e.1)) rows) ≡ rows
rows_decorated p [] same = refl
rows_decorated p (e ∷ rows) same =
    let first : e.0 ≡ decorated p e.0.key = cc in
    let others : map (λ (x : Row). x.0) rows ≡ map (decorated_key p) (map (λ (x : Row). (x.0.key, x.1)) rows) = cc in
    ap₂ (λ (k : DecoratedKey) (l : List Row). (k, e.1) ∷ l) (sym first) (rows_decorated p rows others)

-- the map of the content of a file's map is this map
content_map : (p : Partitioner) (m : Partitions) → keys_of m ≡ map (decorated_key p) (contents_of m) → map_.from_entries {R = decorated_cmp} (entries_of p (contents_of m)) ≡ m
content_map p m same =
    ap (λ (es : List Row). map_.from_entries {R = decorated_cmp} es) (rows_decorated p (map_.entries m) same)
    ∙ same_maps _ _ (λ q. map_.get-from_entries decorated_total (map_.entries m) q ∙ sym (map_.get-entries m q))

pub files_made : (p : Partitioner) (parts : List Part) → AreDecorated p parts → file_maps p (contents_in_files parts) ≡ maps_of (files_of parts)
files_made p [] own = refl
files_made p (part ∷ parts) own = by part.origin refl own.0 (files_made p parts own.1)
  where
    by : (o : Origin) → part.origin ≡ o → IsDecorated p o part.holds → file_maps p (contents_in_files parts) ≡ maps_of (files_of parts)
        → file_maps p (map (λ (x : Part). contents_of x.holds) (cond (is_on_disk o) (part ∷ files_of parts) (files_of parts))) ≡ maps_of (cond (is_on_disk o) (part ∷ files_of parts) (files_of parts))
    by Memory is mine rest = rest
    by (Disk columns) is mine rest = ap₂ (λ (m : Partitions) (l : List Partitions). m ∷ l) (content_map p part.holds mine) rest

module _ (w : PlanWorld) (origin : Book) (is : IsWorld w origin) where
  pub world_decorated : AreDecorated w.partitioner w.parts
  world_decorated = view_decorated w.folder w.partitioner w.table origin w.types w.relations w.listed (asked_of w.conditions) w.parts is.planned

  -- **What the files and then the maps have of a key is what the merge of the parts has.**
  pub world_found : (book : Book) (numbers : List ℕ) → maps_numbered book numbers ≡ maps_of (in_memory w.parts) → (key : DecoratedKey)
      → found_in key None (file_maps w.partitioner (contents_in_files w.parts) ++ maps_numbered book numbers) ≡ map_.get (merged (maps_of w.parts)) key
  world_found book numbers maps_are key =
      ap (found_in key None)
      (ap₂ (λ (a b : List Partitions). a ++ b) (files_made w.partitioner w.parts world_decorated) maps_are
      ∙ sym (map-append (λ (part : Part). part.holds) (files_of w.parts) (in_memory w.parts))
      ∙ ap maps_of (sym is.ordered))
      ∙ sym (found_merged key (maps_of w.parts))

  asked_words : (relations : List IndexedRelation) (asked : List Asked) → AreAsked w.table relations asked → HaveWords asked
  asked_words [] [] are = tt
  asked_words [] (a ∷ asked) are = absurd are
  asked_words (r ∷ relations) [] are = absurd are
  asked_words (r ∷ relations) (a ∷ asked) are = (are.0.some, asked_words relations asked are.1)

  pub world_words : HaveWords (asked_of w.conditions)
  world_words = asked_words w.relations (asked_of w.conditions) is.planned.relations_are

  -- ---- rows

  abbrev whole : Partitions
  whole = merged (maps_of w.parts)

  -- the row is what all parts have of its key, under the key's own token
  abbrev IsOwn : Row → Type 0
  IsOwn e = IsRowOf w e.0.token e

  all_own : AllByRecursion IsOwn (map_.entries whole)
  all_own = entries_have IsOwn whole (λ q part found. record {
    of_token = refl;
    own_token = ap (λ (k : DecoratedKey). k.token) (sym (is.own_tokens q (ap is_some found)));
    merged_is = found;
  })

  first_own : (xs ys : List Row) → AllByRecursion IsOwn (xs ++ ys) → AllByRecursion IsOwn xs × AllByRecursion IsOwn ys
  first_own [] ys all = (tt, all)
  first_own (x ∷ xs) ys all = let rest = first_own xs ys all.1 in ((all.0, rest.0), rest.1)

  groups_own : (gs : List Group) → AllByRecursion IsOwn (rows_in gs) → AllByRecursion (λ (g : Group). AllByRecursion IsOwn g.rows) gs
  groups_own [] all = tt
  groups_own (g ∷ gs) all = let both = first_own g.rows (rows_in gs) all in (both.0, groups_own gs both.1)

  equal_tokens : (x y : ℕ) → nat_eq x y ≡ true → x ≡ y
  equal_tokens x y e = grind (arith, nat_tests)

  rows_of : (token : ℕ) (rows : List Row) → AllByRecursion (λ (e : Row). nat_eq e.0.token token ≡ true) rows → AllByRecursion IsOwn rows → AllByRecursion (IsRowOf w token) rows
  rows_of token [] same own = tt
  rows_of token (e ∷ rows) same own =
      let at = equal_tokens e.0.token token same.0 in
      (record { of_token = at; own_token = own.0.own_token ∙ at; merged_is = own.0.merged_is }, rows_of token rows same.1 own.1)

  kept : (P : Row → Type 0) (test : Row → Bool) (xs : List Row) → AllByRecursion P xs → AllByRecursion P (filter test xs)
  kept P test [] all = tt
  kept P test (x ∷ xs) all = by (test x) (kept P test xs all.1)
    where
      by : (b : Bool) → AllByRecursion P (filter test xs) → AllByRecursion P (cond b (x ∷ filter test xs) (filter test xs))
      by true rest = (all.0, rest)
      by false rest = rest

  first_key : (token : ℕ) (rows : List Row) → 1 ≤ length rows → AllByRecursion (IsRowOf w token) rows → (key : List ℕ) × (token_of w.partitioner key ≡ token)
  first_key token [] some all = absurd (omega (arith, some))
  first_key token (e ∷ rows) some all = (e.0.key, all.0.own_token)

  -- ---- the groups that are looked at

  -- what is known of one of them
  pub record IsLookedGroup (g : Group) : Type 0 where
    pub told : IsTold (map_.entries whole) g
    pub asks : each_relation_has (serving (asked_of w.conditions) w.parts) (hit_lists w.partitioner (asked_of w.conditions) 0 w.parts) g.token ≡ true
    pub rise : IsStrictlySortedBy key_cmp (row_keys (candidates_at w g))
    pub rows : AllByRecursion (IsRowOf w g.token) (candidates_at w g).rows
    -- a key that has the token
    pub key : List ℕ
    pub own : token_of w.partitioner key ≡ g.token

  -- their tokens rise
  abbrev pub TokensUp : List Group → Type 0
  TokensUp [] = Unit {0}
  TokensUp (g ∷ gs) = AllByRecursion (λ (h : Group). g.token < h.token) gs × TokensUp gs

  abbrev looks : Group → Bool
  looks g = is_looked w.parts (where_of w.conditions) g

  abbrev Asks : Group → Type 0
  Asks g = each_relation_has (serving (asked_of w.conditions) w.parts) (hit_lists w.partitioner (asked_of w.conditions) 0 w.parts) g.token ≡ looks g

  each_looked : (gs : List Group) → AreGroups gs → AllByRecursion (IsTold (map_.entries whole)) gs → AllByRecursion Asks gs
      → AllByRecursion (λ (g : Group). IsStrictlySortedBy key_cmp (row_keys (candidates_in w.parts (where_of w.conditions) g))) gs → AllByRecursion (λ (g : Group). AllByRecursion IsOwn g.rows) gs
      → AllByRecursion IsLookedGroup (filter looks gs)
  each_looked [] are told asks rise own = tt
  each_looked (g ∷ gs) are told asks rise own = by (looks g) refl (each_looked gs are.2 told.1 asks.1 rise.1 own.1)
    where
      by : (b : Bool) → looks g ≡ b → AllByRecursion IsLookedGroup (filter looks gs) → AllByRecursion IsLookedGroup (cond b (g ∷ filter looks gs) (filter looks gs))
      by true looked rest = (
        record {
          told = told.0;
          asks = asks.0 ∙ looked;
          rise = rise.0;
          rows = kept (IsRowOf w g.token) (λ (e : Row). is_candidate w.parts (where_of w.conditions) e.0) g.rows (rows_of g.token g.rows are.0.same own.0);
          key = (first_key g.token g.rows are.0.some (rows_of g.token g.rows are.0.same own.0)).0;
          own = (first_key g.token g.rows are.0.some (rows_of g.token g.rows are.0.same own.0)).1;
        },
        rest,
      )
      by false looked rest = rest

  pub groups_looked : AllByRecursion IsLookedGroup (looked_groups w)
  groups_looked =
      each_looked (by_token (map_.entries whole)) (map_groups whole) (group_tests whole)
      (group_looked w.partitioner w.parts world_decorated w.conditions world_words is.free)
      (candidates_rise w.parts (where_of w.conditions))
      (groups_own (by_token (map_.entries whole)) (subst (λ (rows : List Row). AllByRecursion IsOwn rows) (sym (all_by_token (map_.entries whole))) all_own))

  kept_above : (t : ℕ) (gs : List Group) → AllByRecursion (λ (h : Group). t < h.token) gs → AllByRecursion (λ (h : Group). t < h.token) (filter looks gs)
  kept_above t [] all = tt
  kept_above t (g ∷ gs) all = by (looks g) (kept_above t gs all.1)
    where
      by : (b : Bool) → AllByRecursion (λ (h : Group). t < h.token) (filter looks gs) → AllByRecursion (λ (h : Group). t < h.token) (cond b (g ∷ filter looks gs) (filter looks gs))
      by true rest = (all.0, rest)
      by false rest = rest

  each_up : (gs : List Group) → AreGroups gs → TokensUp (filter looks gs)
  each_up [] are = tt
  each_up (g ∷ gs) are = by (looks g) (each_up gs are.2)
    where
      by : (b : Bool) → TokensUp (filter looks gs) → TokensUp (cond b (g ∷ filter looks gs) (filter looks gs))
      by true rest = (kept_above g.token gs are.1, rest)
      by false rest = rest

  pub groups_up : TokensUp (looked_groups w)
  groups_up = each_up (by_token (map_.entries whole)) (map_groups whole)

  -- ---- those that are left

  pub all_behind : (P : Group → Type 0) (xs ys : List Group) → AllByRecursion P (xs ++ ys) → AllByRecursion P ys
  all_behind P [] ys all = all
  all_behind P (x ∷ xs) ys all = all_behind P xs ys all.1

  pub up_behind : (xs ys : List Group) → TokensUp (xs ++ ys) → TokensUp ys
  up_behind [] ys up = up
  up_behind (x ∷ xs) ys up = up_behind xs ys up.1

  pub groups_there : AllByRecursion (λ (g : Group). has_token g.token (hit_entries w) ≡ true) (looked_groups w)
  groups_there = looked_there w.partitioner w.parts world_decorated w.conditions world_words is.free is.some
