-- The next token of a source of candidates: what is left once its keys are in hand, and what is owed then.
use Rattle.std.proofs.Common.{◌≡◌, ◌≢◌, ℕ, ◌+◌, ◌<◌, Bool, true, false, cond, ◌||◌, nat_eq, List, [], ◌∷◌, ◌++◌, length, map, reverse, Option, None, IfSome, refl, sym, ap, subst, ◌∙◌, arith}
use Rattle.std.proofs.lemmas.Bool.Decides.{nat_tests}
use Rattle.std.proofs.lemmas.List.{append_assoc}
use Rattle.std.specs.List.{AllByRecursion, filter, flat_map}
use Rattle.std.specs.Option.{option_to_list}
use Rattle.std.specs.List.Sorted.{IsStrictlySortedBy}
use Rattle.sasi_types.specs.DecoratedKey.{decorated_cmp}
use Rattle.sasi_host.specs.Names.{Folder}
use Rattle.sasi_memindex.specs.Book.{Book}
use Rattle.sasi_dataread.specs.declared.token_keys.PlacedKey.{PlacedKey}
use Rattle.sasi_ranges.specs.declared.entry.Entry.{Entry}
use Rattle.sasi_ranges.specs.Entries.{Above, Rises, has_token}
use Rattle.sasi_ranges.proofs.ListLaws.{intersection_by_rises}
use Rattle.sasi_candidates.specs.Groups.{Group, rows_in}
use Rattle.sasi_candidates.specs.Parts.{Disk, Memory, Origin, Part}
use Rattle.sasi_narrow.specs.declared.part_hits.PartHits.{PartHits}
use Rattle.sasi_narrow.specs.declared.part_hits.PartHits.TheVariants.{File, Map}
use Rattle.sasi_narrow.specs.Narrowing.{FoundInOrder, has_entry, is_left}
use Rattle.sasi_lookup.specs.Files.{LookedFile}
use Rattle.sasi_lookup.specs.Lookups.{HasKeysOf, IsLookingIn}
use Rattle.sasi_recheck.specs.Sources.{Candidate}
use Rattle.sasi_engine.specs.declared.hand.Hand.{Hand}
use Rattle.sasi_engine.specs.Asked.{Asked, asked_of, is_hit, keys_of}
use Rattle.sasi_engine.specs.HitCandidates.{AreInHand, IsLeft, IsRowOf, IsWorld, PlanWorld, candidates_at, entries_at, hit_entries}
use Rattle.sasi_engine.specs.HitLists.{hit_lists, serving}
use Rattle.sasi_engine.specs.Parts.{HitsIn, files_after, hits_at, hits_in, hits_of}
use Rattle.sasi_engine.specs.Parts as parts
use Rattle.sasi_engine.specs.TokenHits.{contents_in_files, keys_in_files, maps_numbered, row_keys}
use Rattle.sasi_engine.specs.TokenTurns.{HasNext}
use Rattle.sasi_engine.specs.inside.Steps.{AreKeysLeft, IsSameHand}
use Rattle.sasi_engine.proofs.FoundLaws.{hits_rise}
use Rattle.sasi_engine.proofs.HandKeys.{keys_in_hand}
use Rattle.sasi_engine.proofs.TokenCandidates.{left_are}
use Rattle.sasi_engine.proofs.TokenRuns.{BeginsApart, run_taken}
use Rattle.sasi_engine.proofs.WorldLaws.{IsLookedGroup, TokensUp, all_behind, groups_looked, groups_there, groups_up, up_behind, world_decorated, world_words}

-- ---- entries of a token

equal_tokens : (x y : ℕ) → nat_eq x y ≡ true → x ≡ y
equal_tokens x y e = grind (arith, nat_tests)

-- they begin with one that has the token
pub record BeginsWith (token : ℕ) (run : List Entry) : Type 0 where
  pub first : Entry
  pub others : List Entry
  pub is : run ≡ first ∷ others
  pub of_token : first.token ≡ token

pub run_begins : (token : ℕ) (es : List Entry) → has_token token es ≡ true → BeginsWith token (filter (λ (e : Entry). nat_eq e.token token) es)
run_begins token [] has = cc
run_begins token (e ∷ es) has = by (nat_eq e.token token) refl has (run_begins token es)
  where
    by : (b : Bool) → nat_eq e.token token ≡ b → (b || has_token token es) ≡ true → (has_token token es ≡ true → BeginsWith token (filter (λ (x : Entry). nat_eq x.token token) es))
        → BeginsWith token (cond b (e ∷ filter (λ (x : Entry). nat_eq x.token token) es) (filter (λ (x : Entry). nat_eq x.token token) es))
    by true same any later = record { first = e; others = filter (λ (x : Entry). nat_eq x.token token) es; is = refl; of_token = equal_tokens e.token token same }
    by false other any later = later any

run_tokens : (token : ℕ) (es : List Entry) → AllByRecursion (λ (e : Entry). e.token ≡ token) (filter (λ (e : Entry). nat_eq e.token token) es)
run_tokens token [] = tt
run_tokens token (e ∷ es) = by (nat_eq e.token token) refl (run_tokens token es)
  where
    by : (b : Bool) → nat_eq e.token token ≡ b → AllByRecursion (λ (x : Entry). x.token ≡ token) (filter (λ (x : Entry). nat_eq x.token token) es)
        → AllByRecursion (λ (x : Entry). x.token ≡ token) (cond b (e ∷ filter (λ (x : Entry). nat_eq x.token token) es) (filter (λ (x : Entry). nat_eq x.token token) es))
    by true same rest = (equal_tokens e.token token same, rest)
    by false other rest = rest

above_kept : (x : Entry) (test : Entry → Bool) (es : List Entry) → AllByRecursion (Above x) es → AllByRecursion (Above x) (filter test es)
above_kept x test [] all = tt
above_kept x test (e ∷ es) all = by (test e) (above_kept x test es all.1)
  where
    by : (b : Bool) → AllByRecursion (Above x) (filter test es) → AllByRecursion (Above x) (cond b (e ∷ filter test es) (filter test es))
    by true rest = (all.0, rest)
    by false rest = rest

run_rises : (test : Entry → Bool) (es : List Entry) → Rises es → Rises (filter test es)
run_rises test [] rise = tt
run_rises test (e ∷ es) rise = by (test e) (run_rises test es rise.1) (above_kept e test es rise.0)
  where
    by : (b : Bool) → Rises (filter test es) → AllByRecursion (Above e) (filter test es) → Rises (cond b (e ∷ filter test es) (filter test es))
    by true rest above = (above, rest)
    by false rest above = rest

-- ---- the hits in maps are in their order

each_rises : (asked : List Asked) (part : Part) → AllByRecursion (IsStrictlySortedBy decorated_cmp) (map (λ (a : Asked). filter (is_hit a part) (keys_of part.holds)) asked)
each_rises [] part = tt
each_rises (a ∷ asked) part = (hits_rise part.holds (is_hit a part), each_rises asked part)

abbrev OrderedIn : HitsIn → Type 0
OrderedIn (parts.OfFile file indexed) = Unit {0}
OrderedIn (parts.OfMap found) = AllByRecursion (IsStrictlySortedBy decorated_cmp) found

one_ordered : (asked : List Asked) (files : ℕ) (part : Part) (o : Origin) → OrderedIn (hits_at asked files part o)
one_ordered asked files part Memory = each_rises asked part
one_ordered asked files part (Disk columns) = tt

found_ordered : (h : PartHits) → OrderedIn (hits_in h) → FoundInOrder h
found_ordered (File file indexed) is = tt
found_ordered (Map found) is = is

hits_ordered : (asked : List Asked) (files : ℕ) (seen : List Part) (hits : List PartHits) → map hits_in hits ≡ hits_of asked files seen → AllByRecursion FoundInOrder hits
hits_ordered asked files seen [] same = tt
hits_ordered asked files [] (h ∷ hits) same = cc
hits_ordered asked files (part ∷ seen) (h ∷ hits) same =
    let here : hits_in h ≡ hits_at asked files part part.origin = cc in
    let later : map hits_in hits ≡ hits_of asked (files_after files part.origin) seen = cc in
    (found_ordered h (subst OrderedIn (sym here) (one_ordered asked files part part.origin)), hits_ordered asked (files_after files part.origin) seen hits later)

-- ---- the next group

no_rows : (rows : List Candidate) → map (λ (e : Candidate). e.0.key) rows ≡ [] → rows ≡ []
no_rows [] none = refl
no_rows (e ∷ rows) none = cc

-- the entries that were taken are those of the first group that is left
pub record IsNextGroup (w : PlanWorld) (groups : List Group) (token : ℕ) (taken : List Entry) (after : Option Entry) (rest : List Entry) : Type 0 where
  pub group : Group
  pub others : List Group
  pub groups_are : groups ≡ group ∷ others
  pub token_is : token ≡ group.token
  pub taken_is : taken ≡ entries_at w group
  pub behind : option_to_list after ++ rest ≡ flat_map (entries_at w) others

module _ (w : PlanWorld) (origin : Book) (world : IsWorld w origin) where
  begins_apart : (g : Group) (gs : List Group) → AllByRecursion (λ (h : Group). g.token < h.token) gs → AllByRecursion (λ (h : Group). has_token h.token (hit_entries w) ≡ true) gs → BeginsApart g.token (flat_map (entries_at w) gs)
  begins_apart g [] up there = tt
  begins_apart g (h ∷ gs) up there =
      let begins = run_begins h.token (hit_entries w) there.0 in
      subst (λ (run : List Entry). BeginsApart g.token (run ++ flat_map (entries_at w) gs)) (sym begins.is) (λ same. omega (arith, up.0, begins.of_token, same))

  next_group : (groups : List Group) → TokensUp w origin world groups → AllByRecursion (λ (h : Group). has_token h.token (hit_entries w) ≡ true) groups → (Left : List Entry → Type 0) (before after : Option Entry) (es : List Entry) (first : Entry) (others : List Entry)
      → option_to_list before ++ es ≡ flat_map (entries_at w) groups → (next : HasNext Left before after es first others) → IsNextGroup w groups first.token (first ∷ others) after next.rest
  next_group [] up there Left before after es first others are next = (let no : [] ≡ first ∷ (others ++ (option_to_list after ++ next.rest)) = sym are ∙ next.parts in cc)
  next_group (g ∷ gs) up there Left before after es first others are next =
      let begins = run_begins g.token (hit_entries w) there.0 in
      let same : entries_at w g ++ flat_map (entries_at w) gs ≡ (first ∷ others) ++ (option_to_list after ++ next.rest) = sym are ∙ next.parts in
      let heads : begins.first ∷ (begins.others ++ flat_map (entries_at w) gs) ≡ first ∷ (others ++ (option_to_list after ++ next.rest)) = ap (λ (run : List Entry). run ++ flat_map (entries_at w) gs) (sym begins.is) ∙ same in
      let head : begins.first ≡ first = cc in
      let token : first.token ≡ g.token = ap (λ (e : Entry). e.token) (sym head) ∙ begins.of_token in
      let taken = run_taken g.token (entries_at w g) (flat_map (entries_at w) gs) (first ∷ others) after next.rest (run_tokens g.token (hit_entries w)) (begins_apart g gs up.0 there.1)
      (subst (λ t. AllByRecursion (λ (e : Entry). e.token ≡ t) (first ∷ others)) token (refl, next.of_token)) (subst (λ t. IfSome after (λ (e : Entry). e.token ≢ t)) token next.apart) next.ends same in
      record { group = g; others = gs; groups_are = refl; token_is = token; taken_is = taken.0; behind = taken.1 }

  -- where no entry is left, no group is
  no_group_left : (groups : List Group) → AllByRecursion (λ (h : Group). has_token h.token (hit_entries w) ≡ true) groups → flat_map (entries_at w) groups ≡ [] → groups ≡ []
  no_group_left [] there none = refl
  no_group_left (g ∷ gs) there none =
      let begins = run_begins g.token (hit_entries w) there.0 in
      let no : begins.first ∷ (begins.others ++ flat_map (entries_at w) gs) ≡ [] = ap (λ (run : List Entry). run ++ flat_map (entries_at w) gs) (sym begins.is) ∙ none in cc

  -- the keys in hand are those of the group's candidates
  pub keys_of_group : (g : Group) → IsLookedGroup w origin world g → (hand : Hand) (taken : List Entry) → hand.relations ≡ length (asked_of w.conditions) → map hits_in hand.parts.items ≡ hits_of (asked_of w.conditions) 0 w.parts
      → HasKeysOf w.partitioner g.token (contents_in_files w.parts) hand.lookup → taken ≡ entries_at w g → AreKeysLeft hand g.token taken → reverse hand.keys.items ≡ row_keys (candidates_at w g)
  keys_of_group g looked hand taken count hits_are has taken_is left =
      left_are w.partitioner w.parts (world_decorated w origin world) w.conditions (world_words w origin world) world.free world.some g looked.told looked.asks hand.parts.items hits_are (reverse hand.keys.items) left.rise
      (λ bytes. left.are (record {
        rise = subst Rises (sym taken_is) (run_rises (λ (e : Entry). nat_eq e.token g.token) (hit_entries w) (intersection_by_rises (serving (asked_of w.conditions) w.parts) (hit_lists w.partitioner (asked_of w.conditions) 0 w.parts)));
        found = hits_ordered (asked_of w.conditions) 0 w.parts hand.parts.items hits_are;
      }) bytes
      ∙ ap (λ (es : List Entry). is_left g.token (has_entry es) (map (λ (file : LookedFile). file.keys) hand.lookup.files) hand.parts.items hand.relations bytes) taken_is
      ∙ ap (λ (keys : List (List PlacedKey)). is_left g.token (has_entry (entries_at w g)) keys hand.parts.items hand.relations bytes) (keys_in_hand w.partitioner g.token w.parts hand.lookup.files has)
      ∙ ap (λ n. is_left g.token (has_entry (entries_at w g)) (keys_in_files w.partitioner g.token w.parts) hand.parts.items n bytes) count)
      looked.rise

-- ---- what is left

module _ (w : PlanWorld) (files : Option Folder) (book : Book) (Before Left : List Entry → Type 0) (before after : Option Entry) (old new : Hand) (left : List Candidate) (is : IsLeft w files book Before before old left) (none : old.keys.items ≡ []) where
  abbrev group_there : AllByRecursion (λ (h : Group). has_token h.token (hit_entries w) ≡ true) is.groups
  group_there = all_behind w is.origin is.world (λ (h : Group). has_token h.token (hit_entries w) ≡ true) is.passed is.groups (subst (AllByRecursion (λ (h : Group). has_token h.token (hit_entries w) ≡ true)) is.groups_are (groups_there w is.origin is.world))

  pub none_in_hand : is.rows ≡ []
  none_in_hand = no_rows is.rows (is.in_hand.keys_are ∙ ap reverse none)

  -- no token is left,
  pub ends_groups : option_to_list before ++ is.entries ≡ [] → is.groups ≡ []
  ends_groups end = no_group_left w is.origin is.world is.groups group_there (sym is.entries_are ∙ end)

  pub ends_left : option_to_list before ++ is.entries ≡ [] → left ≡ []
  ends_left end = is.left_is ∙ ap (λ (rows : List Candidate). rows ++ rows_in (map (candidates_at w) is.groups)) none_in_hand ∙ ap (λ (gs : List Group). rows_in (map (candidates_at w) gs)) (ends_groups end)

  abbrev pub ended : option_to_list before ++ is.entries ≡ [] → after ≡ None → Left [] → IsLeft w files book Left after old []
  ended end no_more given = record {
    origin = is.origin;
    world = is.world;
    count = is.count;
    hits_are = is.hits_are;
    looks = is.looks;
    maps_are = is.maps_are;
    passed = is.passed;
    groups = [];
    groups_are = is.groups_are ∙ ap (λ (gs : List Group). is.passed ++ gs) (ends_groups end);
    entries = [];
    given = given;
    entries_are = ap (λ (o : Option Entry). option_to_list o ++ []) no_more;
    rows = [];
    in_hand = record { keys_are = sym (ap reverse none); rows_are = tt; turned = tt };
    left_is = refl;
  }

  -- or the next one is that of the first group that is left
  module _ (first : Entry) (others : List Entry) (next : HasNext Left before after is.entries first others) where
    abbrev group_up : TokensUp w is.origin is.world is.groups
    group_up = up_behind w is.origin is.world is.passed is.groups (subst (TokensUp w is.origin is.world) is.groups_are (groups_up w is.origin is.world))

    abbrev group_looked : AllByRecursion (IsLookedGroup w is.origin is.world) is.groups
    group_looked = all_behind w is.origin is.world (IsLookedGroup w is.origin is.world) is.passed is.groups (subst (AllByRecursion (IsLookedGroup w is.origin is.world)) is.groups_are (groups_looked w is.origin is.world))

    pub the_group : IsNextGroup w is.groups first.token (first ∷ others) after next.rest
    the_group = next_group w is.origin is.world is.groups group_up group_there Left before after is.entries first others is.entries_are next

    pub the_looked : IsLookedGroup w is.origin is.world the_group.group
    the_looked = (subst (AllByRecursion (IsLookedGroup w is.origin is.world)) the_group.groups_are group_looked).0

    each_turned : (token : ℕ) (rows : List Candidate) → HasKeysOf w.partitioner token (contents_in_files w.parts) new.lookup → AllByRecursion (λ (e : Candidate). HasKeysOf w.partitioner token (contents_in_files w.parts) new.lookup) rows
    each_turned token [] has = tt
    each_turned token (e ∷ rows) has = (has, each_turned token rows has)

    module _ (same : IsSameHand old new) (keys : AreKeysLeft new first.token (first ∷ others)) (has : HasKeysOf w.partitioner first.token (contents_in_files w.parts) new.lookup) (looks : IsLookingIn files w.partitioner (contents_in_files w.parts) new.lookup) where
      abbrev pub new_rows : List Candidate
      new_rows = (candidates_at w the_group.group).rows

      pub new_hits : map hits_in new.parts.items ≡ hits_of (asked_of w.conditions) 0 w.parts
      new_hits = ap (map hits_in) same.parts_are ∙ is.hits_are

      pub in_new_hand : AreInHand w new new_rows
      in_new_hand = record {
        keys_are = sym (keys_of_group w is.origin is.world the_group.group the_looked new (first ∷ others) (same.relations_are ∙ is.count) new_hits
            (subst (λ t. HasKeysOf w.partitioner t (contents_in_files w.parts) new.lookup) the_group.token_is has) the_group.taken_is (subst (λ t. AreKeysLeft new t (first ∷ others)) the_group.token_is keys));
        rows_are = subst (λ t. AllByRecursion (IsRowOf w t) new_rows) (sym (keys.token_is ∙ the_group.token_is)) the_looked.rows;
        turned = subst (λ t. AllByRecursion (λ (e : Candidate). HasKeysOf w.partitioner t (contents_in_files w.parts) new.lookup) new_rows) (sym keys.token_is) (each_turned first.token new_rows has);
      }

      -- **What was left is still left, with the token's candidates in hand.**
      abbrev pub turned : IsLeft w files book Left after new left
      turned = record {
        origin = is.origin;
        world = is.world;
        count = same.relations_are ∙ is.count;
        hits_are = new_hits;
        looks = looks;
        maps_are = ap (maps_numbered book) same.maps_are ∙ is.maps_are;
        passed = is.passed ++ the_group.group ∷ [];
        groups = the_group.others;
        groups_are = is.groups_are ∙ ap (λ (gs : List Group). is.passed ++ gs) the_group.groups_are ∙ sym (append_assoc is.passed (the_group.group ∷ []) the_group.others);
        entries = next.rest;
        given = next.left;
        entries_are = the_group.behind;
        rows = new_rows;
        in_hand = in_new_hand;
        left_is = is.left_is ∙ ap (λ (rows : List Candidate). rows ++ rows_in (map (candidates_at w) is.groups)) none_in_hand ∙ ap (λ (gs : List Group). rows_in (map (candidates_at w) gs)) the_group.groups_are;
      }
