-- A look at a key's token: the key is then the one candidate, or none is left.
use Rattle.std.proofs.Common.{◌≡◌, ◌≢◌, ℕ, ◌+◌, ◌<◌, ◌≤◌, ◌==◌, Bool, true, false, cond, ◌||◌, nat_eq, List, [], ◌∷◌, ◌++◌, length, map, reverse, Option, None, refl, sym, ap, ap₂, subst, ◌∙◌, arith, append-nil, ◌⊎◌, inl, inr}
use Rattle.std.proofs.lemmas.Bool.Decides.{nat_tests}
use Rattle.std.proofs.lemmas.Grind.{reverse_onto}
use Rattle.std.proofs.lemmas.List.Elements.{filter-append}
use Rattle.std.proofs.lemmas.List.Folds.{list_any-append}
use Rattle.std.proofs.lemmas.Cmp.{tied_itself}
use Rattle.std.specs.Cmp.Lexicographic.{nat_list_cmp_total}
use Rattle.std.specs.FinMap as map_
use Rattle.std.specs.List.{AllByRecursion, filter, flat_map, list_any}
use Rattle.std.specs.List.Sorted.{IsStrictlySortedBy}
use Rattle.std.specs.declared.cmp.Ordering.TheVariants.{Less, Equal}
use Rattle.sasi_types.specs.declared.decorated_key.DecoratedKey.{DecoratedKey}
use Rattle.sasi_types.specs.Key.{key_cmp}
use Rattle.sasi_types.specs.Token.{token_of}
use Rattle.sasi_host.specs.Names.{Folder}
use Rattle.sasi_cells.specs.Maps.{merged}
use Rattle.sasi_model.specs.Tokens.{same}
use Rattle.sasi_memindex.specs.Book.{Book}
use Rattle.sasi_ranges.specs.declared.entry.Entry.{Entry}
use Rattle.sasi_ranges.specs.Entries.{has_token}
use Rattle.sasi_candidates.specs.Costs.{token_cost}
use Rattle.sasi_candidates.specs.Groups.{Group, rows_in}
use Rattle.sasi_candidates.specs.Parts.{maps_of}
use Rattle.sasi_lookup.specs.Lookups.{HasKeysOf, IsLookingIn}
use Rattle.sasi_lookup.specs.Reads.{found_pages, turn_reads}
use Rattle.sasi_recheck.specs.Sources.{Candidate}
use Rattle.sasi_engine.specs.declared.hand.Hand.{Hand}
use Rattle.sasi_engine.specs.Asked.{asked_of}
use Rattle.sasi_engine.specs.HitCandidates.{IsLeft, IsRowOf, IsWorld, PlanWorld, candidates_at, entries_at, hit_entries}
use Rattle.sasi_engine.specs.Parts.{hits_in, hits_of}
use Rattle.sasi_engine.specs.TokenHits.{AreSmall, contents_in_files, maps_numbered}
use Rattle.sasi_engine.specs.TokenTurns.{with_token}
use Rattle.sasi_engine.specs.inside.KeyedSteps.{IsKeyLeft, IsKeyTurned, rows_of_key}
use Rattle.sasi_engine.specs.inside.Steps.{AreKeysLeft, IsSameHand}
use Rattle.sasi_engine.proofs.KeyPlaces.{equal_bytes, own_bytes}
use Rattle.sasi_engine.proofs.LookCosts.{first_within, later_within}
use Rattle.sasi_engine.proofs.TurnedLaws.{keys_of_group, none_in_hand, run_begins}
use Rattle.sasi_engine.proofs.WorldLaws.{IsLookedGroup, TokensUp, all_behind, groups_looked, groups_there, groups_up, up_behind}

equal : (x y : ℕ) → nat_eq x y ≡ true → x ≡ y
equal x y e = grind (arith, nat_tests)

apart_from : (x y : ℕ) → nat_eq x y ≡ false → x ≢ y
apart_from x y e same = (let no : false ≡ true = sym e ∙ ap (λ n. nat_eq x n) (sym same) ∙ itself x in cc)
  where
    itself : (n : ℕ) → nat_eq n n ≡ true
    itself n = grind (arith, nat_tests)

apart_test : (x y : ℕ) → x ≢ y → nat_eq x y ≡ false
apart_test x y other = by (nat_eq x y) refl
  where
    by : (b : Bool) → nat_eq x y ≡ b → b ≡ false
    by true e = absurd (other (equal x y e))
    by false e = refl

other_way : (a b : List ℕ) → same b a ≡ false → same a b ≡ false
other_way a b isnt = by (same a b) refl
  where
    by : (c : Bool) → same a b ≡ c → c ≡ false
    by true is = (let no : true ≡ false = sym (own_bytes b) ∙ ap (same b) (sym (equal_bytes a b is)) ∙ isnt in cc)
    by false is = refl

below_itself : (key : List ℕ) → key_cmp key key ≡ Less → ⊥
below_itself key below = (let no : Less ≡ Equal = sym below ∙ tied_itself nat_list_cmp_total key in absurd (cc))

pub some_there : {A : Type 0} (xs : List A) → (length xs == 0) ≡ false → xs ≡ [] → ⊥
some_there [] isnt is = (let no : true ≡ false = isnt in cc)
some_there (x ∷ xs) isnt is = cc

-- ---- entries of a run

-- a run of another token has none,
other_run : (t u : ℕ) (es : List Entry) → u ≢ t → with_token t (with_token u es) ≡ []
other_run t u [] other = refl
other_run t u (e ∷ es) other = by (nat_eq e.token u) refl (other_run t u es other)
  where
    by : (b : Bool) → nat_eq e.token u ≡ b → with_token t (with_token u es) ≡ [] → with_token t (cond b (e ∷ with_token u es) (with_token u es)) ≡ []
    by true is rest = ap (λ b. cond b (e ∷ with_token t (with_token u es)) (with_token t (with_token u es))) (apart_test e.token t (λ same. other (sym (equal e.token u is) ∙ same))) ∙ rest
    by false isnt rest = rest

-- and its own one is all of them
own_run : (t : ℕ) (es : List Entry) → with_token t (with_token t es) ≡ with_token t es
own_run t [] = refl
own_run t (e ∷ es) = by (nat_eq e.token t) refl (own_run t es)
  where
    by : (b : Bool) → nat_eq e.token t ≡ b → with_token t (with_token t es) ≡ with_token t es → with_token t (cond b (e ∷ with_token t es) (with_token t es)) ≡ cond b (e ∷ with_token t es) (with_token t es)
    by true is rest = ap (λ b. cond b (e ∷ with_token t (with_token t es)) (with_token t (with_token t es))) is ∙ ap (λ (l : List Entry). e ∷ l) rest
    by false isnt rest = rest

-- ---- rows with the key

-- of rising keys one alone is this key
no_later : (key : List ℕ) (rows : List Candidate) → AllByRecursion (λ k. key_cmp key k ≡ Less) (map (λ (e : Candidate). e.0.key) rows) → rows_of_key key rows ≡ []
no_later key [] above = refl
no_later key (e ∷ rows) above = by (same e.0.key key) refl (no_later key rows above.1)
  where
    by : (b : Bool) → same e.0.key key ≡ b → rows_of_key key rows ≡ [] → cond b (e ∷ rows_of_key key rows) (rows_of_key key rows) ≡ []
    by true is rest = absurd (below_itself key (subst (λ k. key_cmp key k ≡ Less) (equal_bytes e.0.key key is) above.0))
    by false isnt rest = rest

-- the one row with the key
record IsOneRow (key : List ℕ) (P : Candidate → Type 0) (rows : List Candidate) : Type 0 where
  pub row : Candidate
  pub rows_are : rows_of_key key rows ≡ row ∷ []
  pub key_is : row.0.key ≡ key
  pub is : P row

one_row : (key : List ℕ) (P : Candidate → Type 0) (rows : List Candidate) → IsStrictlySortedBy key_cmp (map (λ (e : Candidate). e.0.key) rows) → AllByRecursion P rows → list_any (same key) (map (λ (e : Candidate). e.0.key) rows) ≡ true → IsOneRow key P rows
unfolding IsStrictlySortedBy
one_row key P [] rise all any = cc
one_row key P (e ∷ rows) rise all any = by (same key e.0.key) refl any (one_row key P rows rise.1 all.1)
  where
    by : (b : Bool) → same key e.0.key ≡ b → (b || list_any (same key) (map (λ (x : Candidate). x.0.key) rows)) ≡ true → (list_any (same key) (map (λ (x : Candidate). x.0.key) rows) ≡ true → IsOneRow key P rows) → IsOneRow key P (e ∷ rows)
    by true is has later =
        let key_is : e.0.key ≡ key = sym (equal_bytes key e.0.key is) in
        record {
          row = e;
          rows_are = ap (λ b. cond b (e ∷ rows_of_key key rows) (rows_of_key key rows)) (ap (λ k. same k key) key_is ∙ own_bytes key) ∙ ap (λ (l : List Candidate). e ∷ l) (no_later key rows (subst (λ k. AllByRecursion (λ x. key_cmp k x ≡ Less) (map (λ (x : Candidate). x.0.key) rows)) key_is rise.0));
          key_is = key_is;
          is = all.0;
        }
    by false isnt has later =
        let rest = later has in
        record {
          row = rest.row;
          rows_are = ap (λ b. cond b (e ∷ rows_of_key key rows) (rows_of_key key rows)) (other_way e.0.key key isnt) ∙ rest.rows_are;
          key_is = rest.key_is;
          is = rest.is;
        }

no_row : (key : List ℕ) (rows : List Candidate) → list_any (same key) (map (λ (e : Candidate). e.0.key) rows) ≡ false → rows_of_key key rows ≡ []
no_row key [] none = refl
no_row key (e ∷ rows) none = by (same key e.0.key) refl none (no_row key rows)
  where
    by : (b : Bool) → same key e.0.key ≡ b → (b || list_any (same key) (map (λ (x : Candidate). x.0.key) rows)) ≡ false → (list_any (same key) (map (λ (x : Candidate). x.0.key) rows) ≡ false → rows_of_key key rows ≡ []) → rows_of_key key (e ∷ rows) ≡ []
    by true is has later = cc
    by false isnt has later = ap (λ b. cond b (e ∷ rows_of_key key rows) (rows_of_key key rows)) (other_way e.0.key key isnt) ∙ later has

-- it doesn't matter in which direction keys are searched
any_back : {A : Type 0} (test : A → Bool) (xs : List A) → list_any test (reverse xs) ≡ list_any test xs
any_back test [] = refl
any_back test (x ∷ xs) = ap (list_any test) (reverse_onto xs x []) ∙ list_any-append test (reverse xs) (x ∷ []) ∙ ap (λ b. b || (test x || false)) (any_back test xs) ∙ turn (list_any test xs) (test x)
  where
    turn : (a b : Bool) → (a || (b || false)) ≡ (b || a)
    turn true true = refl
    turn true false = refl
    turn false true = refl
    turn false false = refl

-- ---- the groups that are left

module _ (w : PlanWorld) (origin : Book) (world : IsWorld w origin) (key : DecoratedKey) (own : token_of w.partitioner key.key ≡ key.token) where
  abbrev mine : List Candidate → List Candidate
  mine rows = rows_of_key key.key rows

  abbrev rows_of : Group → List Candidate
  rows_of g = (candidates_at w g).rows

  -- rows of another token haven't the key
  rows_apart : (token : ℕ) (rows : List Candidate) → AllByRecursion (IsRowOf w token) rows → token ≢ key.token → mine rows ≡ []
  rows_apart token [] all other = refl
  rows_apart token (e ∷ rows) all other = by (same e.0.key key.key) refl (rows_apart token rows all.1 other)
    where
      by : (b : Bool) → same e.0.key key.key ≡ b → mine rows ≡ [] → cond b (e ∷ mine rows) (mine rows) ≡ []
      by true is rest = absurd (other (sym all.0.own_token ∙ ap (token_of w.partitioner) (equal_bytes e.0.key key.key is) ∙ own))
      by false isnt rest = rest

  -- no group has the token, and no row the key
  record HaveNone (groups : List Group) : Type 0 where
    pub taken_is : with_token key.token (flat_map (entries_at w) groups) ≡ []
    pub rows_are : mine (rows_in (map (candidates_at w) groups)) ≡ []

  -- or one group has the token
  record HaveOne (groups : List Group) : Type 0 where
    pub group : Group
    pub looked : IsLookedGroup w origin world group
    pub there : has_token group.token (hit_entries w) ≡ true
    pub token_is : group.token ≡ key.token
    pub taken_is : with_token key.token (flat_map (entries_at w) groups) ≡ entries_at w group
    pub rows_are : mine (rows_in (map (candidates_at w) groups)) ≡ mine (rows_of group)

  first_other : (g : Group) → IsLookedGroup w origin world g → g.token ≢ key.token → (with_token key.token (entries_at w g) ≡ []) × (mine (rows_of g) ≡ [])
  first_other g looked other = (other_run key.token g.token (hit_entries w) other, rows_apart g.token (rows_of g) looked.rows other)

  taken_on : (g : Group) (gs : List Group) → with_token key.token (flat_map (entries_at w) (g ∷ gs)) ≡ with_token key.token (entries_at w g) ++ with_token key.token (flat_map (entries_at w) gs)
  taken_on g gs = filter-append (λ (e : Entry). nat_eq e.token key.token) (entries_at w g) (flat_map (entries_at w) gs)

  rows_on : (g : Group) (gs : List Group) → mine (rows_in (map (candidates_at w) (g ∷ gs))) ≡ mine (rows_of g) ++ mine (rows_in (map (candidates_at w) gs))
  rows_on g gs = filter-append (λ (e : Candidate). same e.0.key key.key) (rows_of g) (rows_in (map (candidates_at w) gs))

  none_of : (groups : List Group) → AllByRecursion (IsLookedGroup w origin world) groups → AllByRecursion (λ (g : Group). key.token < g.token) groups → HaveNone groups
  none_of [] looked above = record { taken_is = refl; rows_are = refl }
  none_of (g ∷ gs) looked above =
      let first = first_other g looked.0 (λ same. omega (arith, above.0, same)) in
      let rest = none_of gs looked.1 above.1 in
      record {
        taken_is = taken_on g gs ∙ ap₂ (λ (xs ys : List Entry). xs ++ ys) first.0 rest.taken_is;
        rows_are = rows_on g gs ∙ ap₂ (λ (xs ys : List Candidate). xs ++ ys) first.1 rest.rows_are;
      }

  find_group : (groups : List Group) → AllByRecursion (IsLookedGroup w origin world) groups → AllByRecursion (λ (g : Group). has_token g.token (hit_entries w) ≡ true) groups → TokensUp w origin world groups → HaveNone groups ⊎ HaveOne groups
  find_group [] looked there up = inl (record { taken_is = refl; rows_are = refl })
  find_group (g ∷ gs) looked there up = by (nat_eq g.token key.token) refl (find_group gs looked.1 there.1 up.1)
    where
      later : g.token ≢ key.token → HaveNone gs ⊎ HaveOne gs → HaveNone (g ∷ gs) ⊎ HaveOne (g ∷ gs)
      later other (inl none) =
          let first = first_other g looked.0 other in
          inl (record {
            taken_is = taken_on g gs ∙ ap₂ (λ (xs ys : List Entry). xs ++ ys) first.0 none.taken_is;
            rows_are = rows_on g gs ∙ ap₂ (λ (xs ys : List Candidate). xs ++ ys) first.1 none.rows_are;
          })
      later other (inr one) =
          let first = first_other g looked.0 other in
          inr (record {
            group = one.group;
            looked = one.looked;
            there = one.there;
            token_is = one.token_is;
            taken_is = taken_on g gs ∙ ap₂ (λ (xs ys : List Entry). xs ++ ys) first.0 one.taken_is;
            rows_are = rows_on g gs ∙ ap₂ (λ (xs ys : List Candidate). xs ++ ys) first.1 one.rows_are;
          })

      above_all : (hs : List Group) → g.token ≡ key.token → AllByRecursion (λ (h : Group). g.token < h.token) hs → AllByRecursion (λ (h : Group). key.token < h.token) hs
      above_all hs is all = subst (λ t. AllByRecursion (λ (h : Group). t < h.token) hs) is all

      by : (b : Bool) → nat_eq g.token key.token ≡ b → HaveNone gs ⊎ HaveOne gs → HaveNone (g ∷ gs) ⊎ HaveOne (g ∷ gs)
      by true is rest =
          let token_is : g.token ≡ key.token = equal g.token key.token is in
          let none = none_of gs looked.1 (above_all gs token_is up.0) in
          inr (record {
            group = g;
            looked = looked.0;
            there = there.0;
            token_is = token_is;
            taken_is = taken_on g gs ∙ ap₂ (λ (xs ys : List Entry). xs ++ ys) (ap (λ t. with_token t (entries_at w g)) (sym token_is) ∙ own_run g.token (hit_entries w)) none.taken_is ∙ append-nil (entries_at w g);
            rows_are = rows_on g gs ∙ ap (λ (l : List Candidate). mine (rows_of g) ++ l) none.rows_are ∙ append-nil (mine (rows_of g));
          })
      by false isnt rest = later (apart_from g.token key.token isnt) rest

-- ---- a look at the token

module _ (w : PlanWorld) (files : Option Folder) (book : Book) (Hits : List Entry → Type 0) (hand : Hand) (key : DecoratedKey) (left : List Candidate) (is : IsKeyLeft w files book Hits hand key left) where
  abbrev hits : IsLeft w files book Hits None hand is.by_hits
  hits = is.are_left

  -- the token of the key is its own
  own_token : token_of w.partitioner key.key ≡ key.token
  own_token = ap (λ (k : DecoratedKey). k.token) (sym is.own)

  abbrev Groups : List Group → Type 0
  Groups gs = HaveNone w hits.origin hits.world key own_token gs ⊎ HaveOne w hits.origin hits.world key own_token gs

  the_groups : Groups hits.groups
  the_groups =
      find_group w hits.origin hits.world key own_token hits.groups
      (all_behind w hits.origin hits.world (IsLookedGroup w hits.origin hits.world) hits.passed hits.groups (subst (AllByRecursion (IsLookedGroup w hits.origin hits.world)) hits.groups_are (groups_looked w hits.origin hits.world)))
      (all_behind w hits.origin hits.world (λ (h : Group). has_token h.token (hit_entries w) ≡ true) hits.passed hits.groups (subst (AllByRecursion (λ (h : Group). has_token h.token (hit_entries w) ≡ true)) hits.groups_are (groups_there w hits.origin hits.world)))
      (up_behind w hits.origin hits.world hits.passed hits.groups (subst (TokensUp w hits.origin hits.world) hits.groups_are (groups_up w hits.origin hits.world)))

  -- the rows that are left are those of the groups
  left_rows : left ≡ rows_of_key key.key (rows_in (map (candidates_at w) hits.groups))
  left_rows = is.left_is ∙ ap (rows_of_key key.key) (hits.left_is ∙ ap (λ (rows : List Candidate). rows ++ rows_in (map (candidates_at w) hits.groups)) (none_in_hand w files book Hits Hits None None hand hand is.by_hits hits is.none))

  abbrev taken : List Entry
  taken = with_token key.token hits.entries

  -- **Where the stream has no entry of the token, no candidate is left.**
  pub none_left : taken ≡ [] → left ≡ []
  none_left none = left_rows ∙ by the_groups
    where
      by : Groups hits.groups → rows_of_key key.key (rows_in (map (candidates_at w) hits.groups)) ≡ []
      by (inl have) = have.rows_are
      by (inr have) =
          let begins = run_begins have.group.token (hit_entries w) have.there in
          let no : begins.first ∷ begins.others ≡ [] = sym begins.is ∙ sym have.taken_is ∙ ap (with_token key.token) (sym hits.entries_are) ∙ none in
          cc

  -- **Where it has some, and the keys of the token are in hand, the key is the one candidate if it is among them, and else none is left.**
  module _ (new : Hand) (alike : IsSameHand hand new) (keys : AreKeysLeft new key.token taken) (has : HasKeysOf w.partitioner key.token (contents_in_files w.parts) new.lookup) (looks : IsLookingIn files w.partitioner (contents_in_files w.parts) new.lookup) where
    new_hits : map hits_in new.parts.items ≡ hits_of (asked_of w.conditions) 0 w.parts
    new_hits = ap (map hits_in) alike.parts_are ∙ hits.hits_are

    abbrev Turned : Bool → Type 0
    Turned found = IsKeyTurned w files book new key left found

    of_group : HaveOne w hits.origin hits.world key own_token hits.groups → (b : Bool) → list_any (same key.key) new.keys.items ≡ b → Turned b
    of_group have b tested = by b tested
      where
        g : Group
        g = have.group

        rows : List Candidate
        rows = (candidates_at w g).rows

        taken_is : taken ≡ entries_at w g
        taken_is = ap (with_token key.token) hits.entries_are ∙ have.taken_is

        keys_are : reverse new.keys.items ≡ map (λ (e : Candidate). e.0.key) rows
        keys_are =
            keys_of_group w hits.origin hits.world g have.looked new taken (alike.relations_are ∙ hits.count) new_hits
            (subst (λ t. HasKeysOf w.partitioner t (contents_in_files w.parts) new.lookup) (sym have.token_is) has) taken_is (subst (λ t. AreKeysLeft new t taken) (sym have.token_is) keys)

        any_is : list_any (same key.key) (map (λ (e : Candidate). e.0.key) rows) ≡ list_any (same key.key) new.keys.items
        any_is = ap (list_any (same key.key)) (sym keys_are) ∙ any_back (same key.key) new.keys.items

        by : (b : Bool) → list_any (same key.key) new.keys.items ≡ b → Turned b
        by true found =
            let one = one_row key.key (IsRowOf w g.token) rows have.looked.rise have.looked.rows (any_is ∙ found) in
            let row_is : one.row.0 ≡ key = λ i. record { token = (one.is.of_token ∙ have.token_is) i; key = one.key_is i } in
            record {
              row = one.row;
              left_is = left_rows ∙ have.rows_are ∙ one.rows_are;
              key_is = one.key_is;
              merged_is = ap (map_.get (merged (maps_of w.parts))) (sym row_is) ∙ one.is.merged_is;
              turned = has;
              looks = looks;
              maps_are = ap (maps_numbered book) alike.maps_are ∙ hits.maps_are;
            }
        by false nowhere = left_rows ∙ have.rows_are ∙ no_row key.key rows (any_is ∙ nowhere)

    of_none : HaveNone w hits.origin hits.world key own_token hits.groups → (b : Bool) → (taken ≡ [] → ⊥) → Turned b
    of_none have b some = absurd (some (ap (with_token key.token) hits.entries_are ∙ have.taken_is))

    pub key_turned : (taken ≡ [] → ⊥) → (b : Bool) → b ≡ list_any (same key.key) new.keys.items → Turned b
    key_turned some b tested = by the_groups
      where
        by : Groups hits.groups → Turned b
        by (inl have) = of_none have b some
        by (inr have) = of_group have b (sym tested)

  -- **What is read is paid, together with what the look-up of the key then takes.**
  pub stream_within : (most was now : ℕ) → now ≤ was + most → now + found_pages key.key (contents_in_files w.parts) ≤ was + (most + token_cost w.partitioner w.parts key.token)
  stream_within most was now spent = omega (arith, spent, later_within w.partitioner key.token key.key own_token w.parts)

  pub look_within : AreSmall w.parts → (most was mid now : ℕ) → mid ≤ was + most → now ≤ mid + turn_reads w.partitioner key.token hand.lookup.files (contents_in_files w.parts) → now + found_pages key.key (contents_in_files w.parts) ≤ was + (most + token_cost w.partitioner w.parts key.token)
  look_within small most was mid now spent reads = omega (arith, spent, reads, first_within w.partitioner key.token key.key own_token hand.lookup.files w.parts small)
