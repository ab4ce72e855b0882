-- What a merge gives, of its sources and of its pairs in memory.
use Rattle.std.specs.Prelude.{◌≡◌, ℕ, ◌+◌, ◌<◌, ◌≤◌, ◌⊎◌, Bool, true, false, List, [], ◌∷◌, ◌++◌, length, drop, All, Contains, Option, None, Some, refl}
use Rattle.std.proofs.Common.{◌∙◌, sym, ap, subst, arith, inl, inr, ⊎_elim}
use Rattle.std.specs.List.Sorted.{IsPermutation}
use Rattle.std.specs.Option.{option_to_list}
use Rattle.std.proofs.lemmas.List.Elements.{All-cons, All-contains, All-weaker, Contains-append_cases, Contains-append_left, Contains-push}
use Rattle.std.proofs.lemmas.List.Sorted.{All-permutation, Contains-permutation, IsPermutation-sym, length_permutation}
use Rattle.sasi_types.specs.declared.tree.Pair.{Pair}
use Rattle.sasi_types.specs.declared.tree.TreeRef.{TreeRef}
use Rattle.sasi_host.specs.declared.name.FileName.{FileName}
use Rattle.sasi_host.specs.Names.{Bytes}
use Rattle.sasi_host.specs.View.{View, contents}
use Rattle.sasi_host.specs.Disk.{Changes, Same}
use Rattle.sasi_tokentree.specs.Format.{HasTree}
use Rattle.sasi_treemerge.specs.declared.held_pair.HeldPair.{HeldPair}
use Rattle.sasi_treemerge.specs.declared.merge.TreeMerge.{TreeMerge}
use Rattle.sasi_treemerge.specs.declared.tree_source.TreeSource.{TreeSource}
use Rattle.sasi_treemerge.specs.Held.{IsHeld}
use Rattle.sasi_treemerge.specs.Sources.{is_before}
use Rattle.sasi_treemerge.specs.Merges.{Adds, AddsIf, AddsPairs, AdvancesTo, CanMerge, Gives, HeadsFirst, HoldsMore, IsLeast, IsPairOf, IsSourceIn, IsSourceOf, IsStillGiven, KeepsHeld, NoneHeldBefore, Parts, ReadsEach, Steps, StepsBy, Takes, TakesHeld, TreesStay, is_left, left_of, sources_of}
use Rattle.sasi_treemerge.proofs.Merging.{contains_cases, contains_first, contains_later, contains_none, each_on, each_step, fewer_left, given_least, still_given, trees_step}
use Rattle.sasi_treemerge.proofs.Merging as sources
use Rattle.sasi_treemerge.proofs.PairOrder.{first_least, not_before_on}

differ : true ≡ false → ⊥
differ e = cc

-- ---- a pair is taken out

-- a pair in memory
module _ (bytes : Bytes) (lists : List (List Pair)) (old new : Parts) (head : Pair) (takes : TakesHeld head old new) where
  here : IsHeld old.pairs head
  here = Contains-permutation (record { pair = head } ∷ new.pairs) old.pairs (record { pair = head }) (IsPermutation-sym old.pairs (record { pair = head } ∷ new.pairs) takes.taken) (contains_first (record { pair = head }) new.pairs)

  was_held : (pair : Pair) → IsHeld new.pairs pair → IsHeld old.pairs pair
  was_held pair is =
      Contains-permutation (record { pair = head } ∷ new.pairs) old.pairs (record { pair = pair }) (IsPermutation-sym old.pairs (record { pair = head } ∷ new.pairs) takes.taken) (contains_later (record { pair = head }) (record { pair = pair }) new.pairs is)

  or_head : (pair : Pair) → IsHeld old.pairs pair → (head ≡ pair) ⊎ IsHeld new.pairs pair
  or_head pair is = ⊎_elim (λ this. inl (ap (λ (h : HeldPair). h.pair) this)) (λ other. inr other)
      (contains_cases (record { pair = head }) (record { pair = pair }) new.pairs (Contains-permutation old.pairs (record { pair = head } ∷ new.pairs) (record { pair = pair }) takes.taken is))

  held_listed : (last : Option Pair) (floor : ℕ) → Gives bytes lists last floor old → IsPairOf lists head
  held_listed last floor gives = gives.held head here

  held_least : (last : Option Pair) (floor : ℕ) → Gives bytes lists last floor old → (pair : Pair) → IsPairOf lists pair → is_left last floor pair ≡ true → is_before pair head ≡ false
  held_least last floor gives pair of left = ⊎_elim
      (λ still. not_before_on pair still.source.head head
      (first_least of.pairs still.is.before still.source.tree.value.passed still.source.head pair still.is.tree.rising still.is.left still.gives)
      (All-contains (λ (s : TreeSource). is_before s.head head ≡ false) old.sources still.source takes.before_heads still.there))
      (λ is. takes.least pair is)
      (gives.all of.pairs pair of.listed of.has left)

  held_gives : (last : Option Pair) (floor : ℕ) (last_now : Option Pair) (floor_now : ℕ) → Gives bytes lists last floor old → ((pair : Pair) → is_left last_now floor_now pair ≡ true → is_left last floor pair ≡ true)
      → is_left last_now floor_now head ≡ false → Gives bytes lists last_now floor_now new
  held_gives last floor last_now floor_now gives fewer gone = record {
    each = subst (λ (l : List TreeSource). All (IsSourceIn bytes lists) l) (sym takes.sources_stay) gives.each;
    held = λ pair is. gives.held pair (was_held pair is);
    all = λ pairs pair listed has left. ⊎_elim
        (λ still. inl (subst (λ (l : List TreeSource). IsStillGiven bytes pairs l pair) (sym takes.sources_stay) still))
        (λ is. ⊎_elim (λ this. absurd (differ (sym left ∙ ap (λ (p : Pair). is_left last_now floor_now p) (sym this) ∙ gone))) (λ other. inr other) (or_head pair is))
        (gives.all pairs pair listed has (fewer pair left));
  }

-- a pair in memory or the head of a source
module _ (v : View) (file : FileName) (bytes : Bytes) (lists : List (List Pair)) (old new : Parts) (head : Pair) (named : All (λ (s : TreeSource). s.tree.value.buffered.file ≡ file) old.sources) (reads : contents v file ≡ Some bytes)
    (each : All (IsSourceIn bytes lists) old.sources) where
  pub each_after : Takes v old new (Some head) → All (IsSourceIn bytes lists) new.sources
  each_after (inl takes) = subst (λ (l : List TreeSource). All (IsSourceIn bytes lists) l) (sym takes.sources_stay) each
  each_after (inr takes) = each_on v file bytes lists old.sources new.sources head takes.steps named reads each

  pub head_listed : (last : Option Pair) (floor : ℕ) → Takes v old new (Some head) → Gives bytes lists last floor old → IsPairOf lists head
  head_listed last floor (inl takes) gives = held_listed bytes lists old new head takes last floor gives
  head_listed last floor (inr takes) gives = sources.head_listed v file bytes lists old.sources new.sources head takes.steps named reads each

  pub head_least : (last : Option Pair) (floor : ℕ) → Takes v old new (Some head) → Gives bytes lists last floor old → (pair : Pair) → IsPairOf lists pair → is_left last floor pair ≡ true → is_before pair head ≡ false
  head_least last floor (inl takes) gives pair of left = held_least bytes lists old new head takes last floor gives pair of left
  head_least last floor (inr takes) gives pair of left = ⊎_elim
      (λ still. given_least v file bytes lists old.sources new.sources head takes.steps named reads each of.pairs pair still)
      (λ is. takes.before_held pair is)
      (gives.all of.pairs pair of.listed of.has left)

  pub gives_after : (last : Option Pair) (floor : ℕ) (last_now : Option Pair) (floor_now : ℕ) → Takes v old new (Some head) → Gives bytes lists last floor old → ((pair : Pair) → is_left last_now floor_now pair ≡ true → is_left last floor pair ≡ true)
      → is_left last_now floor_now head ≡ false → Gives bytes lists last_now floor_now new
  gives_after last floor last_now floor_now (inl takes) gives fewer gone = held_gives bytes lists old new head takes last floor last_now floor_now gives fewer gone
  gives_after last floor last_now floor_now (inr takes) gives fewer gone = record {
    each = each_on v file bytes lists old.sources new.sources head takes.steps named reads each;
    held = λ pair is. gives.held pair (subst (λ (l : List HeldPair). IsHeld l pair) takes.held_stay is);
    all = λ pairs pair listed has left. ⊎_elim
        (λ still. inl (still_given v file bytes lists old.sources new.sources head takes.steps named reads each last_now floor_now gone pairs pair left still))
        (λ is. inr (subst (λ (l : List HeldPair). IsHeld l pair) (sym takes.held_stay) is))
        (gives.all pairs pair listed has (fewer pair left));
  }

-- a step of the sources, before whose head no pair in memory comes
pub steps_take : (v : View) (old mid new : Parts) (found : Option Pair) → mid.sources ≡ old.sources → HeadsFirst old.sources old.pairs → new.pairs ≡ old.pairs → Steps v mid.sources new.sources found → Takes v old new found
steps_take v old mid new None same first stay steps = let none = sym same ∙ steps.0 in (none, first.1 none, steps.1, stay ∙ first.1 none)
steps_take v old mid new (Some head) same first stay steps =
    let now : StepsBy v head old.sources new.sources = subst (λ (l : List TreeSource). StepsBy v head l new.sources) same steps in
    let there = Contains-permutation (now.source ∷ now.others) old.sources now.source (IsPermutation-sym old.sources (now.source ∷ now.others) now.taken) (contains_first now.source now.others) in
    inr (record { steps = now; held_stay = stay; before_held = subst (λ (p : Pair). NoneHeldBefore old.pairs p) (sym now.head_is) (first.0 now.source there now.least) })

-- where neither a source nor a pair in memory is left, no pair is
pub gives_none : (bytes : Bytes) (lists : List (List Pair)) (last : Option Pair) (floor : ℕ) (parts : Parts) → parts.sources ≡ [] → parts.pairs ≡ [] → Gives bytes lists last floor parts → IsLeast lists last floor None
gives_none bytes lists last floor parts none empty gives = λ pair of. by_test (is_left last floor pair) refl of
  where
    by_test : {pair : Pair} (test : Bool) → is_left last floor pair ≡ test → IsPairOf lists pair → is_left last floor pair ≡ false
    by_test true left of = absurd (⊎_elim (λ still. contains_none parts.sources still.source none still.there) (λ is. contains_none parts.pairs _ empty is) (gives.all of.pairs _ of.listed of.has left))
    by_test false left of = left

-- the parts stay where nothing is taken
pub gives_still : (v : View) (bytes : Bytes) (lists : List (List Pair)) (last : Option Pair) (floor : ℕ) (old new : Parts) → Takes v old new None → Gives bytes lists last floor old → Gives bytes lists last floor new
gives_still v bytes lists last floor old new takes gives =
    subst (λ (p : Parts). Gives bytes lists last floor p) (same old.sources new.sources old.pairs new.pairs (takes.0 ∙ sym takes.2) (takes.1 ∙ sym takes.3)) gives
  where
    parts : List TreeSource → List HeldPair → Parts
    parts sources pairs = record { sources = sources; pairs = pairs }

    same : (a b : List TreeSource) (c d : List HeldPair) → a ≡ b → c ≡ d → parts a c ≡ parts b d
    same a b c d first second = ap (λ (l : List TreeSource). parts l c) first ∙ ap (λ (l : List HeldPair). parts b l) second

-- ---- what is left

-- how many pairs are left, read or not
abbrev pub left_in_parts : Parts → ℕ
left_in_parts parts = left_of parts.sources + length parts.pairs

pub fewer_parts : (v : View) (head : Pair) (old new : Parts) → Takes v old new (Some head) → All (λ (s : TreeSource). s.tree.value.passed ≤ s.tree.value.tree.pairs) old.sources → left_in_parts new < left_in_parts old
fewer_parts v head old new (inl takes) within =
    omega (arith, ap (λ (l : List TreeSource). left_of l) takes.sources_stay, length_permutation old.pairs (record { pair = head } ∷ new.pairs) takes.taken)
fewer_parts v head old new (inr takes) within =
    omega (arith, fewer_left v head old.sources new.sources takes.steps within, ap (λ (l : List HeldPair). length l) takes.held_stay)

pub trees_after : (v : View) (head : Pair) (old new : Parts) → Takes v old new (Some head) → TreesStay old.sources new.sources
trees_after v head old new (inl takes) = subst (λ (l : List TreeSource). TreesStay old.sources l) (sym takes.sources_stay) (sources.trees_same old.sources)
trees_after v head old new (inr takes) = trees_step v head old.sources new.sources takes.steps

pub each_entry_after : (v u w : View) (file : FileName) (head : Pair) (mid new : Parts) (merge : TreeMerge) → Takes w mid new (Some head) → CanMerge u merge → sources_of merge ≡ new.sources → merge.file ≡ file → Changes Same v u → (old : List TreeSource)
    → ReadsEach v file old mid.sources → ReadsEach v file old new.sources
each_entry_after v u w file head mid new merge (inl takes) can are file_is same old before = subst (λ (l : List TreeSource). ReadsEach v file old l) (sym takes.sources_stay) before
each_entry_after v u w file head mid new merge (inr takes) can are file_is same old before = each_step v u w file head mid.sources new.sources merge takes.steps can are file_is same old before

-- of the pairs in memory each is still there, or isn't left
abbrev pub KeepsLeft : Option Pair → ℕ → List HeldPair → List HeldPair → Type 0
KeepsLeft last floor old new = (pair : Pair) → IsHeld old pair → IsHeld new pair ⊎ (is_left last floor pair ≡ false)

pub keeps_passed : (v : View) (last : Option Pair) (floor : ℕ) (head : Pair) (first : List HeldPair) (old new : Parts) → Takes v old new (Some head) → is_left last floor head ≡ false → KeepsLeft last floor first old.pairs
    → KeepsLeft last floor first new.pairs
keeps_passed v last floor head first old new (inl takes) gone before pair is = ⊎_elim
    (λ still. ⊎_elim (λ this. inr (ap (λ (p : Pair). is_left last floor p) (sym this) ∙ gone)) (λ other. inl other) (or_head [] [] old new head takes pair still))
    (λ passed. inr passed)
    (before pair is)
keeps_passed v last floor head first old new (inr takes) gone before pair is = ⊎_elim (λ still. inl (subst (λ (l : List HeldPair). IsHeld l pair) (sym takes.held_stay) still)) (λ passed. inr passed) (before pair is)

pub keeps_given : (v : View) (last : Option Pair) (floor : ℕ) (head : Pair) (first : List HeldPair) (old new : Parts) → Takes v old new (Some head) → KeepsLeft last floor first old.pairs → KeepsHeld last floor (Some head) first new.pairs
keeps_given v last floor head first old new (inl takes) before pair is = ⊎_elim
    (λ still. ⊎_elim (λ this. inr (inr (ap (λ (p : Pair). Some p) this))) (λ other. inl other) (or_head [] [] old new head takes pair still))
    (λ passed. inr (inl passed))
    (before pair is)
keeps_given v last floor head first old new (inr takes) before pair is = ⊎_elim (λ still. inl (subst (λ (l : List HeldPair). IsHeld l pair) (sym takes.held_stay) still)) (λ passed. inr (inl passed)) (before pair is)

pub keeps_none : (v : View) (last : Option Pair) (floor : ℕ) (first : List HeldPair) (old new : Parts) → Takes v old new None → KeepsLeft last floor first old.pairs → KeepsHeld last floor None first new.pairs
keeps_none v last floor first old new takes before pair is = ⊎_elim (λ still. absurd (contains_none old.pairs (record { pair = pair }) takes.1 still)) (λ passed. inr (inl passed)) (before pair is)

-- ---- one list more

one_list : (pairs these : List Pair) → Contains (pairs ∷ []) these → these ≡ pairs
one_list pairs these has = ⊎_elim (λ same. sym same) (λ none. absurd (contains_none [] these refl none)) (contains_cases pairs these [] has)

module _ (bytes : Bytes) (lists : List (List Pair)) (last : Option Pair) (floor : ℕ) (pairs : List Pair) (old new : Parts) (gives : Gives bytes lists last floor old) where
  kept : All (IsSourceIn bytes (lists ++ pairs ∷ [])) old.sources
  kept = All-weaker (IsSourceIn bytes lists) (IsSourceIn bytes (lists ++ pairs ∷ [])) (λ s is. record { pairs = is.pairs; listed = Contains-append_left lists (pairs ∷ []) is.pairs is.listed; is = is.is }) old.sources gives.each

  held_before : (pair : Pair) → IsHeld old.pairs pair → IsPairOf (lists ++ pairs ∷ []) pair
  held_before pair is = let was = gives.held pair is in record { pairs = was.pairs; listed = Contains-append_left lists (pairs ∷ []) was.pairs was.listed; has = was.has }

  -- as pairs in memory
  holds_list : new.sources ≡ old.sources → HoldsMore pairs old.pairs new.pairs → Gives bytes (lists ++ pairs ∷ []) last floor new
  holds_list stay put = record {
    each = subst (λ (l : List TreeSource). All (IsSourceIn bytes (lists ++ pairs ∷ [])) l) (sym stay) kept;
    held = λ pair is. ⊎_elim (λ before. held_before pair before) (λ has. record { pairs = pairs; listed = Contains-push lists pairs; has = has }) (put.only pair is);
    all = λ these pair listed has left. ⊎_elim
        (λ before. ⊎_elim (λ still. inl (subst (λ (l : List TreeSource). IsStillGiven bytes these l pair) (sym stay) still)) (λ is. inr (put.kept pair is)) (gives.all these pair before has left))
        (λ this. inr (put.added pair (subst (λ (l : List Pair). Contains l pair) (one_list pairs these this) has)))
        (Contains-append_cases lists (pairs ∷ []) these listed);
  }

  -- as a source
  module _ (v : View) (file : FileName) (list : TreeRef) (reads : contents v file ≡ Some bytes) (tree : HasTree bytes list pairs) (stay : new.pairs ≡ old.pairs) where
    held_now : (pair : Pair) → IsHeld new.pairs pair → IsPairOf (lists ++ pairs ∷ []) pair
    held_now pair is = held_before pair (subst (λ (l : List HeldPair). IsHeld l pair) stay is)

    sources_list : (next : Option TreeSource) → AdvancesTo v (record { buffered = record { file = file; page = None; bytes = [] }; tree = list; passed = 0; last = None }) next → IsPermutation (option_to_list next ++ old.sources) new.sources
        → Gives bytes (lists ++ pairs ∷ []) last floor new
    sources_list None advances put = record {
      each = All-permutation (IsSourceIn bytes (lists ++ pairs ∷ [])) old.sources new.sources put kept;
      held = held_now;
      all = λ these pair listed has left. ⊎_elim
          (λ before. ⊎_elim
          (λ was. inl (record { source = was.source; there = Contains-permutation old.sources new.sources was.source put was.there; is = was.is; gives = was.gives }))
          (λ is. inr (subst (λ (l : List HeldPair). IsHeld l pair) (sym stay) is))
          (gives.all these pair before has left))
          (λ this. absurd (contains_none these pair (one_list pairs these this ∙ advances.1 bytes pairs reads tree) has))
          (Contains-append_cases lists (pairs ∷ []) these listed);
    }
    sources_list (Some next) advances put =
        let is : IsSourceOf bytes pairs next = record { tree = subst (λ (t : TreeRef). HasTree bytes t pairs) (sym advances.0) tree; before = 0; left = advances.3 bytes pairs reads tree } in
        record {
          each = All-permutation (IsSourceIn bytes (lists ++ pairs ∷ [])) (next ∷ old.sources) new.sources put
              (All-cons (IsSourceIn bytes (lists ++ pairs ∷ [])) next old.sources (record { pairs = pairs; listed = Contains-push lists pairs; is = is }) kept);
          held = held_now;
          all = λ these pair listed has left. ⊎_elim
              (λ before. ⊎_elim
              (λ was. inl (record {
                source = was.source;
                there = Contains-permutation (next ∷ old.sources) new.sources was.source put (contains_later next was.source old.sources was.there);
                is = was.is;
                gives = was.gives;
              }))
              (λ held. inr (subst (λ (l : List HeldPair). IsHeld l pair) (sym stay) held))
              (gives.all these pair before has left))
              (λ this. let same = one_list pairs these this in inl (record {
                source = next;
                there = Contains-permutation (next ∷ old.sources) new.sources next put (contains_first next old.sources);
                is = subst (λ (l : List Pair). IsSourceOf bytes l next) (sym same) is;
                gives = subst (λ (l : List Pair). Contains (next.head ∷ drop next.tree.value.passed l) pair) (sym same)
                    (subst (λ (l : List Pair). Contains l pair) (advances.3 bytes pairs reads tree) (subst (λ (l : List Pair). Contains l pair) same has));
              }))
              (Contains-append_cases lists (pairs ∷ []) these listed);
        }

-- pairs in memory are one list more
pub adds_pairs_list : (bytes : Bytes) (lists : List (List Pair)) (last : Option Pair) (floor : ℕ) (pairs : List Pair) (old new : Parts) → AddsPairs pairs old new → Gives bytes lists last floor old → Gives bytes (lists ++ pairs ∷ []) last floor new
adds_pairs_list bytes lists last floor pairs old new adds gives = holds_list bytes lists last floor pairs old new gives adds.sources_stay adds.put

-- and so is a tree, small or large
pub adds_list : (v : View) (file : FileName) (bytes : Bytes) (lists : List (List Pair)) (last : Option Pair) (floor : ℕ) (list : TreeRef) (pairs : List Pair) (old new : Parts) → Adds v file list old new
    → contents v file ≡ Some bytes → HasTree bytes list pairs → Gives bytes lists last floor old → Gives bytes (lists ++ pairs ∷ []) last floor new
adds_list v file bytes lists last floor list pairs old new adds reads tree gives = by_size _ adds
  where
    by_size : (small : Bool) → AddsIf v file list small old new → Gives bytes (lists ++ pairs ∷ []) last floor new
    by_size true (stay, holds) = holds_list bytes lists last floor pairs old new gives stay (subst (λ (l : List Pair). HoldsMore l old.pairs new.pairs) (holds.whole.is bytes pairs reads tree) holds.put)
    by_size false (stay, adds_source) = sources_list bytes lists last floor pairs old new gives v file list reads tree stay adds_source.next adds_source.advances adds_source.put
