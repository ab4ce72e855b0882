-- The candidates of a WHERE without a relation on an indexed column: none, those of one key, or all keys.
use Rattle.std.proofs.Common.{◌≡◌, ℕ, Bool, true, false, cond, ◌&&◌, T, List, [], ◌∷◌, Option, None, Some, is_some, refl, sym, ap, ◌∙◌, arith}
use Rattle.std.proofs.lemmas.Bool.{false_from_ne_true}
use Rattle.std.proofs.lemmas.Bool.Decides.{nat_tests}
use Rattle.std.proofs.lemmas.Cmp.{tied_itself}
use Rattle.std.specs.Cmp.Lexicographic.{same_text}
use Rattle.std.specs.FinMap as map_
use Rattle.std.specs.FinMap.{find, is_sorted}
use Rattle.std.specs.FinMap.Entries.{below_all}
use Rattle.std.specs.List.{AllByRecursion, filter}
use Rattle.std.specs.Ordering.{eq_by_cmp, is_eq}
use Rattle.sasi_types.specs.declared.decorated_key.DecoratedKey.{DecoratedKey}
use Rattle.sasi_types.specs.declared.partitioner.Partitioner.{Partitioner}
use Rattle.sasi_types.specs.DecoratedKey.{decorated_cmp, decorated_total}
use Rattle.sasi_model.specs.Cells.{Partition}
use Rattle.sasi_model.specs.Conditions.{Condition, Indexed, OfKey, Plain}
use Rattle.sasi_model.specs.State.{decorated}
use Rattle.sasi_model.specs.Tokens.{same}
use Rattle.sasi_cells.specs.Maps.{merged}
use Rattle.sasi_cells.proofs.Laws.Decorated.{entries_have, equal_keys, none_below}
use Rattle.sasi_memtable.specs.MemtableView.{AreDecorated}
use Rattle.sasi_merge.specs.Streams.{Entries, IsRising}
use Rattle.sasi_candidates.specs.Candidates.{admits, candidates, is_candidate}
use Rattle.sasi_model.specs.Filters.{key_asked, where_of}
use Rattle.sasi_candidates.specs.Parts.{Part, maps_of}
use Rattle.sasi_engine.specs.Asked.{asked_of}
use Rattle.sasi_sources.specs.KeyCandidates.{found_of}
use Rattle.sasi_engine.specs.KeyedHits.{agree}

both_true : (a b : Bool) → T (a && b) → T a × T b
both_true true b h = (tt, h)
both_true false b h = absurd h

both : (a b : Bool) → (a && b) ≡ true → (a ≡ true) × (b ≡ true)
both true b e = (refl, e)
both false b e = cc

-- ---- one key

module _ (test : DecoratedKey → Bool) (key : DecoratedKey) where
  abbrev those : Entries → Entries
  those es = filter (λ e. test e.0) es

  -- where no entry of another key passes, those that pass are what a look-up of the key finds
  those_alone : (es : Entries) → IsRising es → AllByRecursion (λ e. test e.0 ≡ true → e.0 ≡ key) es → those es ≡ those (found_of key (find decorated_cmp key es))
  those_alone [] rising alone = refl
  those_alone (e ∷ es) rising alone = by (eq_by_cmp decorated_cmp key e.0) refl (those_alone es parts.1 alone.1)
    where
      parts : T (below_all decorated_cmp e.0 es) × T (is_sorted decorated_cmp es)
      parts = both_true _ _ rising

      by : (b : Bool) → eq_by_cmp decorated_cmp key e.0 ≡ b → those es ≡ those (found_of key (find decorated_cmp key es)) → those (e ∷ es) ≡ those (found_of key (cond (eq_by_cmp decorated_cmp key e.0) (Some e.1) (find decorated_cmp key es)))
      by true equal rest =
          let is : key ≡ e.0 = equal_keys key e.0 equal in
          let none : those es ≡ [] = rest ∙ ap (λ (o : Option Partition). those (found_of key o)) (ap (λ (k : DecoratedKey). find decorated_cmp k es) is ∙ none_below e.0 es parts.0) in
          ap (λ (rs : Entries). cond (test e.0) (e ∷ rs) rs) none
          ∙ ap (λ (k : DecoratedKey). those ((k, e.1) ∷ [])) (sym is)
          ∙ ap (λ b. those (found_of key (cond b (Some e.1) (find decorated_cmp key es)))) (sym equal)
      by false other rest =
          let fails : test e.0 ≡ false = false_from_ne_true (test e.0) (λ passes. (
          let is : e.0 ≡ key = alone.0 passes in
          let no : true ≡ false = sym (ap is_eq (tied_itself decorated_total key)) ∙ ap (λ (k : DecoratedKey). eq_by_cmp decorated_cmp key k) (sym is) ∙ other in
          cc)) in
          ap (λ b. cond b (e ∷ those es) (those es)) fails
          ∙ rest
          ∙ ap (λ b. those (found_of key (cond b (Some e.1) (find decorated_cmp key es)))) (sym other)

  those_found : (found : Option Partition) → test key ≡ true → those (found_of key found) ≡ found_of key found
  those_found None passes = refl
  those_found (Some part) passes = ap (λ b. cond b ((key, part) ∷ []) []) passes

-- ---- conditions

module _ (parts : List Part) where
  -- a candidate has each key that is asked for
  agrees : (conditions : List Condition) (q : DecoratedKey) → is_candidate parts (where_of conditions) q ≡ true → agree q.key conditions ≡ true
  agrees [] q is = refl
  agrees (OfKey bytes ∷ cs) q is =
      let split = both (same q.key bytes) (is_candidate parts (where_of cs) q) is in
      let equal : q.key ≡ bytes = same_text q.key bytes (sym split.0) in
      ap (λ b. b && agree q.key cs) (ap (λ (k : List ℕ). same bytes k) equal ∙ itself bytes) ∙ agrees cs q split.1
    where
      itself : (text : List ℕ) → same text text ≡ true
      itself [] = refl
      itself (b ∷ bs) = rw (itself bs) (grind (arith, nat_tests))
  agrees (Indexed i search ∷ cs) q is = agrees cs q (both (admits parts q (Indexed i search)) (is_candidate parts (where_of cs) q) is).1
  agrees (Plain column comparison ∷ cs) q is = agrees cs q is

  has_key : (conditions : List Condition) (bytes : List ℕ) (q : DecoratedKey) → key_asked conditions ≡ Some bytes → is_candidate parts (where_of conditions) q ≡ true → q.key ≡ bytes
  has_key [] bytes q asked is = cc
  has_key (OfKey first ∷ cs) bytes q asked is = let one : first ≡ bytes = cc in same_text q.key first (sym (both (same q.key first) (is_candidate parts (where_of cs) q) is).0) ∙ one
  has_key (Indexed i search ∷ cs) bytes q asked is = has_key cs bytes q asked (both (admits parts q (Indexed i search)) (is_candidate parts (where_of cs) q) is).1
  has_key (Plain column comparison ∷ cs) bytes q asked is = has_key cs bytes q asked is

  -- the key that all of them ask for is one, where nothing else is asked
  is_one : (conditions : List Condition) (q : DecoratedKey) → agree q.key conditions ≡ true → asked_of conditions ≡ [] → is_candidate parts (where_of conditions) q ≡ true
  is_one [] q agreed none = refl
  is_one (OfKey bytes ∷ cs) q agreed none =
      let split = both (same bytes q.key) (agree q.key cs) agreed in
      let equal : bytes ≡ q.key = same_text bytes q.key (sym split.0) in
      ap (λ b. b && is_candidate parts (where_of cs) q) (ap (λ (k : List ℕ). same k bytes) (sym equal) ∙ (ap (λ (k : List ℕ). same bytes k) equal ∙ split.0)) ∙ is_one cs q split.1 none
  is_one (Indexed i search ∷ cs) q agreed none = cc
  is_one (Plain column comparison ∷ cs) q agreed none = is_one cs q agreed none

  is_any : (conditions : List Condition) (q : DecoratedKey) → key_asked conditions ≡ None → asked_of conditions ≡ [] → is_candidate parts (where_of conditions) q ≡ true
  is_any [] q free none = refl
  is_any (OfKey bytes ∷ cs) q free none = cc
  is_any (Indexed i search ∷ cs) q free none = cc
  is_any (Plain column comparison ∷ cs) q free none = is_any cs q free none

-- ---- the candidates

all_pass : (test : DecoratedKey → Bool) (es : Entries) → ((q : DecoratedKey) → test q ≡ true) → filter (λ e. test e.0) es ≡ es
all_pass test [] all = refl
all_pass test (e ∷ es) all = ap (λ b. cond b (e ∷ filter (λ x. test x.0) es) (filter (λ x. test x.0) es)) (all e.0) ∙ ap (λ (l : Entries). e ∷ l) (all_pass test es all)

none_pass : (test : DecoratedKey → Bool) (es : Entries) → ((q : DecoratedKey) → test q ≡ false) → filter (λ e. test e.0) es ≡ []
none_pass test [] none = refl
none_pass test (e ∷ es) none = ap (λ b. cond b (e ∷ filter (λ x. test x.0) es) (filter (λ x. test x.0) es)) (none e.0) ∙ none_pass test es none

-- **Without a relation on the key or an indexed column each key is a candidate.**
pub all_candidates : (parts : List Part) (conditions : List Condition) → key_asked conditions ≡ None → asked_of conditions ≡ [] → candidates parts (where_of conditions) ≡ map_.entries (merged (maps_of parts))
all_candidates parts conditions free none = all_pass (is_candidate parts (where_of conditions)) _ (λ q. is_any parts conditions q free none)

-- **Where two relations ask for different keys none is.**
pub no_candidates : (parts : List Part) (conditions : List Condition) (bytes : List ℕ) → key_asked conditions ≡ Some bytes → agree bytes conditions ≡ false → candidates parts (where_of conditions) ≡ []
no_candidates parts conditions bytes asked differ =
    none_pass (is_candidate parts (where_of conditions)) _
    (λ q. false_from_ne_true _ (λ is. (let no : true ≡ false = sym (agrees parts conditions q is) ∙ (ap (λ (k : List ℕ). agree k conditions) (has_key parts conditions bytes q asked is) ∙ differ) in cc)))

-- **Where they ask for one key, and no indexed column is asked for, it is that key, if a part has it.**
pub key_candidates : (parts : List Part) (conditions : List Condition) (p : Partitioner) (key : DecoratedKey) → key_asked conditions ≡ Some key.key → agree key.key conditions ≡ true → asked_of conditions ≡ [] → key ≡ decorated p key.key
    → AreDecorated p (merged (maps_of parts)) → candidates parts (where_of conditions) ≡ found_of key (map_.get (merged (maps_of parts)) key)
key_candidates parts conditions p key asked agreed none own all =
    those_alone (is_candidate parts (where_of conditions)) key (map_.entries m) (map_.entries_sorted m) (entries_have (λ e. is_candidate parts (where_of conditions) e.0 ≡ true → e.0 ≡ key) m alone)
    ∙ ap (λ (o : Option Partition). those (is_candidate parts (where_of conditions)) key (found_of key o)) (sym (map_.get-entries m key))
    ∙ those_found (is_candidate parts (where_of conditions)) key (map_.get m key) (is_one parts conditions key agreed none)
  where
    m : map_.FinMap decorated_cmp Partition
    m = merged (maps_of parts)

    alone : (q : DecoratedKey) (part : Partition) → map_.get m q ≡ Some part → is_candidate parts (where_of conditions) q ≡ true → q ≡ key
    alone q part there is = all q (ap is_some there) ∙ ap (decorated p) (has_key parts conditions key.key q asked is) ∙ sym own
