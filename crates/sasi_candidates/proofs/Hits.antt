-- For callers: a condition that a merged row meets has a hit in some part, so each row of the answer is a candidate.
use Rattle.std.proofs.Common.{◌≡◌, ◌≤◌, ℕ, length, arith, Bool, true, false, cond, ◌||◌, not, nat_eq, is_some, List, [], ◌∷◌, Option, None, Some, refl, ap, ◌∙◌}
use Rattle.std.proofs.lemmas.Bool.{and_from, and_parts, or_left, or_right}
use Rattle.std.specs.List.{filter, list_all, list_any}
use Rattle.std.specs.FinMap as map_
use Rattle.std.specs.Option.{option_and_then}
use Rattle.sasi_types.specs.declared.cell.Cell.{Cell}
use Rattle.sasi_types.specs.declared.decorated_key.DecoratedKey.{DecoratedKey}
use Rattle.sasi_types.specs.declared.rule.Rule.{Rule}
use Rattle.sasi_types.specs.declared.value.Value.{Value}
use Rattle.sasi_terms.specs.declared.op.Op.{Op}
use Rattle.sasi_terms.specs.Holds.{holds}
use Rattle.sasi_cells.proofs.Laws.Maps.{get_merge_maps}
use Rattle.sasi_cells.specs.Maps.{joined, merge_maps, merged, merged_onto}
use Rattle.sasi_model.specs.Abbreviations.{Partitions, value_of}
use Rattle.sasi_model.specs.Cells.{Partition}
use Rattle.sasi_model.specs.Conditions.{Condition, OfKey, Indexed, Plain, Search, finds, meets}
use Rattle.sasi_model.specs.Filters.{Filter, Filters, Leaf, AllOf, AnyOf, no_filters, one_more, accepts, all_of, any_of, tree}
use Rattle.sasi_model.specs.IndexTerms.{any_holds, cell_at, terms_at, terms_of_cell, terms_of_value}
use Rattle.sasi_model.specs.State.{Index}
use Rattle.sasi_candidates.specs.Candidates.{admits, is_candidate}
use Rattle.sasi_candidates.specs.Parts.{Memory, Disk, Origin, Part, hit, hit_at, hit_in_memory, hit_on_disk, is_stored, maps_of}
use Rattle.sasi_candidates.proofs.Winners.{HasCell, winner}

-- ---- one file

or_more : (a b c : Bool) → (b ≡ true → c ≡ true) → (a || b) ≡ true → (a || c) ≡ true
or_more true b c more is = refl
or_more false b c more is = more is

either : (a b c d : Bool) → (a ≡ true → c ≡ true) → (b ≡ true → d ≡ true) → (a || b) ≡ true → (c || d) ≡ true
either true b c d first second is = or_left c d (first refl)
either false b c d first second is = or_right c d (second is)

-- whichever terms a file stores
module _ (stored : List ℕ → Bool) (op : Op) where
  abbrev isnt_stored : List ℕ → Bool
  isnt_stored term = not (stored term)

  -- a term that is as asked is stored, where all of them are
  one_word : (word : List ℕ) (terms : List (List ℕ)) → any_holds op word terms ≡ true → list_any isnt_stored terms ≡ false → any_holds op word (filter stored terms) ≡ true
  one_word word [] is none = is
  one_word word (term ∷ terms) is none = by (stored term) none (λ more rest. one_word word terms more rest)
    where
      by : (s : Bool) → (not s || list_any isnt_stored terms) ≡ false → (any_holds op word terms ≡ true → list_any isnt_stored terms ≡ false → any_holds op word (filter stored terms) ≡ true)
          → any_holds op word (cond s (term ∷ filter stored terms) (filter stored terms)) ≡ true
      by true rest later = or_more (holds op term word) (any_holds op word terms) (any_holds op word (filter stored terms)) (λ more. later more rest) is
      by false rest later = cc

  all_words : (words terms : List (List ℕ)) → list_all (λ word. any_holds op word terms) words ≡ true → list_any isnt_stored terms ≡ false → list_all (λ word. any_holds op word (filter stored terms)) words ≡ true
  all_words [] terms is none = refl
  all_words (word ∷ words) terms is none =
      let parts = and_parts (any_holds op word terms) (list_all (λ w. any_holds op w terms) words) is in
      and_from (any_holds op word (filter stored terms)) (list_all (λ w. any_holds op w (filter stored terms)) words) (one_word word terms parts.0 none) (all_words words terms parts.1 none)

  -- some term isn't stored, or each word finds a stored one
  pub spilled_or_posted : (words terms : List (List ℕ)) → list_all (λ word. any_holds op word terms) words ≡ true
      → (list_any isnt_stored terms || list_all (λ word. any_holds op word (filter stored terms)) words) ≡ true
  spilled_or_posted words terms is = by (list_any isnt_stored terms) refl
    where
      by : (t : Bool) → list_any isnt_stored terms ≡ t → (t || list_all (λ word. any_holds op word (filter stored terms)) words) ≡ true
      by true e = refl
      by false e = all_words words terms is e

-- what is asked of the value of a cell is asked of its terms
asked_terms : (rule : Option Rule) (search : Search) (found : Option Cell) → finds rule search (value_of found) ≡ true → list_all (λ word. any_holds search.op word (terms_of_cell rule found)) search.words ≡ true
asked_terms rule search None e = cc
asked_terms rule search (Some cell) e = by cell.value e
  where
    by : (value : Option Value) → finds rule search value ≡ true → list_all (λ word. any_holds search.op word (terms_of_value rule value)) search.words ≡ true
    by None e = cc
    by (Some value) e = e

-- a key whose current cell is as asked is there
there_with : (found : Option Partition) (rule : Option Rule) (search : Search) (column : ℕ) → finds rule search (value_of (option_and_then (λ (p : Partition). map_.get p.cells column) found)) ≡ true → is_some found ≡ true
there_with None rule search column e = cc
there_with (Some p) rule search column e = refl

module _ (index : Index) (search : Search) (m : Partitions) (q : DecoratedKey) (is : hit_in_memory index search m q ≡ true) where
  on_disk : (has_index : Bool) → hit_on_disk has_index index search m q ≡ true
  on_disk true = spilled_or_posted (is_stored index m) search.op search.words (terms_at index.rule index.column m q) (asked_terms index.rule search (cell_at m q index.column) is)
  on_disk false = there_with (map_.get m q) index.rule search index.column is

  -- **A part's current cell that is as asked is a hit of the part**: in memory, and on disk with the index, in every mode, and without it.
  pub cell_hits : (origin : Origin) → hit_at origin index search m q ≡ true
  cell_hits Memory = is
  cell_hits (Disk columns) = on_disk (list_any (nat_eq index.column) columns)

-- ---- in memory

no_term : (op : Op) (words : List (List ℕ)) → 1 ≤ length words → false ≡ list_all (λ word. any_holds op word []) words
no_term op [] some = absurd (omega (arith, some))
no_term op (word ∷ words) some = refl

found_by_words : (rule : Option Rule) (search : Search) (found : Option Cell) → 1 ≤ length search.words → finds rule search (value_of found) ≡ list_all (λ word. any_holds search.op word (terms_of_cell rule found)) search.words
found_by_words rule search None some = no_term search.op search.words some
found_by_words rule search (Some cell) some = by cell.value
  where
    by : (value : Option Value) → finds rule search value ≡ list_all (λ word. any_holds search.op word (terms_of_value rule value)) search.words
    by None = no_term search.op search.words some
    by (Some value) = refl

-- **A key is a hit in memory exactly where each word finds one of its terms.**
pub memory_found : (index : Index) (search : Search) (m : Partitions) (q : DecoratedKey) → 1 ≤ length search.words
    → hit_in_memory index search m q ≡ list_all (λ word. any_holds search.op word (terms_at index.rule index.column m q)) search.words
memory_found index search m q some = found_by_words index.rule search (cell_at m q index.column) some

-- ---- all parts

-- what is asked of a value is asked of a cell
of_cell : (rule : Option Rule) (search : Search) (found : Option Cell) → finds rule search (value_of found) ≡ true → (cell : Cell) × (found ≡ Some cell) × (finds rule search cell.value ≡ true)
of_cell rule search None e = cc
of_cell rule search (Some cell) e = (cell, refl, e)

-- a part with the winning cell has the hit
cell_of_part : (index : Index) (search : Search) (q : DecoratedKey) (cell : Cell) → finds index.rule search cell.value ≡ true → (part : Part) → HasCell part.holds q index.column cell → hit index search q part ≡ true
cell_of_part index search q cell is part has =
    let found : cell_at part.holds q index.column ≡ Some cell = ap (λ (o : Option Partition). option_and_then (λ (p : Partition). map_.get p.cells index.column) o) has.there ∙ has.cell_is in
    cell_hits index search part.holds q (ap (λ (c : Option Cell). finds index.rule search (value_of c)) found ∙ is) part.origin

-- **A condition that the merged row meets admits its key**: the part that holds the winning cell has the hit.
pub met_admits : (parts : List Part) (q : DecoratedKey) (p : Partition) → map_.get (merged (maps_of parts)) q ≡ Some p → (condition : Condition) → meets q.key p condition ≡ true → admits parts q condition ≡ true
met_admits parts q p there (OfKey bytes) is = is
met_admits parts q p there (Plain column comparison) is = refl
met_admits parts q p there (Indexed index search) is =
    let cell = of_cell index.rule search (map_.get p.cells index.column) is in
    winner (hit index search q) q index.column cell.0 (cell_of_part index search q cell.0 cell.2) parts (record { partition = p; there = there; cell_is = cell.1 })

-- ---- trees

mutual
  -- a tree grows with its leaves
  pub tree_grows : (f g : Condition → Bool) → ((condition : Condition) → f condition ≡ true → g condition ≡ true) → (t : Filter) → tree f t ≡ true → tree g t ≡ true
  tree_grows f g grows (Leaf condition) is = grows condition is
  tree_grows f g grows (AllOf ts) is = all_grow f g grows ts is
  tree_grows f g grows (AnyOf ts) is = any_grow f g grows ts is

  all_grow : (f g : Condition → Bool) → ((condition : Condition) → f condition ≡ true → g condition ≡ true) → (ts : Filters) → all_of f ts ≡ true → all_of g ts ≡ true
  all_grow f g grows no_filters is = refl
  all_grow f g grows (one_more t ts) is =
      let parts = and_parts (tree f t) (all_of f ts) is in
      and_from (tree g t) (all_of g ts) (tree_grows f g grows t parts.0) (all_grow f g grows ts parts.1)

  any_grow : (f g : Condition → Bool) → ((condition : Condition) → f condition ≡ true → g condition ≡ true) → (ts : Filters) → any_of f ts ≡ true → any_of g ts ≡ true
  any_grow f g grows no_filters is = cc
  any_grow f g grows (one_more t ts) is = either (tree f t) (any_of f ts) (tree g t) (any_of g ts) (λ e. tree_grows f g grows t e) (λ e. any_grow f g grows ts e) is

-- **Each row that the filter accepts is a candidate.**
pub row_is_candidate : (parts : List Part) (f : Filter) (q : DecoratedKey) (p : Partition) → map_.get (merged (maps_of parts)) q ≡ Some p → accepts f q.key p ≡ true → is_candidate parts f q ≡ true
row_is_candidate parts f q p there is = tree_grows (meets q.key p) (admits parts q) (met_admits parts q p there) f is

-- ---- no other key

-- a search that has a word gives no key that the map hasn't
none_given : (stored : List ℕ → Bool) (op : Op) (rule : Option Rule) (column : ℕ) (words : List (List ℕ)) (found : Option Partition) → 1 ≤ length words
    → (list_any (λ term. not (stored term)) (terms_of_cell rule (option_and_then (λ (p : Partition). map_.get p.cells column) found))
    || list_all (λ word. any_holds op word (filter stored (terms_of_cell rule (option_and_then (λ (p : Partition). map_.get p.cells column) found)))) words) ≡ true
    → is_some found ≡ true
none_given stored op rule column [] found some is = absurd (omega (arith, some))
none_given stored op rule column (word ∷ words) None some is = cc
none_given stored op rule column (word ∷ words) (Some p) some is = refl

module _ (index : Index) (search : Search) (q : DecoratedKey) (some : 1 ≤ length search.words) where
  disk_there : (has_index : Bool) (m : Partitions) → hit_on_disk has_index index search m q ≡ true → is_some (map_.get m q) ≡ true
  disk_there true m is = none_given (is_stored index m) search.op index.rule index.column search.words (map_.get m q) some is
  disk_there false m is = is

  origin_there : (origin : Origin) (m : Partitions) → hit_at origin index search m q ≡ true → is_some (map_.get m q) ≡ true
  origin_there Memory m is = there_with (map_.get m q) index.rule search index.column is
  origin_there (Disk columns) m is = disk_there (list_any (nat_eq index.column) columns) m is

  joined_first : (a b : Option Partition) → is_some a ≡ true → is_some (joined a b) ≡ true
  joined_first a None is = is
  joined_first a (Some p) is = refl

  joined_second : (a b : Option Partition) → is_some b ≡ true → is_some (joined a b) ≡ true
  joined_second a None is = cc
  joined_second a (Some p) is = refl

  still_there : (base : Partitions) (ms : List Partitions) → is_some (map_.get base q) ≡ true → is_some (map_.get (merged_onto base ms) q) ≡ true
  still_there base [] is = is
  still_there base (m ∷ ms) is = still_there (merge_maps base m) ms (ap is_some (get_merge_maps base m q) ∙ joined_first (map_.get base q) (map_.get m q) is)

  onto_there : (base : Partitions) (parts : List Part) → list_any (hit index search q) parts ≡ true → is_some (map_.get (merged_onto base (maps_of parts)) q) ≡ true
  onto_there base [] is = cc
  onto_there base (part ∷ parts) is = by (hit index search q part) refl is (onto_there (merge_maps base part.holds) parts)
    where
      by : (b : Bool) → hit index search q part ≡ b → (b || list_any (hit index search q) parts) ≡ true
          → (list_any (hit index search q) parts ≡ true → is_some (map_.get (merged_onto (merge_maps base part.holds) (maps_of parts)) q) ≡ true) → is_some (map_.get (merged_onto (merge_maps base part.holds) (maps_of parts)) q) ≡ true
      by true here is later =
          still_there (merge_maps base part.holds) (maps_of parts)
          (ap is_some (get_merge_maps base part.holds q) ∙ joined_second (map_.get base q) (map_.get part.holds q) (origin_there part.origin part.holds here))
      by false other is later = later is

  -- **Each hit is of a key that the merge of all parts has.**
  pub hit_merged : (parts : List Part) → list_any (hit index search q) parts ≡ true → is_some (map_.get (merged (maps_of parts)) q) ≡ true
  hit_merged parts is = onto_there map_.empty parts is
