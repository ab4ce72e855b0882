-- For callers: which index files stand beside a file of a table, and what their searches give of the hits of the file.
use Rattle.std.proofs.Common.{◌≡◌, ℕ, zero, suc, ◌+◌, ◌^◌, ◌≤◌, ◌<◌, Bool, true, false, cond, ◌||◌, nat_eq, List, [], ◌∷◌, length, map, Contains, is_some, slice_index_or, Option, Some, refl, sym, ap, subst, ◌∙◌, arith}
use Rattle.std.proofs.lemmas.Bool.Decides.{nat_tests}
use Rattle.std.proofs.lemmas.Bool.{or_left, or_right}
use Rattle.std.proofs.lemmas.List.Sums.{sum_by-cons}
use Rattle.std.specs.List.{AllByRecursion, cons_option, count_by, find, list_all, list_any, zip}
use Rattle.std.specs.Map.{lookup}
use Rattle.std.specs.Option.{option_map}
use Rattle.std.specs.FinMap.{get}
use Rattle.sasi_types.specs.declared.partitioner.Partitioner.{Partitioner}
use Rattle.sasi_types.specs.declared.decorated_key.DecoratedKey.{DecoratedKey}
use Rattle.sasi_types.specs.declared.tree.Pair.{Pair}
use Rattle.sasi_host.specs.Names.{Bytes, Folder}
use Rattle.sasi_manifest.specs.declared.files.PartNumber.{PartNumber}
use Rattle.sasi_manifest.specs.Consistent.{HasIndexes, IsConsistent}
use Rattle.sasi_manifest.specs.ListedDefinition.{ListedDefinition}
use Rattle.sasi_manifest.specs.ListedFiles.{index_name, is_among}
use Rattle.sasi_model.specs.Abbreviations.{Partitions, kind_of}
use Rattle.sasi_model.specs.Conditions.{Search}
use Rattle.sasi_model.specs.Indexes.{index_on}
use Rattle.sasi_model.specs.State.{Definition, Index}
use Rattle.sasi_datawrite.specs.Format.{Content}
use Rattle.sasi_postings.specs.IndexFiles.{StandsForIndex}
use Rattle.sasi_layout.specs.Layout.{File, Layout, TableParts, listed_of, listing_of}
use Rattle.sasi_layout.specs.Shape.{HasFile, HasIndexFile, map_of}
use Rattle.sasi_layout.proofs.Parts.{AreApart, tables_apart}
use Rattle.sasi_candidates.specs.LayoutParts.{columns_of, part_of_file}
use Rattle.sasi_candidates.specs.Parts.{hit, hit_in_index, hit_on_disk}
use Rattle.sasi_candidates.specs.Searches.{CanAsk, is_asked_pair, keyed}
use Rattle.sasi_candidates.proofs.FileHits.{hit_found, keys_there}
use Rattle.sasi_candidates.proofs.PairLists.{any_at, same_numbers}

-- ---- an index by its number

itself : (n m : ℕ) → m ≡ n → nat_eq n m ≡ true
itself n m same = grind (arith, nat_tests, same)

among_zipped : (ns : List ℕ) (indexes : List Index) (n : ℕ) (index : Index) (k : ℕ) → k < length (zip ns indexes) → slice_index_or (zip ns indexes) k (n, index) ≡ (n, index) → is_among ns n ≡ true
among_zipped [] indexes n index k lt at = absurd (omega (arith, lt))
among_zipped (m ∷ ns) [] n index k lt at = absurd (omega (arith, lt))
among_zipped (m ∷ ns) (i ∷ indexes) n index zero lt at = or_left (nat_eq n m) (is_among ns n) (itself n m (ap (λ (one : ℕ × Index). one.0) at))
among_zipped (m ∷ ns) (i ∷ indexes) n index (suc k) lt at = or_right (nat_eq n m) (is_among ns n) (among_zipped ns indexes n index k (omega (arith, lt)) at)

-- where the numbers are apart, an index is found by its own
looked_up : (ns : List ℕ) (indexes : List Index) (n : ℕ) (index : Index) → AreApart ns → (k : ℕ) → k < length (zip ns indexes) → slice_index_or (zip ns indexes) k (n, index) ≡ (n, index) → lookup (nat_eq n) (zip ns indexes) ≡ Some index
looked_up [] indexes n index apart k lt at = absurd (omega (arith, lt))
looked_up (m ∷ ns) [] n index apart k lt at = absurd (omega (arith, lt))
looked_up (m ∷ ns) (i ∷ indexes) n index apart zero lt at =
    ap (λ b. cond b (Some i) (lookup (nat_eq n) (zip ns indexes))) (itself n m (ap (λ (one : ℕ × Index). one.0) at)) ∙ ap (λ (one : ℕ × Index). Some one.1) at
looked_up (m ∷ ns) (i ∷ indexes) n index apart (suc k) lt at =
    by (nat_eq n m) refl (among_zipped ns indexes n index k (omega (arith, lt)) at) (looked_up ns indexes n index apart.1 k (omega (arith, lt)) at)
  where
    by : (b : Bool) → nat_eq n m ≡ b → is_among ns n ≡ true → lookup (nat_eq n) (zip ns indexes) ≡ Some index → cond b (Some i) (lookup (nat_eq n) (zip ns indexes)) ≡ Some index
    by true same among rest = let no : false ≡ true = sym apart.0 ∙ ap (is_among ns) (sym (same_numbers n m same)) ∙ among in cc
    by false other among rest = rest

-- ---- an index by its column

none_passes : {A : Type 0} (test : A → Bool) (xs : List A) → count_by test xs ≡ 0 → list_any test xs ≡ false
none_passes test [] none = refl
none_passes test (x ∷ xs) none = by (test x) refl (none_passes test xs)
  where
    by : (b : Bool) → test x ≡ b → (count_by test xs ≡ 0 → list_any test xs ≡ false) → (b || list_any test xs) ≡ false
    by true is rest = absurd (omega (arith, none, sum_by-cons (λ m. cond (test m) 1 0) x xs, ap {B = ℕ} (λ b. cond b 1 0) is))
    by false is rest = rest (omega (arith, none, sum_by-cons (λ m. cond (test m) 1 0) x xs, ap {B = ℕ} (λ b. cond b 1 0) is))

-- where one item at most passes a test, it is the one that is found
only_one : {A : Type 0} (test : A → Bool) (xs : List A) (a b : A) → count_by test xs ≤ 1 → find test xs ≡ Some a → (k : ℕ) → k < length xs → slice_index_or xs k b ≡ b → test b ≡ true → a ≡ b
only_one test [] a b few is k lt at passes = absurd (omega (arith, lt))
only_one {A} test (x ∷ xs) a b few is k lt at passes = by (test x) refl is k lt at (λ rest j. only_one test xs a b rest)
  where
    counted : (t : Bool) → test x ≡ t → count_by test (x ∷ xs) ≡ cond t 1 0 + count_by test xs
    counted t e = sum_by-cons (λ m. cond (test m) 1 0) x xs ∙ ap {B = ℕ} (λ c. cond c 1 0 + count_by test xs) e

    by : (t : Bool) → test x ≡ t → cond t (Some x) (find test xs) ≡ Some a → (j : ℕ) → j < length (x ∷ xs) → slice_index_or (x ∷ xs) j b ≡ b
        → (count_by test xs ≤ 1 → ℕ → find test xs ≡ Some a → (i : ℕ) → i < length xs → slice_index_or xs i b ≡ b → test b ≡ true → a ≡ b) → a ≡ b
    by true e found zero lt at later = let same : x ≡ a = cc in sym same ∙ at
    by true e found (suc j) lt at later =
        let none : list_any test xs ≡ false = none_passes test xs (omega (arith, few, counted true e)) in
        let some : list_any test xs ≡ true = any_at test xs b j (omega (arith, lt)) at passes in
        let no : false ≡ true = sym none ∙ some in cc
    by false e found zero lt at later = let no : false ≡ true = sym e ∙ ap test at ∙ passes in cc
    by false e found (suc j) lt at later = later (omega (arith, few, counted false e)) 0 found j (omega (arith, lt)) at passes

index_listed : (ns : List ℕ) (indexes : List Index) (n : ℕ) (index : Index) (k : ℕ) → k < length (zip ns indexes) → slice_index_or (zip ns indexes) k (n, index) ≡ (n, index) → (k < length indexes) × (slice_index_or indexes k index ≡ index)
index_listed [] indexes n index k lt at = absurd (omega (arith, lt))
index_listed (m ∷ ns) [] n index k lt at = absurd (omega (arith, lt))
index_listed (m ∷ ns) (i ∷ indexes) n index zero lt at = (omega arith, ap (λ (one : ℕ × Index). one.1) at)
index_listed (m ∷ ns) (i ∷ indexes) n index (suc k) lt at = let rest = index_listed ns indexes n index k (omega (arith, lt)) at in (omega (arith, rest.0), rest.1)

-- ---- the index files beside a data file

-- one of the parts is of this index, and the folder has its file
pub record HasIndexOf (folder : Folder) (p : Partitioner) (d : Definition) (number : ℕ) (content : Content) (parts : List PartNumber) (index : Index) : Type 0 where
  pub part : PartNumber
  pub listed : Contains parts part
  pub bytes : Bytes
  pub there : get folder (index_name number part) ≡ Some bytes
  pub stands : StandsForIndex p d index content bytes
  pub fits : length bytes ≤ 2 ^ 62

module _ (folder : Folder) (p : Partitioner) (t : TableParts) (apart : AreApart t.numbers) (number : ℕ) (content : Content) where
  abbrev HasPart : PartNumber → Type 0
  HasPart part = HasIndexFile folder p t.definition t.numbers number content part

  columns_are : (part : PartNumber) (parts : List PartNumber) (has : HasPart part) → columns_of t (part ∷ parts) ≡ has.index.column ∷ columns_of t parts
  columns_are part parts has =
      ap (λ (found : Option Index). cons_option (option_map (λ index. index.column) found) (columns_of t parts))
      (looked_up t.numbers t.definition.indexes part.index has.index apart has.defined.0 has.defined.1 has.defined.2)

  -- a column of the file is that of a part
  part_on : (column : ℕ) (parts : List PartNumber) → AllByRecursion HasPart parts → list_any (nat_eq column) (columns_of t parts) ≡ true → (part : PartNumber) × Contains parts part × ((has : HasPart part) × (has.index.column ≡ column))
  part_on column [] all some = cc
  part_on column (part ∷ parts) all some =
      by (nat_eq column all.0.index.column) refl (ap (list_any (nat_eq column)) (sym (columns_are part parts all.0)) ∙ some) (part_on column parts all.1)
    where
      by : (b : Bool) → nat_eq column all.0.index.column ≡ b → (b || list_any (nat_eq column) (columns_of t parts)) ≡ true
          → (list_any (nat_eq column) (columns_of t parts) ≡ true → (q : PartNumber) × Contains parts q × ((has : HasPart q) × (has.index.column ≡ column)))
          → (q : PartNumber) × Contains (part ∷ parts) q × ((has : HasPart q) × (has.index.column ≡ column))
      by true same some later = (part, (0, omega arith, refl), (all.0, sym (same_numbers column all.0.index.column same)))
      by false other some later = (let rest = later some in (rest.0, (suc rest.1.0, omega (arith, rest.1.1), rest.1.2), rest.2))

  more_columns : (part : PartNumber) (parts : List PartNumber) → HasPart part → (others : List PartNumber) → AllByRecursion (λ other. (has : HasPart other) → list_any (nat_eq has.index.column) (columns_of t parts) ≡ true) others
      → AllByRecursion (λ other. (has : HasPart other) → list_any (nat_eq has.index.column) (columns_of t (part ∷ parts)) ≡ true) others
  more_columns part parts first [] all = tt
  more_columns part parts first (other ∷ others) all = (
    (λ has. ap (list_any (nat_eq has.index.column)) (columns_are part parts first) ∙ or_right (nat_eq has.index.column first.index.column) (list_any (nat_eq has.index.column) (columns_of t parts)) (all.0 has)),
    more_columns part parts first others all.1,
  )

  -- and that of each part is one of the file
  pub part_columns : (parts : List PartNumber) → AllByRecursion HasPart parts → AllByRecursion (λ part. (has : HasPart part) → list_any (nat_eq has.index.column) (columns_of t parts) ≡ true) parts
  part_columns [] all = tt
  part_columns (part ∷ parts) all = (
    (λ has. ap (list_any (nat_eq has.index.column)) (columns_are part parts has) ∙ or_left (nat_eq has.index.column has.index.column) (list_any (nat_eq has.index.column) (columns_of t parts)) (itself has.index.column has.index.column refl)),
    more_columns part parts all.0 parts (part_columns parts all.1),
  )

  -- a file that has the column of an index has that index's file beside it
  beside : (index : Index) (parts : List PartNumber) → AllByRecursion HasPart parts → count_by (λ (i : Index). nat_eq i.column index.column) t.definition.indexes ≤ 1 → index_on index.column t.definition.indexes ≡ Some index
      → list_any (nat_eq index.column) (columns_of t parts) ≡ true → HasIndexOf folder p t.definition number content parts index
  beside index parts all few defined some =
      let found = part_on index.column parts all some in
      let has = found.2.0 in
      let listed = index_listed t.numbers t.definition.indexes found.0.index has.index has.defined.0 has.defined.1 has.defined.2 in
      let same : index ≡ has.index = only_one (λ (i : Index). nat_eq i.column index.column) t.definition.indexes index has.index few defined has.defined.0 listed.0 listed.1 (itself has.index.column index.column (sym found.2.1)) in
      record { part = found.0; listed = found.1; bytes = has.bytes; there = has.there; stands = subst (λ (i : Index). StandsForIndex p t.definition i content has.bytes) (sym same) has.stands; fits = has.fits }

-- ---- the tables of a layout

-- no two indexes of the table have a number or a column, and none is on the key
pub record HasOwnIndexes (t : TableParts) : Type 0 where
  pub apart : AreApart t.numbers
  pub regular : AllByRecursion (λ (i : Index). 1 ≤ i.column) t.definition.indexes
  pub few : (column : ℕ) → count_by (λ (i : Index). nat_eq i.column column) t.definition.indexes ≤ 1

regular_columns : (indexes : List Index) → AllByRecursion (λ (i : Index). (1 ≤ i.column) × (i.column < 2 ^ 16)) indexes → AllByRecursion (λ (i : Index). 1 ≤ i.column) indexes
regular_columns [] all = tt
regular_columns (index ∷ indexes) all = (all.0.0, regular_columns indexes all.1)

own_indexes : (ts : List TableParts) → AllByRecursion HasIndexes (map listed_of ts) → AllByRecursion (λ (t : ListedDefinition). AreApart t.numbers) (map listed_of ts) → AllByRecursion HasOwnIndexes ts
own_indexes [] all apart = tt
own_indexes (t ∷ ts) all apart = (record { apart = apart.0; regular = regular_columns t.definition.indexes all.0.regular; few = all.0.columns }, own_indexes ts all.1 apart.1)

-- so it is in each layout whose listing is consistent
pub all_own : (l : Layout) → IsConsistent (listing_of l) → AllByRecursion HasOwnIndexes l.tables
all_own l consistent = own_indexes l.tables consistent.indexes (tables_apart (map listed_of l.tables) consistent.numbers)

found_has : {A : Type 0} (P : A → Type 0) (test : A → Bool) (xs : List A) (a : A) → AllByRecursion P xs → find test xs ≡ Some a → P a
found_has P test [] a all is = cc
found_has P test (x ∷ xs) a all is = by (test x) is (found_has P test xs a all.1)
  where
    by : (b : Bool) → cond b (Some x) (find test xs) ≡ Some a → (find test xs ≡ Some a → P a) → P a
    by true found later = let same : x ≡ a = cc in subst P same all.0
    by false found later = later found

-- ---- a file of a table

module _ (folder : Folder) (p : Partitioner) (t : TableParts) (own : HasOwnIndexes t) (f : File) (file : HasFile folder p t.definition t.numbers f) (index : Index) (defined : index_on index.column t.definition.indexes ≡ Some index) where
  -- the file has the column of the index
  abbrev is_indexed : Bool
  is_indexed = list_any (nat_eq index.column) (columns_of t f.listed.parts)

  -- **A file that has the column of an index has that index's file beside it.**
  pub file_beside : is_indexed ≡ true → HasIndexOf folder p t.definition f.listed.number file.content f.listed.parts index
  file_beside has = beside folder p t own.apart f.listed.number file.content index f.listed.parts file.indexes (own.few index.column) defined has

  -- **A file's hits of a relation are what the searches of its index file give**: the keys whose pairs are in the lists of each word.
  pub file_found : (has : is_indexed ≡ true) (search : Search) → CanAsk (kind_of t.definition index.column) search.op → 1 ≤ length search.words
      → AllByRecursion (λ (e : Pair × DecoratedKey). list_all (is_asked_pair (file_beside has).stands.content search.op e.0) search.words ≡ hit index search e.1 (part_of_file t f)) (keyed p file.content)
  file_found has search can some =
      each (keyed p file.content)
      (hit_found p t.definition index file.bytes (file_beside has).bytes file.content file.data_file (file_beside has).stands
      (found_has (λ (i : Index). 1 ≤ i.column) (λ (i : Index). nat_eq i.column index.column) t.definition.indexes index own.regular defined) search can some)
    where
      each : (es : List (Pair × DecoratedKey)) → AllByRecursion (λ (e : Pair × DecoratedKey). list_all (is_asked_pair (file_beside has).stands.content search.op e.0) search.words ≡ hit_in_index index search (map_of p file.content) e.1) es
          → AllByRecursion (λ (e : Pair × DecoratedKey). list_all (is_asked_pair (file_beside has).stands.content search.op e.0) search.words ≡ hit index search e.1 (part_of_file t f)) es
      each [] all = tt
      each (e ∷ es) all = (
        all.0 ∙ ap (λ (m : Partitions). hit_in_index index search m e.1) (sym file.holds) ∙ ap (λ b. hit_on_disk b index search f.holds e.1) (sym has),
        each es all.1,
      )

  -- without the file of the index, each of its keys is a hit
  pub all_hits : is_indexed ≡ false → (search : Search) → AllByRecursion (λ (e : Pair × DecoratedKey). hit index search e.1 (part_of_file t f) ≡ true) (keyed p file.content)
  all_hits hasnt search = each (keyed p file.content) (keys_there p file.content file.data_file.content_is.rising)
    where
      each : (es : List (Pair × DecoratedKey)) → AllByRecursion (λ (e : Pair × DecoratedKey). is_some (get (map_of p file.content) e.1) ≡ true) es → AllByRecursion (λ (e : Pair × DecoratedKey). hit index search e.1 (part_of_file t f) ≡ true) es
      each [] all = tt
      each (e ∷ es) all = (ap (λ b. hit_on_disk b index search f.holds e.1) hasnt ∙ ap (λ (m : Partitions). is_some (get m e.1)) file.holds ∙ all.0, each es all.1)
