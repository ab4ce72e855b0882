-- A data file of a view, in its table.
use Rattle.std.proofs.Common.{◌≡◌, ℕ, zero, suc, ◌<◌, ◌≤◌, Bool, true, false, cond, ◌||◌, nat_eq, is_some, List, [], ◌∷◌, length, map, slice_index_or, Option, Some, refl, sym, ap, subst, ◌∙◌, arith}
use Rattle.std.proofs.lemmas.Bool.Decides.{nat_tests}
use Rattle.std.proofs.lemmas.List.Sums.{sum_by-cons}
use Rattle.std.specs.FinMap as map_
use Rattle.std.specs.List.{AllByRecursion, cons_option, count_by, find, list_any, zip}
use Rattle.std.specs.List.Sorted.{IsStrictlySortedBy}
use Rattle.std.specs.Map.{lookup}
use Rattle.std.specs.Option.{option_map}
use Rattle.sasi_types.specs.declared.decorated_key.DecoratedKey.{DecoratedKey}
use Rattle.sasi_types.specs.declared.partitioner.Partitioner.{Partitioner}
use Rattle.sasi_types.specs.DecoratedKey.{decorated_cmp}
use Rattle.sasi_host.specs.Names.{Bytes, Folder}
use Rattle.sasi_model.specs.Abbreviations.{Partitions}
use Rattle.sasi_model.specs.Cells.{Partition}
use Rattle.sasi_model.specs.State.{Index}
use Rattle.sasi_manifest.specs.declared.files.PartNumber.{PartNumber}
use Rattle.sasi_manifest.specs.ListedFiles.{index_name, is_among}
use Rattle.sasi_memtable.proofs.Ordered.{entries-from_ordered}
use Rattle.sasi_datawrite.specs.Format.{Content, decorated_key}
use Rattle.sasi_postings.specs.IndexFiles.{StandsForIndex}
use Rattle.sasi_layout.proofs.Parts.{AreApart}
use Rattle.sasi_layout.specs.Flushed.{contents_of}
use Rattle.sasi_layout.specs.Layout.{File, TableParts}
use Rattle.sasi_layout.specs.Shape.{HasFile, HasIndexFile}
use Rattle.sasi_candidates.specs.LayoutParts.{columns_of}
use Rattle.sasi_candidates.proofs.FileHits.{entries_of}
use Rattle.sasi_candidates.proofs.FileIndexes.{HasOwnIndexes}
use Rattle.sasi_engine.specs.declared.relation.IndexedRelation.{IndexedRelation}
use Rattle.sasi_engine.specs.Asked.{Asked, keys_of}
use Rattle.sasi_engine.specs.Views.{IsAsked}
use Rattle.sasi_engine.specs.inside.Sources.{has_part, part_for}

-- ---- the content

keys_are : (p : Partitioner) (content : Content) → map (λ (e : DecoratedKey × Partition). e.0) (entries_of p content) ≡ map (decorated_key p) content
keys_are p [] = refl
keys_are p (one ∷ content) = ap (λ (l : List DecoratedKey). decorated_key p one ∷ l) (keys_are p content)

content_back : (p : Partitioner) (content : Content) → map (λ (e : DecoratedKey × Partition). (e.0.key, e.1)) (entries_of p content) ≡ content
content_back p [] = refl
content_back p (one ∷ content) = ap (λ (l : Content). one ∷ l) (content_back p content)

module _ (folder : Folder) (p : Partitioner) (t : TableParts) (f : File) (has : HasFile folder p t.definition t.numbers f) where
  entries_are : map_.entries f.holds ≡ entries_of p has.content
  entries_are =
      ap (λ (m : Partitions). map_.entries m) has.holds
      ∙ entries-from_ordered (entries_of p has.content) (subst (IsStrictlySortedBy decorated_cmp) (sym (keys_are p has.content)) has.data_file.content_is.rising)

  -- the content of the file is that of its map
  pub content_is : contents_of f.holds ≡ has.content
  content_is = ap (map (λ (e : DecoratedKey × Partition). (e.0.key, e.1))) entries_are ∙ content_back p has.content

  pub file_keys : keys_of f.holds ≡ map (decorated_key p) (contents_of f.holds)
  file_keys = ap (map (λ (e : DecoratedKey × Partition). e.0)) entries_are ∙ keys_are p has.content ∙ ap (map (decorated_key p)) (sym content_is)

-- ---- the part of an index

part_passes : {A : Type 0} (test : A → Bool) (P : A → Type 0) (xs : List A) (x : A) → AllByRecursion P xs → find test xs ≡ Some x → P x × (test x ≡ true)
part_passes test P [] x all is = cc
part_passes test P (y ∷ ys) x all is = by (test y) refl is (part_passes test P ys x all.1)
  where
    by : (b : Bool) → test y ≡ b → cond b (Some y) (find test ys) ≡ Some x → (find test ys ≡ Some x → P x × (test x ≡ true)) → P x × (test x ≡ true)
    by true passes found later = (let same : y ≡ x = cc in (subst P same all.0, ap test (sym same) ∙ passes))
    by false fails found later = later found

same_number : (a b : ℕ) → nat_eq a b ≡ true → a ≡ b
same_number a b e = grind (arith, nat_tests)

own_number : (a : ℕ) → nat_eq a a ≡ true
own_number a = grind (arith, nat_tests)

-- ---- an index by its number

any_of : {A : Type 0} (test : A → Bool) (xs : List A) (x : A) (k : ℕ) → k < length xs → slice_index_or xs k x ≡ x → test x ≡ true → list_any test xs ≡ true
any_of test [] x k inside is passes = absurd (omega (arith, inside))
any_of test (y ∷ ys) x zero inside is passes = ap (λ b. b || list_any test ys) (ap test is ∙ passes)
any_of test (y ∷ ys) x (suc k) inside is passes = by (test y) (any_of test ys x k (omega (arith, inside)) is passes)
  where
    by : (b : Bool) → list_any test ys ≡ true → (b || list_any test ys) ≡ true
    by true rest = refl
    by false rest = rest

none_counted : {A : Type 0} (test : A → Bool) (xs : List A) → count_by test xs ≡ 0 → list_any test xs ≡ false
none_counted test [] none = refl
none_counted test (x ∷ xs) none = by (test x) refl (none_counted test xs)
  where
    by : (b : Bool) → test x ≡ b → (count_by test xs ≡ 0 → list_any test xs ≡ false) → (b || list_any test xs) ≡ false
    by true is rest = absurd (omega (arith, none, sum_by-cons (λ m. cond (test m) 1 0) x xs, ap {B = ℕ} (λ b. cond b 1 0) is))
    by false is rest = rest (omega (arith, none, sum_by-cons (λ m. cond (test m) 1 0) x xs, ap {B = ℕ} (λ b. cond b 1 0) is))

listed_any : (test : Index → Bool) (ns : List ℕ) (indexes : List Index) (n : ℕ) (i : Index) (k : ℕ) → k < length (zip ns indexes) → slice_index_or (zip ns indexes) k (n, i) ≡ (n, i) → test i ≡ true → list_any test indexes ≡ true
listed_any test [] indexes n i k inside is passes = absurd (omega (arith, inside))
listed_any test (m ∷ ns) [] n i k inside is passes = absurd (omega (arith, inside))
listed_any test (m ∷ ns) (x ∷ indexes) n i zero inside is passes = ap (λ b. b || list_any test indexes) (ap test (ap (λ (e : ℕ × Index). e.1) is) ∙ passes)
listed_any test (m ∷ ns) (x ∷ indexes) n i (suc k) inside is passes = by (test x) (listed_any test ns indexes n i k (omega (arith, inside)) is passes)
  where
    by : (b : Bool) → list_any test indexes ≡ true → (b || list_any test indexes) ≡ true
    by true rest = refl
    by false rest = rest

found_any : (test : Index → Bool) (ns : List ℕ) (indexes : List Index) (n : ℕ) (i : Index) → lookup (nat_eq n) (zip ns indexes) ≡ Some i → test i ≡ true → list_any test indexes ≡ true
found_any test [] indexes n i found passes = cc
found_any test (m ∷ ns) [] n i found passes = cc
found_any test (m ∷ ns) (x ∷ indexes) n i found passes = by (nat_eq n m) found (found_any test ns indexes n i)
  where
    later : (b : Bool) → list_any test indexes ≡ true → (b || list_any test indexes) ≡ true
    later true rest = refl
    later false rest = rest

    by : (b : Bool) → cond b (Some x) (lookup (nat_eq n) (zip ns indexes)) ≡ Some i → (lookup (nat_eq n) (zip ns indexes) ≡ Some i → test i ≡ true → list_any test indexes ≡ true) → (test x || list_any test indexes) ≡ true
    by true is rest = (let same : x ≡ i = cc in ap (λ b. b || list_any test indexes) (ap test same ∙ passes))
    by false is rest = later (test x) (rest is passes)

not_twice : (test : Index → Bool) (x : Index) (indexes : List Index) → count_by test (x ∷ indexes) ≤ 1 → test x ≡ true → list_any test indexes ≡ true → ⊥
not_twice test x indexes few passes some =
    let none : list_any test indexes ≡ false = none_counted test indexes (omega (arith, few, sum_by-cons (λ m. cond (test m) 1 0) x indexes, ap {B = ℕ} (λ b. cond b 1 0) passes)) in
    let no : true ≡ false = sym some ∙ none in cc

fewer : (test : Index → Bool) (x : Index) (indexes : List Index) → count_by test (x ∷ indexes) ≤ 1 → count_by test indexes ≤ 1
fewer test x indexes few = omega (arith, few, sum_by-cons (λ m. cond (test m) 1 0) x indexes)

-- where one index at most passes a test, those that pass have one number
one_number : (test : Index → Bool) (ns : List ℕ) (indexes : List Index) (n m : ℕ) (i j : Index) → count_by test indexes ≤ 1 → (k : ℕ) → k < length (zip ns indexes) → slice_index_or (zip ns indexes) k (n, i) ≡ (n, i)
    → lookup (nat_eq m) (zip ns indexes) ≡ Some j → test i ≡ true → test j ≡ true → n ≡ m
one_number test [] indexes n m i j few k inside is found first second = absurd (omega (arith, inside))
one_number test (x ∷ ns) [] n m i j few k inside is found first second = absurd (omega (arith, inside))
one_number test (x ∷ ns) (y ∷ indexes) n m i j few k inside is found first second = by k inside is (nat_eq m x) refl found (λ l within at later. one_number test ns indexes n m i j (fewer test y indexes few) l within at later first second)
  where
    by : (l : ℕ) → l < length (zip (x ∷ ns) (y ∷ indexes)) → slice_index_or (zip (x ∷ ns) (y ∷ indexes)) l (n, i) ≡ (n, i) → (b : Bool) → nat_eq m x ≡ b → cond b (Some y) (lookup (nat_eq m) (zip ns indexes)) ≡ Some j
        → ((h : ℕ) → h < length (zip ns indexes) → slice_index_or (zip ns indexes) h (n, i) ≡ (n, i) → lookup (nat_eq m) (zip ns indexes) ≡ Some j → n ≡ m) → n ≡ m
    by zero within at true same here others = sym (ap (λ (e : ℕ × Index). e.0) at) ∙ sym (same_number m x same)
    by zero within at false other later others =
        absurd (not_twice test y indexes few (ap test (ap (λ (e : ℕ × Index). e.1) at) ∙ first) (found_any test ns indexes m j later second))
    by (suc l) within at true same here others =
        (let same_index : y ≡ j = cc in
        absurd (not_twice test y indexes few (ap test same_index ∙ second) (listed_any test ns indexes n i l (omega (arith, within)) at first)))
    by (suc l) within at false other later others = others l (omega (arith, within)) at later

among_zipped : (ns : List ℕ) (indexes : List Index) (n : ℕ) (i : Index) (k : ℕ) → k < length (zip ns indexes) → slice_index_or (zip ns indexes) k (n, i) ≡ (n, i) → is_among ns n ≡ true
among_zipped [] indexes n i k inside is = absurd (omega (arith, inside))
among_zipped (m ∷ ns) [] n i k inside is = absurd (omega (arith, inside))
among_zipped (m ∷ ns) (x ∷ indexes) n i zero inside is = ap (λ b. b || is_among ns n) (ap (nat_eq n) (ap (λ (e : ℕ × Index). e.0) is) ∙ own_number n)
among_zipped (m ∷ ns) (x ∷ indexes) n i (suc k) inside is = by (nat_eq n m) (among_zipped ns indexes n i k (omega (arith, inside)) is)
  where
    by : (b : Bool) → is_among ns n ≡ true → (b || is_among ns n) ≡ true
    by true rest = refl
    by false rest = rest

-- where the numbers are apart, an index is found by its own
looked_up : (ns : List ℕ) (indexes : List Index) (n : ℕ) (i : Index) → AreApart ns → (k : ℕ) → k < length (zip ns indexes) → slice_index_or (zip ns indexes) k (n, i) ≡ (n, i) → lookup (nat_eq n) (zip ns indexes) ≡ Some i
looked_up [] indexes n i apart k inside is = absurd (omega (arith, inside))
looked_up (m ∷ ns) [] n i apart k inside is = absurd (omega (arith, inside))
looked_up (m ∷ ns) (x ∷ indexes) n i apart zero inside is =
    ap (λ b. cond b (Some x) (lookup (nat_eq n) (zip ns indexes))) (ap (nat_eq n) (ap (λ (e : ℕ × Index). e.0) is) ∙ own_number n) ∙ ap (λ (e : ℕ × Index). Some e.1) is
looked_up (m ∷ ns) (x ∷ indexes) n i apart (suc k) inside is =
    by (nat_eq n m) refl (among_zipped ns indexes n i k (omega (arith, inside)) is) (looked_up ns indexes n i apart.1 k (omega (arith, inside)) is)
  where
    by : (b : Bool) → nat_eq n m ≡ b → is_among ns n ≡ true → lookup (nat_eq n) (zip ns indexes) ≡ Some i → cond b (Some x) (lookup (nat_eq n) (zip ns indexes)) ≡ Some i
    by true same among rest = (let no : false ≡ true = sym apart.0 ∙ ap (is_among ns) (sym (same_number n m same)) ∙ among in cc)
    by false other among rest = rest

-- ---- the index file of a relation

module _ (folder : Folder) (p : Partitioner) (t : TableParts) (own : HasOwnIndexes t) (number : ℕ) (content : Content) (r : IndexedRelation) (a : Asked) (is_asked : IsAsked t r a) where
  abbrev HasPart : PartNumber → Type 0
  HasPart part = HasIndexFile folder p t.definition t.numbers number content part

  index_at : (part : PartNumber) (has : HasPart part) → lookup (nat_eq part.index) (zip t.numbers t.definition.indexes) ≡ Some has.index
  index_at part has = looked_up t.numbers t.definition.indexes part.index has.index own.apart has.defined.0 has.defined.1 has.defined.2

  -- a part with the relation's number is of the relation's index
  same_index : (part : PartNumber) (has : HasPart part) → nat_eq part.index r.index ≡ true → has.index ≡ a.index
  same_index part has same =
      let found : Some has.index ≡ Some a.index = sym (index_at part has) ∙ ap (λ n. lookup (nat_eq n) (zip t.numbers t.definition.indexes)) (same_number part.index r.index same) ∙ is_asked.numbered in
      cc

  on_column : (part : PartNumber) (has : HasPart part) → nat_eq a.index.column has.index.column ≡ nat_eq part.index r.index
  on_column part has = by (nat_eq part.index r.index) refl (nat_eq a.index.column has.index.column) refl
    where
      by : (b : Bool) → nat_eq part.index r.index ≡ b → (c : Bool) → nat_eq a.index.column has.index.column ≡ c → c ≡ b
      by true same true column = refl
      by true same false column = (let no : false ≡ true = sym column ∙ ap (λ (i : Index). nat_eq a.index.column i.column) (same_index part has same) ∙ own_number a.index.column in cc)
      by false other false column = refl
      by false other true column =
          (let one : part.index ≡ r.index =
          one_number (λ (i : Index). nat_eq i.column a.index.column) t.numbers t.definition.indexes part.index r.index has.index a.index (own.few a.index.column) has.defined.0 has.defined.1 has.defined.2 is_asked.numbered
          (ap (λ n. nat_eq n a.index.column) (sym (same_number a.index.column has.index.column column)) ∙ own_number a.index.column) (own_number a.index.column) in
          let no : false ≡ true = sym other ∙ ap (λ n. nat_eq n r.index) one ∙ own_number r.index in cc)

  -- **The file has a part of the relation's index exactly where it has the column of the index.**
  pub part_column : (parts : List PartNumber) → AllByRecursion HasPart parts → has_part parts r ≡ list_any (nat_eq a.index.column) (columns_of t parts)
  part_column [] all = refl
  part_column (part ∷ parts) all =
      by (nat_eq part.index r.index) (part_column parts all.1)
      ∙ ap (λ b. b || list_any (nat_eq a.index.column) (columns_of t parts)) (sym (on_column part all.0))
      ∙ ap (λ (found : Option Index). list_any (nat_eq a.index.column) (cons_option (option_map (λ index. index.column) found) (columns_of t parts))) (sym (index_at part all.0))
    where
      by : (b : Bool) → has_part parts r ≡ list_any (nat_eq a.index.column) (columns_of t parts) → is_some (cond b (Some part) (part_for r.index parts)) ≡ (b || list_any (nat_eq a.index.column) (columns_of t parts))
      by true rest = refl
      by false rest = rest

  -- the folder has the index file of that part
  pub record HasOwnFile (part : PartNumber) : Type 0 where
    pub bytes : Bytes
    pub there : map_.get folder (index_name number part) ≡ Some bytes
    pub stands : StandsForIndex p t.definition a.index content bytes

  pub own_file : (parts : List PartNumber) → AllByRecursion HasPart parts → (part : PartNumber) → part_for r.index parts ≡ Some part → HasOwnFile part
  own_file parts all part found =
      let passes = part_passes (λ (q : PartNumber). nat_eq q.index r.index) HasPart parts part all found in
      let has = passes.0 in
      record { bytes = has.bytes; there = has.there; stands = subst (λ (i : Index). StandsForIndex p t.definition i content has.bytes) (same_index part has passes.1) has.stands }
