-- For callers: what the streams leave are exactly the hits of the part.
use Rattle.std.proofs.Common.{◌≡◌, ◌⊎◌, ◌&&◌, ◌||◌, ℕ, ◌+◌, ◌*◌, ◌≤◌, Bool, true, false, cond, nat_eq, List, [], ◌∷◌, length, map, None, Some, refl, sym, ap, subst, ◌∙◌, inl, inr, ⊎_elim, arith}
use Rattle.std.proofs.lemmas.Bool.{and_parts}
use Rattle.std.proofs.lemmas.List.{length-map}
use Rattle.std.proofs.lemmas.List.Sums.{sum_by-cons}
use Rattle.std.specs.List.{AllByRecursion, find, filter, list_all, list_any, sum_by, zip}
use Rattle.sasi_types.specs.declared.decorated_key.DecoratedKey.{DecoratedKey}
use Rattle.sasi_types.specs.declared.partitioner.Partitioner.{Partitioner}
use Rattle.sasi_types.specs.declared.tree.Pair.{Pair}
use Rattle.sasi_host.specs.Names.{Bytes, Folder}
use Rattle.sasi_terms.specs.declared.op.Op.{Op}
use Rattle.sasi_model.specs.Abbreviations.{Partitions, kind_of, types_of}
use Rattle.sasi_model.specs.Conditions.{Search}
use Rattle.sasi_model.specs.Indexes.{index_on}
use Rattle.sasi_model.specs.State.{Definition, Index}
use Rattle.sasi_treemerge.specs.Sources.{is_before}
use Rattle.sasi_datawrite.specs.Files.{IsDataFile}
use Rattle.sasi_datawrite.specs.Format.{Content, decorated_key, header, key_pairs}
use Rattle.sasi_datawrite.proofs.Laws.{pairs_length}
use Rattle.sasi_indexwrite.specs.Content.{IndexContent, IsContent}
use Rattle.sasi_indexread.specs.Costs.{pairs_read, whole_cost}
use Rattle.sasi_indexread.proofs.CostLaws.{cost_bound}
use Rattle.sasi_postings.specs.IndexFiles.{StandsForIndex}
use Rattle.sasi_layout.specs.Layout.{File, TableParts}
use Rattle.sasi_layout.specs.Shape.{HasFile, map_of}
use Rattle.sasi_candidates.specs.LayoutParts.{columns_of, part_of_file}
use Rattle.sasi_candidates.specs.Parts.{hit, hit_in_index, hit_on_disk}
use Rattle.sasi_candidates.specs.Searches.{CanAsk, is_asked_pair, keyed, same_pair, word_gives}
use Rattle.sasi_candidates.proofs.FileHits.{hit_found, search_gives}
use Rattle.sasi_candidates.proofs.FileIndexes.{HasOwnIndexes, all_hits, file_beside}
use Rattle.sasi_candidates.proofs.PairLists.{equal_pairs}
use Rattle.sasi_hits.specs.HitPairs.{AreHits, all_give}
use Rattle.sasi_hits.specs.IndexHits.{all_cost}
use Rattle.sasi_hits.specs.Pairs.{IsIn, PairsRise}
use Rattle.sasi_hits.proofs.KeyLaws.{pairs_rise}

-- **The pairs of the keys that pass a test**, in the order of the file.
abbrev pub pairs_of : (DecoratedKey → Bool) → List (Pair × DecoratedKey) → List Pair
pairs_of test es = map (λ e. e.0) (filter (λ e. test e.1) es)

-- ---- members

in_pairs : (test : DecoratedKey → Bool) (pair : Pair) (es : List (Pair × DecoratedKey)) (P : Pair × DecoratedKey → Type 0) → AllByRecursion P es → IsIn pair (pairs_of test es)
    → (e : Pair × DecoratedKey) × (e.0 ≡ pair) × (test e.1 ≡ true) × P e
in_pairs test pair [] P all has = absurd has
in_pairs test pair (e ∷ es) P all has = by (test e.1) refl has (in_pairs test pair es P all.1)
  where
    by : (b : Bool) → test e.1 ≡ b → IsIn pair (map (λ e. e.0) (cond b (e ∷ filter (λ e. test e.1) es) (filter (λ e. test e.1) es)))
        → (IsIn pair (pairs_of test es) → (e : Pair × DecoratedKey) × (e.0 ≡ pair) × (test e.1 ≡ true) × P e) → (e : Pair × DecoratedKey) × (e.0 ≡ pair) × (test e.1 ≡ true) × P e
    by true passes has later = ⊎_elim (λ same. (e, same, passes, all.0)) (λ rest. later rest) has
    by false passes has later = later has

-- a key whose pair is this one, where a test of pair and key passes
found_in : (test : DecoratedKey → Bool) (gives : DecoratedKey → Bool) (pair : Pair) (es : List (Pair × DecoratedKey)) → AllByRecursion (λ (e : Pair × DecoratedKey). same_pair pair e.0 ≡ true → test e.1 ≡ true) es
    → list_any (λ (e : Pair × DecoratedKey). same_pair pair e.0 && gives e.1) es ≡ true → IsIn pair (pairs_of test es)
found_in test gives pair [] all some = cc
found_in test gives pair (e ∷ es) all some = by (same_pair pair e.0) refl some (λ among. found_in test gives pair es all.1 among)
  where
    later : (b : Bool) → IsIn pair (pairs_of test es) → IsIn pair (map (λ e. e.0) (cond b (e ∷ filter (λ e. test e.1) es) (filter (λ e. test e.1) es)))
    later true rest = inr rest
    later false rest = rest

    here : same_pair pair e.0 ≡ true → IsIn pair (pairs_of test (e ∷ es))
    here same = subst (λ b. IsIn pair (map (λ e. e.0) (cond b (e ∷ filter (λ e. test e.1) es) (filter (λ e. test e.1) es)))) (sym (all.0 same)) (inl (sym (equal_pairs pair e.0 same)))

    by : (b : Bool) → same_pair pair e.0 ≡ b → ((same_pair pair e.0 && gives e.1) || list_any (λ (e : Pair × DecoratedKey). same_pair pair e.0 && gives e.1) es) ≡ true
        → (list_any (λ (e : Pair × DecoratedKey). same_pair pair e.0 && gives e.1) es ≡ true → IsIn pair (pairs_of test es)) → IsIn pair (pairs_of test (e ∷ es))
    by true same some rest = here same
    by false other some rest =
        later (test e.1) (rest (ap (λ b. (b && gives e.1) || list_any (λ (e : Pair × DecoratedKey). same_pair pair e.0 && gives e.1) es) (sym other) ∙ some))

-- ---- they rise

kept_behind : (test : DecoratedKey → Bool) (x : Pair) (es : List (Pair × DecoratedKey)) → AllByRecursion (λ y. is_before x y ≡ true) (map (λ e. e.0) es) → AllByRecursion (λ y. is_before x y ≡ true) (pairs_of test es)
kept_behind test x [] all = tt
kept_behind test x (e ∷ es) all = by (test e.1) (kept_behind test x es all.1)
  where
    by : (b : Bool) → AllByRecursion (λ y. is_before x y ≡ true) (pairs_of test es) → AllByRecursion (λ y. is_before x y ≡ true) (map (λ e. e.0) (cond b (e ∷ filter (λ e. test e.1) es) (filter (λ e. test e.1) es)))
    by true rest = (all.0, rest)
    by false rest = rest

kept_rise : (test : DecoratedKey → Bool) (es : List (Pair × DecoratedKey)) → PairsRise (map (λ e. e.0) es) → PairsRise (pairs_of test es)
kept_rise test [] rise = tt
kept_rise test (e ∷ es) rise = by (test e.1) (kept_rise test es rise.1)
  where
    by : (b : Bool) → PairsRise (pairs_of test es) → PairsRise (map (λ e. e.0) (cond b (e ∷ filter (λ e. test e.1) es) (filter (λ e. test e.1) es)))
    by true rest = (kept_behind test e.0 es rise.0, rest)
    by false rest = rest

firsts : {A B : Type 0} (xs : List A) (ys : List B) → length xs ≡ length ys → map (λ e. e.0) (zip xs ys) ≡ xs
firsts [] ys long = refl
firsts (x ∷ xs) [] long = absurd (omega (arith, long))
firsts (x ∷ xs) (y ∷ ys) long = ap (λ l. x ∷ l) (firsts xs ys (omega (arith, long)))

pub keyed_pairs : (p : Partitioner) (content : Content) → map (λ e. e.0) (keyed p content) ≡ key_pairs p content
keyed_pairs p content = firsts (key_pairs p content) (map (decorated_key p) content) (omega (arith, pairs_length p (length header) content, length-map content (decorated_key p)))

-- ---- an index file

all_words : (content : IndexContent) (op : Op) (pair other : Pair) (words : List Bytes) → pair ≡ other → all_give content op words pair ≡ true → list_all (is_asked_pair content op other) words ≡ true
all_words content op pair other words same all = subst (λ (q : Pair). list_all (is_asked_pair content op q) words ≡ true) same all

module _ (p : Partitioner) (d : Definition) (index : Index) (bytes index_bytes : Bytes) (content : Content) (file : IsDataFile p (types_of d) bytes content) (stands : StandsForIndex p d index content index_bytes) (regular : 1 ≤ index.column) where
  abbrev gives : Search → DecoratedKey → Bool
  gives search q = hit_in_index index search (map_of p content) q

  some_word : (search : Search) → CanAsk (kind_of d index.column) search.op → (pair : Pair) (words : List Bytes) → 1 ≤ length words → all_give stands.content search.op words pair ≡ true
      → (word : Bytes) × (list_any (λ (e : Pair × DecoratedKey). same_pair pair e.0 && word_gives index search.op (map_of p content) word e.1) (keyed p content) ≡ true)
  some_word search can pair [] some all = absurd (omega (arith, some))
  some_word search can pair (word ∷ words) some all = (
    word,
    sym (search_gives p d index bytes index_bytes content file stands regular search.op can word (same_pair pair)) ∙ (and_parts (is_asked_pair stands.content search.op pair word) (list_all (is_asked_pair stands.content search.op pair) words) all).0,
  )

  found_hits : (search : Search) → CanAsk (kind_of d index.column) search.op → 1 ≤ length search.words
      → AllByRecursion (λ (e : Pair × DecoratedKey). list_all (is_asked_pair stands.content search.op e.0) search.words ≡ gives search e.1) (keyed p content)
  found_hits search can some = hit_found p d index bytes index_bytes content file stands regular search can some

  are_hits : (search : Search) (pair : Pair) (es : List (Pair × DecoratedKey)) → all_give stands.content search.op search.words pair ≡ true
      → AllByRecursion (λ (e : Pair × DecoratedKey). list_all (is_asked_pair stands.content search.op e.0) search.words ≡ gives search e.1) es
      → AllByRecursion (λ (e : Pair × DecoratedKey). same_pair pair e.0 ≡ true → gives search e.1 ≡ true) es
  are_hits search pair [] all found = tt
  are_hits search pair (e ∷ es) all found = (
    (λ same. sym found.0 ∙ all_words stands.content search.op pair e.0 search.words (equal_pairs pair e.0 same) all),
    are_hits search pair es all found.1,
  )

  -- **The pairs that every word's search gives are those of the hits of the file.**
  pub index_hits : (search : Search) → CanAsk (kind_of d index.column) search.op → 1 ≤ length search.words
      → AreHits stands.content search.op search.words None 0 (pairs_of (gives search) (keyed p content))
  index_hits search can some = record {
    rise = kept_rise (gives search) (keyed p content) (subst PairsRise (sym (keyed_pairs p content)) (pairs_rise p (length header) content file.content_is.rising));
    each = λ pair has.
        (let e = in_pairs (gives search) pair (keyed p content) (λ (e : Pair × DecoratedKey). list_all (is_asked_pair stands.content search.op e.0) search.words ≡ gives search e.1) (found_hits search can some) has in
        record { behind = refl; from = omega arith; given = all_words stands.content search.op e.0.0 pair search.words e.1 (e.3 ∙ e.2) });
    all = λ pair is.
        (let word = some_word search can pair search.words some is.given in
        found_in (gives search) (word_gives index search.op (map_of p content) word.0) pair (keyed p content) (are_hits search pair (keyed p content) is.given (found_hits search can some)) word.1);
  }

-- ---- a file of a table

same_test : (test other : DecoratedKey → Bool) (es : List (Pair × DecoratedKey)) → ((q : DecoratedKey) → test q ≡ other q) → pairs_of test es ≡ pairs_of other es
same_test test other es same = ap (λ (t : DecoratedKey → Bool). pairs_of t es) (λ i q. same q i)

all_pass : (test : DecoratedKey → Bool) (es : List (Pair × DecoratedKey)) → AllByRecursion (λ (e : Pair × DecoratedKey). test e.1 ≡ true) es → pairs_of test es ≡ map (λ e. e.0) es
all_pass test [] all = refl
all_pass test (e ∷ es) all = ap (λ b. map (λ e. e.0) (cond b (e ∷ filter (λ e. test e.1) es) (filter (λ e. test e.1) es))) all.0 ∙ ap (λ l. e.0 ∷ l) (all_pass test es all.1)

found_has : {A : Type 0} (P : A → Type 0) (test : A → Bool) (xs : List A) (a : A) → AllByRecursion P xs → find test xs ≡ Some a → P a
found_has P test [] a all is = cc
found_has P test (x ∷ xs) a all is = by (test x) is (found_has P test xs a all.1)
  where
    by : (b : Bool) → cond b (Some x) (find test xs) ≡ Some a → (find test xs ≡ Some a → P a) → P a
    by true found later = (let same : x ≡ a = cc in subst P same all.0)
    by false found later = later found

module _ (folder : Folder) (p : Partitioner) (t : TableParts) (own : HasOwnIndexes t) (f : File) (file : HasFile folder p t.definition t.numbers f) (index : Index) (defined : index_on index.column t.definition.indexes ≡ Some index) where
  -- the hits of the file, as a part of the table
  abbrev pub file_hits : Search → List Pair
  file_hits search = pairs_of (λ q. hit index search q (part_of_file t f)) (keyed p file.content)

  abbrev has_index : Bool
  has_index = list_any (nat_eq index.column) (columns_of t f.listed.parts)

  -- **With the index file, the pairs that every word's search gives are those of the hits of the part,**
  pub file_index_hits : (has : has_index ≡ true) (search : Search) → CanAsk (kind_of t.definition index.column) search.op → 1 ≤ length search.words
      → AreHits (file_beside folder p t own f file index defined has).stands.content search.op search.words None 0 (file_hits search)
  file_index_hits has search can some =
      let beside = file_beside folder p t own f file index defined has in
      subst (λ (l : List Pair). AreHits beside.stands.content search.op search.words None 0 l)
      (same_test (λ q. hit_in_index index search (map_of p file.content) q) (λ q. hit index search q (part_of_file t f)) (keyed p file.content)
      (λ q. ap (λ (m : Partitions). hit_in_index index search m q) (sym file.holds) ∙ ap (λ b. hit_on_disk b index search f.holds q) (sym has)))
      (index_hits p t.definition index file.bytes beside.bytes file.content file.data_file beside.stands
      (found_has (λ (i : Index). 1 ≤ i.column) (λ (i : Index). nat_eq i.column index.column) t.definition.indexes index own.regular defined) search can some)

  -- **and without it, those of all keys.**
  pub file_key_hits : has_index ≡ false → (search : Search) → key_pairs p file.content ≡ file_hits search
  file_key_hits hasnt search =
      sym (keyed_pairs p file.content)
      ∙ sym (all_pass (λ q. hit index search q (part_of_file t f)) (keyed p file.content) (all_hits folder p t own f file index defined hasnt search))

-- ---- what they cost

-- the reads of the search of a word: 32, and 4 for each pair that it goes through
abbrev pub search_cost : IndexContent → Op → Bytes → ℕ
search_cost content op word = 32 + 4 * (pairs_read content op word + length content.spill)

words_cost : (levels : ℕ) (content : IndexContent) (op : Op) (words : List Bytes) → IsContent content → levels ≤ 27 → all_cost levels content op words + 3 * length words ≤ sum_by (search_cost content op) words
words_cost levels content op [] is few = omega arith
words_cost levels content op (word ∷ words) is few =
    omega (
      arith,
      few,
      cost_bound levels content op word is,
      sum_by-cons (whole_cost levels content op) word words,
      sum_by-cons (search_cost content op) word words,
      words_cost levels content op words is few,
    )

-- **The hits of an index file, the opening with them, take at most 32 reads for each word and 4 for each pair.**
pub hits_cost : (levels : ℕ) (content : IndexContent) (op : Op) (words : List Bytes) → IsContent content → levels ≤ 27 → 1 ≤ length words → 3 + all_cost levels content op words ≤ sum_by (search_cost content op) words
hits_cost levels content op words is few some = omega (arith, words_cost levels content op words is few, some)
