-- For callers: a search of the index file beside a data file gives exactly the hits of the file.
use Rattle.std.proofs.Common.{◌≡◌, ◌≢◌, ℕ, suc, ◌+◌, ◌≤◌, ◌<◌, Bool, true, false, cond, ◌&&◌, ◌||◌, not, is_some, List, [], ◌∷◌, length, map, Option, None, Some, refl, sym, ap, ap₂, subst, ◌∙◌, arith, unwrap_or}
use Rattle.std.proofs.lemmas.Cmp.{tied_itself}
use Rattle.std.proofs.lemmas.Bool.Decides.{nat_tests}
use Rattle.std.specs.FinMap as map_
use Rattle.std.specs.List.{AllByRecursion, filter, list_all, list_any, zip}
use Rattle.std.specs.List.Sorted.{IsStrictlySortedBy}
use Rattle.std.specs.Option.{option_and_then}
use Rattle.std.specs.Ordering.{eq_by_cmp, is_eq, ordering_reverse}
use Rattle.std.specs.declared.cmp.Ordering.TheVariants.{Less}
use Rattle.sasi_types.specs.declared.cell.Cell.{Cell}
use Rattle.sasi_types.specs.declared.column.ColumnType.{ColumnType}
use Rattle.sasi_types.specs.declared.column.ColumnType.TheVariants as types
use Rattle.sasi_types.specs.declared.decorated_key.DecoratedKey.{DecoratedKey}
use Rattle.sasi_types.specs.declared.partitioner.Partitioner.{Partitioner}
use Rattle.sasi_types.specs.declared.rule.Rule.{Rule}
use Rattle.sasi_types.specs.declared.tree.Pair.{Pair}
use Rattle.sasi_types.specs.declared.value.Value.{Value}
use Rattle.sasi_types.specs.declared.value.Value.TheVariants.{Text, Int, BigInt, Uuid}
use Rattle.sasi_types.specs.DecoratedKey.{decorated_cmp, decorated_total}
use Rattle.sasi_types.specs.Value.{type_of}
use Rattle.sasi_host.specs.Names.{Bytes}
use Rattle.sasi_terms.specs.declared.op.Op.{Op}
use Rattle.sasi_terms.specs.declared.op.Op.TheVariants as ops
use Rattle.sasi_terms.specs.Holds.{holds}
use Rattle.sasi_terms.specs.Numbers.{bigint_term, int_term}
use Rattle.sasi_terms.specs.Terms.{terms}
use Rattle.sasi_terms.proofs.NumberOrder.{bigint_bytes, int_bytes}
use Rattle.sasi_model.specs.Abbreviations.{Partitions, kind_of, types_of}
use Rattle.sasi_model.specs.Cells.{Partition}
use Rattle.sasi_model.specs.IndexTerms.{terms_at, terms_of, terms_of_cell, terms_of_value}
use Rattle.sasi_model.specs.Conditions.{Search}
use Rattle.sasi_model.specs.State.{Definition, Index, decorated}
use Rattle.sasi_model.specs.Stored.{IsBodyOf, IsListed}
use Rattle.sasi_model.specs.Tokens.{same}
use Rattle.sasi_memtable.proofs.Ordered.{entries-from_ordered}
use Rattle.sasi_datawrite.specs.Files.{IsDataFile}
use Rattle.sasi_datawrite.specs.Format.{Content, decorated_key, header, pairs_from, partition_bytes}
use Rattle.sasi_datawrite.proofs.Laws.{partition_length}
use Rattle.sasi_indexread.specs.Asked.{asked_lists, is_asked}
use Rattle.sasi_indexread.proofs.RangeLaws.{asked_holds}
use Rattle.sasi_postings.specs.IndexFiles.{StandsForIndex}
use Rattle.sasi_sparse.specs.Sparse.{is_rare}
use Rattle.sasi_postings.specs.Postings.{is_kept, is_short, paired, postings_at}
use Rattle.sasi_layout.specs.Shape.{map_of}
use Rattle.sasi_layout.proofs.Bodies.{each_of}
use Rattle.sasi_candidates.specs.Parts.{hit_in_index, is_stored, posted, spilled}
use Rattle.sasi_candidates.specs.Searches.{CanAsk, any_pair, is_asked_pair, keyed, same_pair, word_gives}
use Rattle.sasi_postings.proofs.ListTests.{all_filtered, same_any}
use Rattle.sasi_candidates.proofs.PairLists.{pair_itself}
use Rattle.sasi_candidates.proofs.PostingTests.{found, items_found, partition_found}

-- ---- the terms of a value

all_terms : (P : Bytes → Type 0) → ((term : Bytes) → P term) → (terms : List Bytes) → AllByRecursion P terms
all_terms P each [] = tt
all_terms P each (term ∷ terms) = (each term, all_terms P each terms)

-- a term is asked for where the operator holds for it
abbrev pub AsHeld : ColumnType → Op → Bytes → Bytes → Type 0
AsHeld kind op word term = is_asked kind op word term ≡ holds op term word

text_asked : (op : Op) (word : Bytes) → CanAsk types.Text op → (term : Bytes) → AsHeld types.Text op word term
text_asked ops.Eq word can term = refl
text_asked ops.Prefix word can term = refl
text_asked ops.Suffix word can term = refl
text_asked ops.Contains word can term = refl
text_asked (ops.Range least greatest) word can term = absurd can

value_asked : (op : Op) (word : Bytes) (rule : Option Rule) (value : Value) → CanAsk (type_of value) op → AllByRecursion (AsHeld (type_of value) op word) (terms_of rule value)
value_asked op word None (Text text) can = tt
value_asked op word (Some rule) (Text text) can = all_terms (AsHeld types.Text op word) (text_asked op word can) (terms rule text)
value_asked op word None (Int number) can = (asked_holds types.Int op word (int_term number) (refl, int_bytes number), tt)
value_asked op word (Some rule) (Int number) can = (asked_holds types.Int op word (int_term number) (refl, int_bytes number), tt)
value_asked op word None (BigInt number) can = (asked_holds types.BigInt op word (bigint_term number) (refl, bigint_bytes number), tt)
value_asked op word (Some rule) (BigInt number) can = (asked_holds types.BigInt op word (bigint_term number) (refl, bigint_bytes number), tt)
value_asked op word None (Uuid bytes) can = tt
value_asked op word (Some rule) (Uuid bytes) can = tt

-- the value of the cell, if it is live, is of the type
abbrev pub IsOfKind : ColumnType → Option Cell → Type 0
IsOfKind kind found = (cell : Cell) (value : Value) → found ≡ Some cell → cell.value ≡ Some value → type_of value ≡ kind

pub cell_asked : (kind : ColumnType) (op : Op) (word : Bytes) (rule : Option Rule) (found : Option Cell) → CanAsk kind op → IsOfKind kind found → AllByRecursion (AsHeld kind op word) (terms_of_cell rule found)
cell_asked kind op word rule None can is = tt
cell_asked kind op word rule (Some cell) can is = by cell.value (λ value has. is cell value refl has)
  where
    by : (value : Option Value) → ((v : Value) → value ≡ Some v → type_of v ≡ kind) → AllByRecursion (AsHeld kind op word) (terms_of_value rule value)
    by None typed = tt
    by (Some value) typed =
        let type : type_of value ≡ kind = typed value refl in
        subst (λ (k : ColumnType). AllByRecursion (AsHeld k op word) (terms_of rule value)) type (value_asked op word rule value (subst (λ (k : ColumnType). CanAsk k op) (sym type) can))

-- ---- what is stored

-- where those terms are kept that the map tells to be stored
module _ (index : Index) (m : Partitions) (kept : Bytes → Bool) (as_stored : (term : Bytes) → kept term ≡ is_stored index m term) where
  -- what the postings of a partition say is what the map says of its key
  partition_gives : (kind : ColumnType) (op : Op) (word : Bytes) (q : DecoratedKey) → AllByRecursion (AsHeld kind op word) (terms_at index.rule index.column m q)
      → (list_any (λ term. not (kept term)) (terms_at index.rule index.column m q) || list_any (is_asked kind op word) (filter kept (terms_at index.rule index.column m q))) ≡ word_gives index op m word q
  partition_gives kind op word q all =
      let of_key = terms_at index.rule index.column m q in
      ap (λ (stored : Bytes → Bool). list_any (λ term. not (stored term)) of_key || list_any (is_asked kind op word) (filter stored of_key)) (λ i term. as_stored term i)
      ∙ ap (λ b. spilled index m q || b) (same_any (is_asked kind op word) (λ term. holds op term word) (filter (is_stored index m) of_key) (all_filtered (AsHeld kind op word) (is_stored index m) of_key all))

-- ---- the keys of a content

abbrev pub entries_of : Partitioner → Content → List (DecoratedKey × Partition)
entries_of p content = map (λ one. (decorated p one.0, one.1)) content

not_tied : (a b : DecoratedKey) → decorated_cmp a b ≡ Less → eq_by_cmp decorated_cmp b a ≡ false
not_tied a b less = ap is_eq (decorated_total.antisymm b a ∙ ap ordering_reverse less)

module _ (p : Partitioner) where
  found_behind : (one : Bytes × Partition) (es : List (DecoratedKey × Partition)) (content : Content) → AllByRecursion (λ q. decorated_cmp (decorated_key p one) q ≡ Less) (map (decorated_key p) content)
      → AllByRecursion (λ other. map_.find decorated_cmp (decorated_key p other) es ≡ Some other.1) content → AllByRecursion (λ other. map_.find decorated_cmp (decorated_key p other) ((decorated p one.0, one.1) ∷ es) ≡ Some other.1) content
  found_behind one es [] below all = tt
  found_behind one es (other ∷ content) below all = (
    ap (λ b. cond b (Some one.1) (map_.find decorated_cmp (decorated_key p other) es)) (not_tied (decorated_key p one) (decorated_key p other) below.0) ∙ all.0,
    found_behind one es content below.1 all.1,
  )

  pub entries_found : (content : Content) → IsStrictlySortedBy decorated_cmp (map (decorated_key p) content) → AllByRecursion (λ one. map_.find decorated_cmp (decorated_key p one) (entries_of p content) ≡ Some one.1) content
  unfolding IsStrictlySortedBy
  entries_found [] rises = tt
  entries_found (one ∷ content) rises = (
    ap (λ r. cond (is_eq r) (Some one.1) (map_.find decorated_cmp (decorated_key p one) (entries_of p content))) (tied_itself decorated_total (decorated_key p one)),
    found_behind one (entries_of p content) content rises.0 (entries_found content rises.1),
  )

  -- the map has a partition of the content under its key
  abbrev pub HasIn : Partitions → Bytes × Partition → Type 0
  HasIn m one = map_.get m (decorated_key p one) ≡ Some one.1

  pub all_in : (es : List (DecoratedKey × Partition)) (content : Content) → AllByRecursion (λ one. map_.find decorated_cmp (decorated_key p one) es ≡ Some one.1) content → AllByRecursion (HasIn (map_.from_entries es)) content
  all_in es [] all = tt
  all_in es (one ∷ content) all = (map_.get-from_entries decorated_total es (decorated_key p one) ∙ all.0, all_in es content all.1)

-- ---- what is stored, by the map of a content

keys_are : (p : Partitioner) (content : Content) → map (decorated_key p) content ≡ map (λ (e : DecoratedKey × Partition). e.0) (entries_of p content)
keys_are p [] = refl
keys_are p (one ∷ content) = ap (λ (l : List DecoratedKey). decorated p one.0 ∷ l) (keys_are p content)

-- the map's entries are those of the content, in order
pub content_entries : (p : Partitioner) (content : Content) → IsStrictlySortedBy decorated_cmp (map (decorated_key p) content) → map_.entries (map_of p content) ≡ entries_of p content
content_entries p content rises = entries-from_ordered (entries_of p content) (subst (IsStrictlySortedBy decorated_cmp) (keys_are p content) rises)

module _ (p : Partitioner) (index : Index) where
  abbrev has : Bytes → Partition → Bool
  has term part = list_any (same term) (terms_of_cell index.rule (map_.get part.cells index.column))

  entries_with : (term : Bytes) (content : Content) → length (filter (λ (e : DecoratedKey × Partition). has term e.1) (entries_of p content)) ≡ length (filter (λ (one : Bytes × Partition). has term one.1) content)
  entries_with term [] = refl
  entries_with term (one ∷ content) = by (has term one.1) (entries_with term content)
    where
      by : (b : Bool) → length (filter (λ (e : DecoratedKey × Partition). has term e.1) (entries_of p content)) ≡ length (filter (λ (o : Bytes × Partition). has term o.1) content)
          → length (cond b ((decorated p one.0, one.1) ∷ filter (λ (e : DecoratedKey × Partition). has term e.1) (entries_of p content)) (filter (λ (e : DecoratedKey × Partition). has term e.1) (entries_of p content)))
          ≡ length (cond b (one ∷ filter (λ (o : Bytes × Partition). has term o.1) content) (filter (λ (o : Bytes × Partition). has term o.1) content))
      by true rest = ap suc rest
      by false rest = rest

  -- **A term is kept in the index file of a content where it is stored by the map of the content.**
  pub kept_stored : (content : Content) → IsStrictlySortedBy decorated_cmp (map (decorated_key p) content) → (term : Bytes) → is_kept index.mode index.column index.rule content term ≡ is_stored index (map_of p content) term
  kept_stored content rises term =
      ap (λ n. is_short term && is_rare index.mode n)
      (sym (ap (λ (es : List (DecoratedKey × Partition)). length (filter (λ (e : DecoratedKey × Partition). has term e.1) es)) (content_entries p content rises) ∙ entries_with term content))

-- ---- one partition

module _ (p : Partitioner) (d : Definition) (index : Index) (m : Partitions) (kept : Bytes → Bool) (as_stored : (term : Bytes) → kept term ≡ is_stored index m term) (regular : 1 ≤ index.column) (op : Op) (can : CanAsk (kind_of d index.column) op) (word : Bytes) (test : Pair → Bool) where
  abbrev kind : ColumnType
  kind = kind_of d index.column

  pub of_kind : (key : Bytes) (part : Partition) → IsBodyOf (types_of d) key part → IsOfKind kind (map_.get part.cells index.column)
  of_kind key part body cell value there has =
      sym (ap (λ (o : Option ColumnType). unwrap_or o types.Text) ((each_of (IsListed (types_of d)) part body.columns index.column cell there).typed value has regular))

  -- its postings say what the map says of its key
  abbrev IsGiven : Bytes × Partition → Type 0
  IsGiven one = (pair : Pair) → list_any (found kind op word test) (postings_at kept index.column index.rule pair one.1) ≡ (test pair && word_gives index op m word (decorated_key p one))

  one_given : (one : Bytes × Partition) → IsBodyOf (types_of d) one.0 one.1 → HasIn p m one → IsGiven one
  one_given one body there pair =
      let q = decorated_key p one in
      let cell = map_.get one.1.cells index.column in
      let same : terms_of_cell index.rule cell ≡ terms_at index.rule index.column m q = sym (ap (λ (o : Option Partition). terms_of_cell index.rule (option_and_then (λ (part : Partition). map_.get part.cells index.column) o)) there) in
      partition_found kind op word test kept pair (terms_of_cell index.rule cell)
      ∙ ap (λ (terms : List Bytes). test pair && (list_any (λ term. not (kept term)) terms || list_any (is_asked kind op word) (filter kept terms))) same
      ∙ ap (λ b. test pair && b)
      (partition_gives index m kept as_stored kind op word q (subst (λ (terms : List Bytes). AllByRecursion (AsHeld kind op word) terms) same (cell_asked kind op word index.rule cell can (of_kind one.0 one.1 body))))

  all_given : (content : Content) → AllByRecursion (λ one. IsBodyOf (types_of d) one.0 one.1) content → AllByRecursion (HasIn p m) content → AllByRecursion IsGiven content
  all_given [] bodies there = tt
  all_given (one ∷ content) bodies there = (one_given one bodies.0 there.0, all_given content bodies.1 there.1)

  -- and so of all of them, with the pairs that they have from this offset on
  on_keys : (at : ℕ) (content : Content) → AllByRecursion IsGiven content
      → list_any (λ (one : Pair × Partition). list_any (found kind op word test) (postings_at kept index.column index.rule one.0 one.1)) (zip (pairs_from p at content) (map (λ one. one.1) content))
      ≡ list_any (λ (one : Pair × DecoratedKey). test one.0 && word_gives index op m word one.1) (zip (pairs_from p at content) (map (decorated_key p) content))
  on_keys at [] all = refl
  on_keys at (one ∷ content) all =
      ap₂ (λ a b. a || b) (all.0 _) (on_keys (at + length (partition_bytes one.0 one.1)) content all.1)

-- ---- one pair

apart : (a b : Pair) → a.place ≢ b.place → same_pair a b ≡ false
apart a b ne = grind (arith, nat_tests)

either_test : (a b c d : Bool) → a ≡ true → d ≡ false → ((a && b) || d) ≡ b
either_test true true c false e f = refl
either_test true false c false e f = refl
either_test true b c true e f = cc
either_test false b c d e f = cc

module _ (p : Partitioner) where
  abbrev keyed_from : ℕ → Content → List (Pair × DecoratedKey)
  keyed_from at content = zip (pairs_from p at content) (map (decorated_key p) content)

  -- whether a key of this pair passes the test
  abbrev of_pair : (DecoratedKey → Bool) → Pair → List (Pair × DecoratedKey) → Bool
  of_pair gives pair es = list_any (λ (e : Pair × DecoratedKey). same_pair pair e.0 && gives e.1) es

  -- only this key has the pair
  abbrev IsOwn : List (Pair × DecoratedKey) → Pair × DecoratedKey → Type 0
  IsOwn es e = (gives : DecoratedKey → Bool) → of_pair gives e.0 es ≡ gives e.1

  from_on : (least at : ℕ) (content : Content) → least ≤ at → AllByRecursion (λ (e : Pair × DecoratedKey). least ≤ e.0.place) (keyed_from at content)
  from_on least at [] le = tt
  from_on least at (one ∷ content) le = (le, from_on least (at + length (partition_bytes one.0 one.1)) content (omega (arith, le)))

  no_other : (gives : DecoratedKey → Bool) (pair : Pair) (least : ℕ) (es : List (Pair × DecoratedKey)) → pair.place < least → AllByRecursion (λ (e : Pair × DecoratedKey). least ≤ e.0.place) es → of_pair gives pair es ≡ false
  no_other gives pair least [] lt all = refl
  no_other gives pair least (e ∷ es) lt all =
      ap (λ b. (b && gives e.1) || of_pair gives pair es) (apart pair e.0 (λ same. omega (arith, same, lt, all.0))) ∙ no_other gives pair least es lt all.1

  own_later : (first : Pair × DecoratedKey) (least : ℕ) (rest es : List (Pair × DecoratedKey)) → first.0.place < least → AllByRecursion (λ (e : Pair × DecoratedKey). least ≤ e.0.place) es
      → AllByRecursion (IsOwn rest) es → AllByRecursion (IsOwn (first ∷ rest)) es
  own_later first least rest [] lt all own = tt
  own_later first least rest (e ∷ es) lt all own = (
    (λ gives. ap (λ b. (b && gives first.1) || of_pair gives e.0 rest) (apart e.0 first.0 (λ same. omega (arith, same, lt, all.0))) ∙ own.0 gives),
    own_later first least rest es lt all.1 own.1,
  )

  own_pairs : (at : ℕ) (content : Content) → AllByRecursion (IsOwn (keyed_from at content)) (keyed_from at content)
  own_pairs at [] = tt
  own_pairs at (one ∷ content) =
      let next = at + length (partition_bytes one.0 one.1) in
      let first : Pair × DecoratedKey = (record { token = (decorated_key p one).token; place = at }, decorated_key p one) in
      let lt : at < next = omega (arith, partition_length one.0 one.1) in
      let behind = from_on next next content (omega arith) in (
        (λ gives. either_test (same_pair first.0 first.0) (gives first.1) false (of_pair gives first.0 (keyed_from next content)) (pair_itself first.0) (no_other gives first.0 next (keyed_from next content) lt behind)),
        own_later first next (keyed_from next content) (keyed_from next content) lt behind (own_pairs next content),
      )

-- ---- the keys of a file

module _ (p : Partitioner) where
  there_from : (m : Partitions) (at : ℕ) (content : Content) → AllByRecursion (HasIn p m) content → AllByRecursion (λ (e : Pair × DecoratedKey). is_some (map_.get m e.1) ≡ true) (keyed_from p at content)
  there_from m at [] all = tt
  there_from m at (one ∷ content) all = (ap is_some all.0, there_from m (at + length (partition_bytes one.0 one.1)) content all.1)

  -- its map has each key
  pub keys_there : (content : Content) → IsStrictlySortedBy decorated_cmp (map (decorated_key p) content) → AllByRecursion (λ (e : Pair × DecoratedKey). is_some (map_.get (map_of p content) e.1) ≡ true) (keyed p content)
  keys_there content rises = there_from (map_of p content) (length header) content (all_in p (entries_of p content) content (entries_found p content rises))

-- ---- the words of a search

spread : (spill : Bool) (posted : List ℕ → Bool) (word : List ℕ) (words : List (List ℕ)) → (spill || list_all posted (word ∷ words)) ≡ list_all (λ w. spill || posted w) (word ∷ words)
spread true posted word [] = refl
spread true posted word (next ∷ words) = spread true posted next words
spread false posted word words = refl

-- the spill joins the lists of each word
each_word : (spill : Bool) (posted : List ℕ → Bool) (words : List (List ℕ)) → 1 ≤ length words → (spill || list_all posted words) ≡ list_all (λ w. spill || posted w) words
each_word spill posted [] some = absurd (omega (arith, some))
each_word spill posted (word ∷ words) some = spread spill posted word words

-- ---- the file

module _ (p : Partitioner) (d : Definition) (index : Index) (bytes index_bytes : Bytes) (content : Content) (file : IsDataFile p (types_of d) bytes content) (stands : StandsForIndex p d index content index_bytes) (regular : 1 ≤ index.column) where
  abbrev m : Partitions
  m = map_of p content

  abbrev kept : Bytes → Bool
  kept = is_kept index.mode index.column index.rule content

  as_stored : (term : Bytes) → kept term ≡ is_stored index m term
  as_stored term = kept_stored p index content file.content_is.rising term

  -- **A pair that a search gives is that of a key which is in the spill or posted under a stored term as asked; and each such pair is given.** So it is said for every test of pairs.
  pub search_gives : (op : Op) → CanAsk (kind_of d index.column) op → (word : Bytes) (test : Pair → Bool)
      → any_pair test (asked_lists stands.content op word) ≡ list_any (λ (e : Pair × DecoratedKey). test e.0 && word_gives index op m word e.1) (keyed p content)
  search_gives op can word test =
      items_found (kind_of d index.column) op word test index.mode (λ (one : Pair × Partition). postings_at kept index.column index.rule one.0 one.1) (paired p content) index_bytes stands
      ∙ on_keys p d index m kept as_stored regular op can word test (length header) content
      (all_given p d index m kept as_stored regular op can word test content file.typed (all_in p (entries_of p content) content (entries_found p content file.content_is.rising)))

  of_word : (op : Op) → CanAsk (kind_of d index.column) op → (word : Bytes) (e : Pair × DecoratedKey) → IsOwn p (keyed p content) e → is_asked_pair stands.content op e.0 word ≡ word_gives index op m word e.1
  of_word op can word e own = search_gives op can word (same_pair e.0) ∙ own (word_gives index op m word)

  -- **The pair of each key is among the lists of a word exactly where the key is in the spill or posted.**
  pub word_found : (op : Op) → CanAsk (kind_of d index.column) op → (word : Bytes) → AllByRecursion (λ (e : Pair × DecoratedKey). is_asked_pair stands.content op e.0 word ≡ word_gives index op m word e.1) (keyed p content)
  word_found op can word = each (keyed p content) (own_pairs p (length header) content)
    where
      each : (es : List (Pair × DecoratedKey)) → AllByRecursion (IsOwn p (keyed p content)) es → AllByRecursion (λ (e : Pair × DecoratedKey). is_asked_pair stands.content op e.0 word ≡ word_gives index op m word e.1) es
      each [] all = tt
      each (e ∷ es) all = (of_word op can word e all.0, each es all.1)

  -- **A key is a hit of the file exactly where its pair is among the lists of each word.**
  pub hit_found : (search : Search) → CanAsk (kind_of d index.column) search.op → 1 ≤ length search.words
      → AllByRecursion (λ (e : Pair × DecoratedKey). list_all (is_asked_pair stands.content search.op e.0) search.words ≡ hit_in_index index search m e.1) (keyed p content)
  hit_found search can some = each (keyed p content) (own_pairs p (length header) content)
    where
      each : (es : List (Pair × DecoratedKey)) → AllByRecursion (IsOwn p (keyed p content)) es → AllByRecursion (λ (e : Pair × DecoratedKey). list_all (is_asked_pair stands.content search.op e.0) search.words ≡ hit_in_index index search m e.1) es
      each [] all = tt
      each (e ∷ es) all = (
        ap (λ (test : List ℕ → Bool). list_all test search.words) (λ i word. of_word search.op can word e all.0 i)
            ∙ sym (each_word (spilled index m e.1) (posted index search.op m e.1) search.words some),
        each es all.1,
      )
