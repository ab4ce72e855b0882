-- For callers: how many pairs a search of an index file goes through, by the map of the data file beside it.
use Rattle.std.proofs.Common.{◌≡◌, ℕ, suc, ◌+◌, ◌*◌, ◌≤◌, Bool, true, false, cond, ◌||◌, not, if◌then◌else◌, List, [], ◌∷◌, length, map, Option, refl, sym, ap, ap₂, subst, ◌∙◌, arith}
use Rattle.std.proofs.lemmas.List.Sums.{sum_by-append, sum_by-cons}
use Rattle.std.specs.FinMap as map_
use Rattle.std.specs.List.{AllByRecursion, dedup, dedup_from, filter, flat_map, list_any, sum_by, zip}
use Rattle.std.specs.Option.{option_and_then}
use Rattle.std.specs.Ordering.{is_gt}
use Rattle.std.specs.declared.cmp.Ordering.{Ordering}
use Rattle.sasi_types.specs.declared.column.ColumnType.{ColumnType}
use Rattle.sasi_types.specs.declared.decorated_key.DecoratedKey.{DecoratedKey}
use Rattle.sasi_types.specs.declared.list_kind.ListKind.{ListKind}
use Rattle.sasi_types.specs.declared.list_kind.ListKind.TheVariants.{Stored, Spill}
use Rattle.sasi_types.specs.declared.mode.Mode.{Mode}
use Rattle.sasi_types.specs.declared.partitioner.Partitioner.{Partitioner}
use Rattle.sasi_types.specs.declared.tree.Pair.{Pair}
use Rattle.sasi_types.specs.Term.{term_cmp, term_eq}
use Rattle.sasi_host.specs.Names.{Bytes}
use Rattle.sasi_terms.specs.declared.op.Op.{Op}
use Rattle.sasi_model.specs.Abbreviations.{Partitions, kind_of, types_of}
use Rattle.sasi_model.specs.Cells.{Partition}
use Rattle.sasi_model.specs.IndexTerms.{terms_at, terms_of_cell}
use Rattle.sasi_model.specs.State.{Definition, Index, decorated}
use Rattle.sasi_model.specs.Stored.{IsBodyOf}
use Rattle.sasi_segments.specs.declared.posting.Posting.{Posting}
use Rattle.sasi_segments.specs.Postings.{in_order, posting_cmp, posting_of}
use Rattle.sasi_segments.specs.Sorting.{inserted, sort}
use Rattle.sasi_datawrite.specs.Files.{IsDataFile}
use Rattle.sasi_datawrite.specs.Format.{Content, decorated_key, header, pairs_from, partition_bytes}
use Rattle.sasi_indexwrite.specs.Content.{TermPairs, spill_postings, term_postings}
use Rattle.sasi_indexwrite.specs.Content as file
use Rattle.sasi_indexwrite.specs.Files.{IsIndexOf}
use Rattle.sasi_indexread.specs.Asked.{is_asked, is_run}
use Rattle.sasi_indexread.specs.Costs.{pairs_if, pairs_read}
use Rattle.sasi_postings.specs.IndexFiles.{StandsForIndex}
use Rattle.sasi_postings.specs.Postings.{distinct, is_kept, paired, postings_at, postings_of, stored_postings}
use Rattle.sasi_postings.specs.Postings as of_terms
use Rattle.sasi_layout.specs.Shape.{map_of}
use Rattle.sasi_candidates.specs.Costs.{is_scanned, pairs_at, search_cost}
use Rattle.sasi_candidates.specs.Parts.{is_stored, spilled}
use Rattle.sasi_candidates.specs.Searches.{CanAsk}
use Rattle.sasi_candidates.proofs.FileHits.{AsHeld, HasIn, all_in, cell_asked, content_entries, entries_found, entries_of, kept_stored, of_kind}
use Rattle.sasi_postings.proofs.ListTests.{all_filtered}

-- ---- sums over lists

inserted_sum : {X : Type 0} (cmp : X → X → Ordering) (f : X → ℕ) (x : X) (xs : List X) → sum_by f (inserted cmp x xs) ≡ f x + sum_by f xs
unfolding inserted
inserted_sum cmp f x [] = sum_by-cons f x []
inserted_sum cmp f x (y ∷ ys) = by (is_gt (cmp x y)) (inserted_sum cmp f x ys)
  where
    by : (b : Bool) → sum_by f (inserted cmp x ys) ≡ f x + sum_by f ys → sum_by f (cond b (y ∷ inserted cmp x ys) (x ∷ y ∷ ys)) ≡ f x + sum_by f (y ∷ ys)
    by true rest = omega (arith, sum_by-cons f y (inserted cmp x ys), rest, sum_by-cons f y ys)
    by false rest = sum_by-cons f x (y ∷ ys)

sorted_sum : {X : Type 0} (cmp : X → X → Ordering) (f : X → ℕ) (xs : List X) → sum_by f (sort cmp xs) ≡ sum_by f xs
unfolding sort
sorted_sum cmp f [] = refl
sorted_sum cmp f (x ∷ xs) = inserted_sum cmp f x (sort cmp xs) ∙ ap (λ n. f x + n) (sorted_sum cmp f xs) ∙ sym (sum_by-cons f x xs)

flat_sum : {A X : Type 0} (f : X → ℕ) (g : A → List X) (items : List A) → sum_by f (flat_map g items) ≡ sum_by (λ a. sum_by f (g a)) items
flat_sum f g [] = refl
flat_sum f g (a ∷ items) = sum_by-append f (g a) (flat_map g items) ∙ ap (λ n. sum_by f (g a) + n) (flat_sum f g items) ∙ sym (sum_by-cons (λ b. sum_by f (g b)) a items)

same_sum : {X : Type 0} (f g : X → ℕ) (xs : List X) → AllByRecursion (λ x. f x ≡ g x) xs → sum_by f xs ≡ sum_by g xs
same_sum f g [] all = refl
same_sum f g (x ∷ xs) all = sum_by-cons f x xs ∙ ap₂ (λ a b. a + b) all.0 (same_sum f g xs all.1) ∙ sym (sum_by-cons g x xs)

same_length : {X : Type 0} (test other : X → Bool) (xs : List X) → AllByRecursion (λ x. test x ≡ other x) xs → length (filter test xs) ≡ length (filter other xs)
same_length test other [] all = refl
same_length test other (x ∷ xs) all =
    ap (λ b. length (cond b (x ∷ filter test xs) (filter test xs))) all.0 ∙ by (other x) (same_length test other xs all.1)
  where
    by : (b : Bool) → length (filter test xs) ≡ length (filter other xs) → length (cond b (x ∷ filter test xs) (filter test xs)) ≡ length (cond b (x ∷ filter other xs) (filter other xs))
    by true rest = ap suc rest
    by false rest = rest

-- what holds of each item of a list holds of each item of the sorted one, without repeats
module _ {X : Type 0} (P : X → Type 0) where
  all_inserted : (cmp : X → X → Ordering) (x : X) (xs : List X) → P x → AllByRecursion P xs → AllByRecursion P (inserted cmp x xs)
  unfolding inserted
  all_inserted cmp x [] first all = (first, tt)
  all_inserted cmp x (y ∷ ys) first all = by (is_gt (cmp x y)) (all_inserted cmp x ys first all.1)
    where
      by : (b : Bool) → AllByRecursion P (inserted cmp x ys) → AllByRecursion P (cond b (y ∷ inserted cmp x ys) (x ∷ y ∷ ys))
      by true rest = (all.0, rest)
      by false rest = (first, all)

  all_sorted : (cmp : X → X → Ordering) (xs : List X) → AllByRecursion P xs → AllByRecursion P (sort cmp xs)
  unfolding sort
  all_sorted cmp [] all = tt
  all_sorted cmp (x ∷ xs) all = all_inserted cmp x (sort cmp xs) all.0 (all_sorted cmp xs all.1)

  all_once_from : (same : X → X → Bool) (last : X) (xs : List X) → P last → AllByRecursion P xs → AllByRecursion P (dedup_from same last xs)
  all_once_from same last [] first all = (first, tt)
  all_once_from same last (x ∷ xs) first all = by (same x last) (all_once_from same last xs first all.1) (all_once_from same x xs all.0 all.1)
    where
      by : (b : Bool) → AllByRecursion P (dedup_from same last xs) → AllByRecursion P (dedup_from same x xs) → AllByRecursion P (cond b (dedup_from same last xs) (last ∷ dedup_from same x xs))
      by true rest other = rest
      by false rest other = (first, other)

  all_once : (same : X → X → Bool) (xs : List X) → AllByRecursion P xs → AllByRecursion P (dedup same xs)
  all_once same [] all = tt
  all_once same (x ∷ xs) all = all_once_from same x xs all.0 all.1

all_turned : {X : Type 0} (P Q : X → Type 0) → ((x : X) → P x → Q x) → (xs : List X) → AllByRecursion P xs → AllByRecursion Q xs
all_turned P Q turn [] all = tt
all_turned P Q turn (x ∷ xs) all = (turn x all.0, all_turned P Q turn xs all.1)

-- ---- the postings that a search goes through

-- a posting of the spill always counts, and a stored one if its term is scanned
abbrev weight_in : ListKind → Bool → ℕ
weight_in Stored scanned = if scanned then 1 else 0
weight_in Spill scanned = 1

module _ (kind : ColumnType) (op : Op) (word : Bytes) where
  abbrev scans : Bytes → Bool
  scans term = is_asked kind op word term || not (is_run op)

  abbrev weight : Posting → ℕ
  weight posting = weight_in posting.list (scans posting.term)

  -- ---- term by term

  no_pairs : (asked run : Bool) → 0 ≡ pairs_if asked run 0
  no_pairs true run = refl
  no_pairs false true = refl
  no_pairs false false = refl

  one_more : (asked run : Bool) (n pairs : ℕ) → n ≡ pairs_if asked run pairs → (if asked || not run then 1 else 0) + n ≡ pairs_if asked run (suc pairs)
  one_more true run n pairs e = omega (arith, e)
  one_more false true n pairs e = omega (arith, e)
  one_more false false n pairs e = omega (arith, e)

  term_sum : (term : Bytes) (pairs : List Pair) → sum_by weight (map (posting_of term Stored) pairs) ≡ pairs_if (is_asked kind op word term) (is_run op) (length pairs)
  term_sum term [] = no_pairs (is_asked kind op word term) (is_run op)
  term_sum term (pair ∷ pairs) =
      sum_by-cons weight (posting_of term Stored pair) (map (posting_of term Stored) pairs)
      ∙ one_more (is_asked kind op word term) (is_run op) (sum_by weight (map (posting_of term Stored) pairs)) (length pairs) (term_sum term pairs)

  abbrev pairs_of : TermPairs → ℕ
  pairs_of one = pairs_if (is_asked kind op word one.0) (is_run op) (length one.1)

  each_term : (terms : List TermPairs) → AllByRecursion (λ (one : TermPairs). sum_by weight (term_postings one) ≡ pairs_of one) terms
  each_term [] = tt
  each_term (one ∷ terms) = (term_sum one.0 one.1, each_term terms)

  spill_sum : (pairs : List Pair) → sum_by weight (spill_postings pairs) ≡ length pairs
  spill_sum [] = refl
  spill_sum (pair ∷ pairs) = omega (arith, sum_by-cons weight (posting_of [] Spill pair) (spill_postings pairs), spill_sum pairs)

  lists_sum : (terms : List TermPairs) (spill : List Pair) → sum_by weight (file.postings_of terms spill) ≡ sum_by pairs_of terms + length spill
  lists_sum terms spill =
      sum_by-append weight (flat_map term_postings terms) (spill_postings spill)
      ∙ ap₂ (λ a b. a + b) (flat_sum weight term_postings terms ∙ same_sum (λ (one : TermPairs). sum_by weight (term_postings one)) pairs_of terms (each_term terms)) (spill_sum spill)

  -- ---- partition by partition

  stored_sum : (pair : Pair) (terms : List Bytes) → sum_by weight (map (λ term. posting_of term Stored pair) terms) ≡ length (filter scans terms)
  stored_sum pair [] = refl
  stored_sum pair (term ∷ terms) = sum_by-cons weight (posting_of term Stored pair) (map (λ t. posting_of t Stored pair) terms) ∙ by (scans term) (stored_sum pair terms)
    where
      by : (b : Bool) → sum_by weight (map (λ t. posting_of t Stored pair) terms) ≡ length (filter scans terms)
          → (if b then 1 else 0) + sum_by weight (map (λ t. posting_of t Stored pair) terms) ≡ length (cond b (term ∷ filter scans terms) (filter scans terms))
      by true e = omega (arith, e)
      by false e = omega (arith, e)

  spilled_sum : (spills : Bool) (pair : Pair) → sum_by weight (if spills then posting_of [] Spill pair ∷ [] else []) ≡ (if spills then 1 else 0)
  spilled_sum true pair = omega (arith, sum_by-cons weight (posting_of [] Spill pair) [])
  spilled_sum false pair = refl

  partition_sum : (kept : Bytes → Bool) (pair : Pair) (terms : List Bytes) → sum_by weight (postings_of kept pair terms) ≡ length (filter scans (distinct (filter kept terms))) + (if list_any (λ term. not (kept term)) terms then 1 else 0)
  partition_sum kept pair terms =
      sum_by-append weight (stored_postings kept pair terms) (of_terms.spill_postings kept pair terms)
      ∙ ap₂ (λ a b. a + b) (stored_sum pair (distinct (filter kept terms))) (spilled_sum (list_any (λ term. not (kept term)) terms) pair)

  -- in the file that was written of the items' postings
  items_sum : {A : Type 0} (mode : Mode) (postings : A → List Posting) (items : List A) (bytes : Bytes) (is : IsIndexOf mode kind (in_order (flat_map postings items)) bytes)
      → pairs_read is.content op word + length is.content.spill ≡ sum_by (λ a. sum_by weight (postings a)) items
  items_sum mode postings items bytes is =
      ap (λ (k : ColumnType). sum_by (λ (one : TermPairs). pairs_if (is_asked k op word one.0) (is_run op) (length one.1)) is.content.terms + length is.content.spill) is.kind_is
      ∙ sym (lists_sum is.content.terms is.content.spill)
      ∙ ap (sum_by weight) is.postings_are
      ∙ sorted_sum posting_cmp weight (flat_map postings items)
      ∙ flat_sum weight postings items

-- ---- by the map

module _ (p : Partitioner) (d : Definition) (index : Index) (m : Partitions) (kept : Bytes → Bool) (as_stored : (term : Bytes) → kept term ≡ is_stored index m term) (regular : 1 ≤ index.column) (op : Op) (can : CanAsk (kind_of d index.column) op) (word : Bytes) where
  abbrev own_kind : ColumnType
  own_kind = kind_of d index.column

  key_pairs_sum : (q : DecoratedKey) → AllByRecursion (AsHeld own_kind op word) (terms_at index.rule index.column m q)
      → length (filter (scans own_kind op word) (distinct (filter kept (terms_at index.rule index.column m q)))) + (if list_any (λ term. not (kept term)) (terms_at index.rule index.column m q) then 1 else 0) ≡ pairs_at index op word m q
  key_pairs_sum q all =
      let of_key = terms_at index.rule index.column m q in
      let stored = filter (is_stored index m) of_key in
      let held : AllByRecursion (λ (term : Bytes). scans own_kind op word term ≡ is_scanned op word term) stored =
      all_turned (AsHeld own_kind op word) (λ term. scans own_kind op word term ≡ is_scanned op word term) (λ term e. ap (λ b. b || not (is_run op)) e) stored
      (all_filtered (AsHeld own_kind op word) (is_stored index m) of_key all) in
      ap (λ (those : Bytes → Bool). length (filter (scans own_kind op word) (distinct (filter those of_key))) + (if list_any (λ term. not (those term)) of_key then 1 else 0)) (λ i term. as_stored term i)
      ∙ ap (λ n. n + (if spilled index m q then 1 else 0))
      (same_length (scans own_kind op word) (is_scanned op word) (distinct stored)
      (all_once (λ term. scans own_kind op word term ≡ is_scanned op word term) term_eq (sort term_cmp stored) (all_sorted (λ term. scans own_kind op word term ≡ is_scanned op word term) term_cmp stored held)))

  -- the postings of a partition count as the map says of its key
  abbrev IsCounted : Bytes × Partition → Type 0
  IsCounted one = (pair : Pair) → sum_by (weight own_kind op word) (postings_at kept index.column index.rule pair one.1) ≡ pairs_at index op word m (decorated_key p one)

  one_counted : (one : Bytes × Partition) → IsBodyOf (types_of d) one.0 one.1 → HasIn p m one → IsCounted one
  one_counted one body there pair =
      let q = decorated_key p one in
      let cell = map_.get one.1.cells index.column in
      let same : terms_of_cell index.rule cell ≡ terms_at index.rule index.column m q = sym (ap (λ (o : Option Partition). terms_of_cell index.rule (option_and_then (λ (part : Partition). map_.get part.cells index.column) o)) there) in
      partition_sum own_kind op word kept pair (terms_of_cell index.rule cell)
      ∙ ap (λ (terms : List Bytes). length (filter (scans own_kind op word) (distinct (filter kept terms))) + (if list_any (λ term. not (kept term)) terms then 1 else 0)) same
      ∙ key_pairs_sum q
      (subst (λ (terms : List Bytes). AllByRecursion (AsHeld own_kind op word) terms) same
      (cell_asked own_kind op word index.rule cell can (of_kind p d index m kept as_stored regular op can word (λ _. true) one.0 one.1 body)))

  all_counted : (content : Content) → AllByRecursion (λ one. IsBodyOf (types_of d) one.0 one.1) content → AllByRecursion (HasIn p m) content → AllByRecursion IsCounted content
  all_counted [] bodies there = tt
  all_counted (one ∷ content) bodies there = (one_counted one bodies.0 there.0, all_counted content bodies.1 there.1)

  on_entries : (at : ℕ) (content : Content) → AllByRecursion IsCounted content
      → sum_by (λ (one : Pair × Partition). sum_by (weight own_kind op word) (postings_at kept index.column index.rule one.0 one.1)) (zip (pairs_from p at content) (map (λ one. one.1) content))
      ≡ sum_by (λ (e : DecoratedKey × Partition). pairs_at index op word m e.0) (entries_of p content)
  on_entries at [] all = refl
  on_entries at (one ∷ content) all =
      let pair : Pair = record { token = (decorated_key p one).token; place = at } in
      let next = at + length (partition_bytes one.0 one.1) in
      sum_by-cons (λ (o : Pair × Partition). sum_by (weight own_kind op word) (postings_at kept index.column index.rule o.0 o.1)) (pair, one.1) (zip (pairs_from p next content) (map (λ o. o.1) content))
      ∙ ap₂ (λ a b. a + b) (all.0 pair) (on_entries next content all.1)
      ∙ sym (sum_by-cons (λ (e : DecoratedKey × Partition). pairs_at index op word m e.0) (decorated p one.0, one.1) (entries_of p content))

-- ---- the file

module _ (p : Partitioner) (d : Definition) (index : Index) (bytes index_bytes : Bytes) (content : Content) (file : IsDataFile p (types_of d) bytes content) (stands : StandsForIndex p d index content index_bytes) (regular : 1 ≤ index.column) where
  abbrev kept : Bytes → Bool
  kept = is_kept index.mode index.column index.rule content

  as_stored : (term : Bytes) → kept term ≡ is_stored index (map_of p content) term
  as_stored term = kept_stored p index content file.content_is.rising term

  -- **The pairs that a search of a word goes through, with the spill, are those that the map tells.**
  pub file_pairs : (op : Op) → CanAsk (kind_of d index.column) op → (word : Bytes)
      → pairs_read stands.content op word + length stands.content.spill ≡ sum_by (λ (e : DecoratedKey × Partition). pairs_at index op word (map_of p content) e.0) (map_.entries (map_of p content))
  file_pairs op can word =
      let m = map_of p content in
      items_sum (kind_of d index.column) op word index.mode (λ (one : Pair × Partition). postings_at kept index.column index.rule one.0 one.1) (paired p content) index_bytes stands
      ∙ on_entries p d index m kept as_stored regular op can word (length header) content
      (all_counted p d index m kept as_stored regular op can word content file.typed (all_in p (entries_of p content) content (entries_found p content file.content_is.rising)))
      ∙ sym (ap (sum_by (λ (e : DecoratedKey × Partition). pairs_at index op word m e.0))
      (content_entries p content file.content_is.rising))

  -- **So the cost of a word, by the map, is 32 and 4 for each of these pairs.**
  pub word_cost : (op : Op) → CanAsk (kind_of d index.column) op → (word : Bytes) → search_cost index op (map_of p content) word ≡ 32 + 4 * (pairs_read stands.content op word + length stands.content.spill)
  word_cost op can word = ap (λ n. 32 + 4 * n) (sym (file_pairs op can word))
