-- What a search of an index file gives, by the postings that the file was written of.
use Rattle.std.proofs.Common.{◌≡◌, Bool, true, false, cond, ◌&&◌, ◌||◌, not, if◌then◌else◌, List, [], ◌∷◌, map, refl, sym, ap, ◌∙◌}
use Rattle.std.proofs.lemmas.List.Folds.{list_any-append}
use Rattle.std.specs.List.{filter, flat_map, list_any}
use Rattle.sasi_types.specs.declared.column.ColumnType.{ColumnType}
use Rattle.sasi_types.specs.declared.list_kind.ListKind.{ListKind}
use Rattle.sasi_types.specs.declared.list_kind.ListKind.TheVariants.{Stored, Spill}
use Rattle.sasi_types.specs.declared.mode.Mode.{Mode}
use Rattle.sasi_types.specs.declared.tree.Pair.{Pair}
use Rattle.sasi_host.specs.Names.{Bytes}
use Rattle.sasi_terms.specs.declared.op.Op.{Op}
use Rattle.sasi_segments.specs.declared.posting.Posting.{Posting}
use Rattle.sasi_segments.specs.Postings.{in_order, posting_cmp, posting_of}
use Rattle.sasi_indexwrite.specs.Content.{TermPairs, spill_postings, term_postings}
use Rattle.sasi_indexwrite.specs.Content as file
use Rattle.sasi_indexwrite.specs.Files.{IsIndexOf}
use Rattle.sasi_indexread.specs.Asked.{asked_lists, is_asked}
use Rattle.sasi_postings.specs.Postings.{distinct, postings_of, stored_postings}
use Rattle.sasi_postings.specs.Postings as of_terms
use Rattle.sasi_candidates.specs.Searches.{any_pair}
use Rattle.sasi_postings.proofs.Counts.{distinct_any}
use Rattle.sasi_postings.proofs.ListTests.{flat_any, sorted_any}

-- a posting of the spill is always asked for, and a stored one by its term
abbrev pub found_in : ListKind → Bool → Bool → Bool
found_in Stored asked passes = asked && passes
found_in Spill asked passes = passes

module _ (kind : ColumnType) (op : Op) (word : Bytes) (test : Pair → Bool) where
  -- the posting is asked for, and its pair passes the test
  abbrev pub found : Posting → Bool
  found p = found_in p.list (is_asked kind op word p.term) (test p.pair)

  abbrev asked : TermPairs → Bool
  asked one = is_asked kind op word one.0

  abbrev lists : List TermPairs → List (List Pair)
  lists terms = map (λ (one : TermPairs). one.1) (filter asked terms)

  -- ---- the postings of a file, term by term

  spill_found : (pairs : List Pair) → list_any found (spill_postings pairs) ≡ list_any test pairs
  spill_found [] = refl
  spill_found (pair ∷ pairs) = ap (λ b. test pair || b) (spill_found pairs)

  both : (a x y : Bool) → ((a && x) || (a && y)) ≡ (a && (x || y))
  both true x y = refl
  both false x y = refl

  never : (a : Bool) → false ≡ (a && false)
  never true = refl
  never false = refl

  term_found : (term : Bytes) (pairs : List Pair) → list_any found (map (posting_of term Stored) pairs) ≡ (is_asked kind op word term && list_any test pairs)
  term_found term [] = never (is_asked kind op word term)
  term_found term (pair ∷ pairs) = ap (λ b. (is_asked kind op word term && test pair) || b) (term_found term pairs) ∙ both (is_asked kind op word term) (test pair) (list_any test pairs)

  terms_found : (terms : List TermPairs) → list_any found (flat_map term_postings terms) ≡ any_pair test (lists terms)
  terms_found [] = refl
  terms_found (one ∷ terms) =
      list_any-append found (term_postings one) (flat_map term_postings terms)
      ∙ ap (λ b. b || list_any found (flat_map term_postings terms)) (term_found one.0 one.1)
      ∙ ap (λ b. (asked one && list_any test one.1) || b) (terms_found terms)
      ∙ by (asked one)
    where
      by : (a : Bool) → ((a && list_any test one.1) || any_pair test (lists terms)) ≡ any_pair test (map (λ (one : TermPairs). one.1) (cond a (one ∷ filter asked terms) (filter asked terms)))
      by true = refl
      by false = refl

  swap : (a b : Bool) → (a || b) ≡ (b || a)
  swap true true = refl
  swap true false = refl
  swap false true = refl
  swap false false = refl

  -- the lists that are asked for
  lists_found : (terms : List TermPairs) (spill : List Pair) → any_pair test (spill ∷ lists terms) ≡ list_any found (file.postings_of terms spill)
  lists_found terms spill = sym (
      list_any-append found (flat_map term_postings terms) (spill_postings spill)
      ∙ ap (λ b. b || list_any found (spill_postings spill)) (terms_found terms)
      ∙ ap (λ b. any_pair test (lists terms) || b) (spill_found spill)
      ∙ swap (any_pair test (lists terms)) (list_any test spill))

  -- ---- the postings of a partition

  shared : (x p y : Bool) → ((x && p) || (p && y)) ≡ (p && (x || y))
  shared true true y = refl
  shared true false y = refl
  shared false true y = refl
  shared false false y = refl

  stored_found : (pair : Pair) (terms : List Bytes) → list_any found (map (λ term. posting_of term Stored pair) terms) ≡ (test pair && list_any (is_asked kind op word) terms)
  stored_found pair [] = never (test pair)
  stored_found pair (term ∷ terms) = ap (λ b. (is_asked kind op word term && test pair) || b) (stored_found pair terms) ∙ shared (is_asked kind op word term) (test pair) (list_any (is_asked kind op word) terms)

  spilled_found : (b : Bool) (pair : Pair) → list_any found (if b then posting_of [] Spill pair ∷ [] else []) ≡ (test pair && b)
  spilled_found true pair = by (test pair)
    where
      by : (p : Bool) → (p || false) ≡ (p && true)
      by true = refl
      by false = refl
  spilled_found false pair = never (test pair)

  joined : (p a l : Bool) → ((p && a) || (p && l)) ≡ (p && (l || a))
  joined true a l = swap a l
  joined false a l = refl

  -- **A partition is found where a term isn't kept, or one that is kept is asked for.**
  pub partition_found : (kept : Bytes → Bool) (pair : Pair) (terms : List Bytes)
      → list_any found (postings_of kept pair terms) ≡ (test pair && (list_any (λ term. not (kept term)) terms || list_any (is_asked kind op word) (filter kept terms)))
  partition_found kept pair terms =
      let any_other = list_any (λ term. not (kept term)) terms in
      let any_asked = list_any (is_asked kind op word) (filter kept terms) in
      list_any-append found (stored_postings kept pair terms) (of_terms.spill_postings kept pair terms)
      ∙ ap (λ b. b || list_any found (of_terms.spill_postings kept pair terms)) (stored_found pair (distinct (filter kept terms)) ∙ ap (λ b. test pair && b) (distinct_any (is_asked kind op word) (filter kept terms)))
      ∙ ap (λ b. (test pair && any_asked) || b) (spilled_found any_other pair)
      ∙ joined (test pair) any_asked any_other

  -- ---- the file

  -- **A search gives a pair exactly where an item's posting that is asked for has it**, in the file that was written of the items' postings.
  pub items_found : {A : Type 0} (mode : Mode) (postings : A → List Posting) (items : List A) (bytes : Bytes) (is : IsIndexOf mode kind (in_order (flat_map postings items)) bytes)
      → any_pair test (asked_lists is.content op word) ≡ list_any (λ a. list_any found (postings a)) items
  items_found mode postings items bytes is =
      ap (λ (k : ColumnType). any_pair test (is.content.spill ∷ map (λ (one : TermPairs). one.1) (filter (λ (one : TermPairs). is_asked k op word one.0) is.content.terms))) is.kind_is
      ∙ lists_found is.content.terms is.content.spill
      ∙ ap (list_any found) is.postings_are
      ∙ sorted_any posting_cmp found (flat_map postings items)
      ∙ flat_any found postings items
