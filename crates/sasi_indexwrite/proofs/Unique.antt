-- A content has one spelling, and postings have one content.
use Rattle.std.proofs.Common.{◌≡◌, ℕ, zero, suc, ◌+◌, Bool, true, false, List, [], ◌∷◌, ◌++◌, length, get_or, refl, sym, ◌∙◌, ap, subst, arith, append_assoc, append-nil, rules}
use Rattle.std.specs.Prelude.{map, if◌then◌else◌}
use Rattle.std.specs.List.{AllByRecursion, flat_map, fold}
use Rattle.std.specs.Ordering.{is_lt}
use Rattle.std.specs.declared.cmp.Ordering.TheVariants.{Equal}
use Rattle.std.specs.Cmp.Lexicographic.{nat_list_cmp_total, same_text}
use Rattle.std.proofs.lemmas.Cmp.{tied_itself}
use Rattle.std.proofs.lemmas.List.Sums.{fold-append}
use Rattle.sasi_types.specs.Term.{term_cmp, term_eq}
use Rattle.sasi_types.specs.declared.list_kind.ListKind.TheVariants.{Stored}
use Rattle.sasi_types.specs.declared.tree.Pair.{Pair}
use Rattle.sasi_host.specs.Names.{Bytes}
use Rattle.sasi_segments.specs.declared.posting.Posting.{Posting}
use Rattle.sasi_segments.specs.Postings.{posting_of}
use Rattle.sasi_termblocks.specs.declared.block_ref.BlockRef.{BlockRef}
use Rattle.sasi_termblocks.specs.declared.term_entry.TermEntry.{TermEntry}
use Rattle.sasi_termblocks.specs.Blocks.{EndsAfter, IsRefOf, Item, above, blocks, items_of, next_at, top_pointer}
use Rattle.sasi_termblocks.specs.Entries.{is_below}
use Rattle.sasi_termblocks.specs.Scans.{IsRising as AreRisingTerms}
use Rattle.sasi_indexwrite.specs.Content.{IndexContent, IsContent, IsTerm, TermPairs, postings_of, spill_postings, term_postings, terms_in}
use Rattle.sasi_indexwrite.specs.Files.{IsIndexFile}
use Rattle.sasi_indexwrite.specs.Format.{blocks_at, entries, index_bytes}
use Rattle.sasi_indexwrite.specs.TermsSoFar.{TermsSoFar, add, all_terms, gathered, nothing, with_pairs}

-- ---- the reference of the blocks

ends_once : (n m at : ℕ) (items : List Item) → EndsAfter n at items → EndsAfter m at items → n ≡ m
unfolding EndsAfter
ends_once zero zero at items first second = refl
ends_once zero (suc m) at items first second = absurd (omega (arith, first, second.0))
ends_once (suc n) zero at items first second = absurd (omega (arith, first.0, second))
ends_once (suc n) (suc m) at items first second = ap (λ (k : ℕ). suc k) (ends_once n m (next_at at items) (above at items) first.1 second.1)

made : ℕ → ℕ → ℕ → ℕ → ℕ → BlockRef
made first count levels top terms = record { first = first; blocks = count; levels = levels; top = top; terms = terms }

ref_is : (at : ℕ) (all : List TermEntry) (r : BlockRef) → IsRefOf at all r → r ≡ made at (length (blocks (items_of all))) r.levels (top_pointer r.levels at (items_of all)) (length all)
unfolding made
ref_is at all r is =
    ap (λ (n : ℕ). made n r.blocks r.levels r.top r.terms) is.first ∙ ap (λ (n : ℕ). made at n r.levels r.top r.terms) is.blocks_are
    ∙ ap (λ (n : ℕ). made at (length (blocks (items_of all))) r.levels n r.terms) is.top_is
    ∙ ap (λ (n : ℕ). made at (length (blocks (items_of all))) r.levels (top_pointer r.levels at (items_of all)) n) is.terms_are

one_ref : (at : ℕ) (all : List TermEntry) (r s : BlockRef) → IsRefOf at all r → IsRefOf at all s → r ≡ s
one_ref at all r s first second =
    let levels : r.levels ≡ s.levels = ends_once r.levels s.levels at (items_of all) first.levels_are second.levels_are in
    ref_is at all r first ∙ ap (λ (n : ℕ). made at (length (blocks (items_of all))) n (top_pointer n at (items_of all)) (length all)) levels ∙ sym (ref_is at all s second)

-- a content has one spelling
pub one_spelling : (a b : Bytes) (content : IndexContent) → IsIndexFile a content → IsIndexFile b content → a ≡ b
one_spelling a b content first second =
    first.is ∙ ap (λ (r : BlockRef). index_bytes content r) (one_ref (blocks_at content) (entries content) first.blocks second.blocks first.referred second.referred) ∙ sym second.is

-- ---- the content of postings

abbrev so_far : List TermPairs → Bytes → List Pair → List Pair → TermsSoFar
so_far closed term pairs spill = record { closed = closed; term = term; pairs = pairs; spill = spill }

-- the pairs of a term are gathered behind others of it
same_term : (closed : List TermPairs) (term : Bytes) (pairs more spill : List Pair) → fold add (so_far closed term pairs spill) (map (posting_of term Stored) more) ≡ so_far closed term (pairs ++ more) spill
same_term closed term pairs [] spill = ap (λ (l : List Pair). so_far closed term l spill) (sym (append-nil pairs))
same_term closed term pairs (pair ∷ more) spill =
    ap (λ (s : TermsSoFar). fold add s (map (posting_of term Stored) more)) (by_test (term_eq term term) (itself term)) ∙ same_term closed term (pairs ++ pair ∷ []) more spill
    ∙ ap (λ (l : List Pair). so_far closed term l spill) (append_assoc pairs (pair ∷ []) more)
  where
    itself : (t : Bytes) → term_eq t t ≡ true
    itself [] = refl
    itself (b ∷ t) = search (rules, itself t)

    by_test : (b : Bool) → b ≡ true → so_far (if b then closed else (closed ++ with_pairs term pairs)) term ((if b then pairs else []) ++ pair ∷ []) spill ≡ so_far closed term (pairs ++ pair ∷ []) spill
    by_test true is = refl
    by_test false is = absurd cc

abbrev state : List TermPairs → Bytes → List Pair → TermsSoFar
state closed term pairs = so_far closed term pairs []

-- another term closes the last one
other_term : (closed : List TermPairs) (term : Bytes) (pairs : List Pair) (next : Bytes) (pair : Pair) (more : List Pair) → term_eq term next ≡ false
    → fold add (state closed term pairs) (map (posting_of next Stored) (pair ∷ more)) ≡ state (closed ++ with_pairs term pairs) next (pair ∷ more)
other_term closed term pairs next pair more differ =
    ap (λ (s : TermsSoFar). fold add s (map (posting_of next Stored) more)) (by_test (term_eq term next) differ) ∙ same_term (closed ++ with_pairs term pairs) next (pair ∷ []) more []
  where
    by_test : (b : Bool) → b ≡ false → so_far (if b then closed else (closed ++ with_pairs term pairs)) next ((if b then pairs else []) ++ pair ∷ []) [] ≡ state (closed ++ with_pairs term pairs) next (pair ∷ [])
    by_test true is = absurd cc
    by_test false is = refl

differs : (a b : Bytes) → is_below a b ≡ true → term_eq a b ≡ false
differs a b below = by_test (term_eq a b) refl
  where
    by_test : (t : Bool) → term_eq a b ≡ t → t ≡ false
    by_test true is =
        let same : a ≡ b = same_text a b (sym is) in
        let equal : term_cmp a b ≡ Equal = ap (λ (t : Bytes). term_cmp a t) (sym same) ∙ tied_itself nat_list_cmp_total a in
        absurd (let no : is_lt Equal ≡ true = sym (ap is_lt equal) ∙ below in cc)
    by_test false is = refl

pub rising_tail : (term : Bytes) (terms : List Bytes) → AreRisingTerms (term ∷ terms) → AreRisingTerms terms
rising_tail term terms rising index lt =
    let e : suc index + 1 ≡ suc (index + 1) = omega arith in
    subst (λ (n : ℕ). is_below (get_or terms index []) (get_or (term ∷ terms) n []) ≡ true) e (rising (suc index) (omega (arith, lt)))

-- the terms are gathered one after another
terms_back : (closed : List TermPairs) (term : Bytes) (pairs : List Pair) (terms : List TermPairs) → AllByRecursion IsTerm terms → AreRisingTerms (term ∷ terms_in terms)
    → (last : TermsSoFar) × (fold add (state closed term pairs) (flat_map term_postings terms) ≡ last) × (all_terms last ≡ (closed ++ with_pairs term pairs) ++ terms) × (last.spill ≡ [])
terms_back closed term pairs [] each rising = (state closed term pairs, refl, sym (append-nil (closed ++ with_pairs term pairs)), refl)
terms_back closed term pairs ((next, []) ∷ others) each rising = absurd (omega (arith, each.0.some))
terms_back closed term pairs ((next, pair ∷ more) ∷ others) each rising =
    let begun = closed ++ with_pairs term pairs in
    let first : fold add (state closed term pairs) (map (posting_of next Stored) (pair ∷ more)) ≡ state begun next (pair ∷ more) =
    other_term closed term pairs next pair more (differs term next (rising 0 (omega arith)))
    in
    let rest = terms_back begun next (pair ∷ more) others each.1 (rising_tail term (next ∷ terms_in others) rising) in (
      rest.0,
      fold-append add (state closed term pairs) (map (posting_of next Stored) (pair ∷ more)) (flat_map term_postings others) ∙ ap (λ (s : TermsSoFar). fold add s (flat_map term_postings others)) first ∙ rest.1,
      rest.2 ∙ append_assoc begun ((next, pair ∷ more) ∷ []) others,
      rest.3,
    )

-- from nothing on
first_term : (next : Bytes) (pair : Pair) (more : List Pair) → fold add nothing (map (posting_of next Stored) (pair ∷ more)) ≡ state [] next (pair ∷ more)
first_term next pair more = ap (λ (s : TermsSoFar). fold add s (map (posting_of next Stored) more)) (by_test (term_eq [] next)) ∙ same_term [] next (pair ∷ []) more []
  where
    by_test : (b : Bool) → so_far (if b then [] else ([] ++ with_pairs [] [])) next ((if b then [] else []) ++ pair ∷ []) [] ≡ state [] next (pair ∷ [])
    by_test true = refl
    by_test false = refl

all_back : (terms : List TermPairs) → AllByRecursion IsTerm terms → AreRisingTerms (terms_in terms) → (last : TermsSoFar) × (fold add nothing (flat_map term_postings terms) ≡ last) × (all_terms last ≡ terms) × (last.spill ≡ [])
all_back [] each rising = (nothing, refl, refl, refl)
all_back ((next, []) ∷ others) each rising = absurd (omega (arith, each.0.some))
all_back ((next, pair ∷ more) ∷ others) each rising =
    let rest = terms_back [] next (pair ∷ more) others each.1 rising in (
      rest.0,
      fold-append add nothing (map (posting_of next Stored) (pair ∷ more)) (flat_map term_postings others) ∙ ap (λ (s : TermsSoFar). fold add s (flat_map term_postings others)) (first_term next pair more) ∙ rest.1,
      rest.2,
      rest.3,
    )

-- and then the spill
spill_back : (all : TermsSoFar) (spill : List Pair) → fold add all (spill_postings spill) ≡ so_far all.closed all.term all.pairs (all.spill ++ spill)
spill_back all [] = ap (λ (l : List Pair). so_far all.closed all.term all.pairs l) (sym (append-nil all.spill))
spill_back all (pair ∷ spill) =
    spill_back (so_far all.closed all.term all.pairs (all.spill ++ pair ∷ [])) spill
    ∙ ap (λ (l : List Pair). so_far all.closed all.term all.pairs l) (append_assoc all.spill (pair ∷ []) spill)

-- a content is what is gathered of its postings
content_back : (content : IndexContent) → IsContent content → (all_terms (gathered (postings_of content.terms content.spill)) ≡ content.terms) × ((gathered (postings_of content.terms content.spill)).spill ≡ content.spill)
content_back content is =
    let terms = all_back content.terms is.each is.rising in
    let whole : gathered (postings_of content.terms content.spill) ≡ so_far terms.0.closed terms.0.term terms.0.pairs (terms.0.spill ++ content.spill) =
    fold-append add nothing (flat_map term_postings content.terms) (spill_postings content.spill) ∙ ap (λ (s : TermsSoFar). fold add s (spill_postings content.spill)) terms.1 ∙ spill_back terms.0 content.spill
    in
    (ap (λ (s : TermsSoFar). all_terms s) whole ∙ terms.2, ap (λ (s : TermsSoFar). s.spill) whole ∙ ap (λ (l : List Pair). l ++ content.spill) terms.3)

-- postings are those of one content
pub one_content : (a b : IndexContent) → IsContent a → IsContent b → postings_of a.terms a.spill ≡ postings_of b.terms b.spill → (a.terms ≡ b.terms) × (a.spill ≡ b.spill)
one_content a b first second same =
    let one = content_back a first in
    let two = content_back b second in (
      sym one.0 ∙ ap (λ (l : List Posting). all_terms (gathered l)) same ∙ two.0,
      sym one.1 ∙ ap (λ (l : List Posting). (gathered l).spill) same ∙ two.1,
    )
