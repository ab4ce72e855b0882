-- The content of an index file as its postings come in, one after another.
use Rattle.std.specs.Prelude.{◌≡◌, ◌≤◌, false, if◌then◌else◌, List, [], ◌∷◌, ◌++◌, length}
use Rattle.std.specs.List.{fold, AllByRecursion}
use Rattle.std.specs.List.Sorted.{IsStrictlySortedBy}
use Rattle.std.specs.Ordering.{is_gt}
use Rattle.sasi_types.specs.Term.{term_eq}
use Rattle.sasi_types.specs.declared.list_kind.ListKind.{ListKind}
use Rattle.sasi_types.specs.declared.list_kind.ListKind.TheVariants.{Stored, Spill}
use Rattle.sasi_types.specs.declared.tree.Pair.{Pair}
use Rattle.sasi_host.specs.Names.{Bytes}
use Rattle.sasi_tokentree.specs.Format.{IsRising}
use Rattle.sasi_segments.specs.declared.posting.Posting.{Posting}
use Rattle.sasi_segments.specs.Postings.{posting_cmp}
use Rattle.sasi_indexwrite.specs.Content.{TermPairs}

-- ---- what is asked of the postings

-- the term can be stored, and a posting of the spill has none
pub record IsPosting (posting : Posting) : Type 0 where
  pub short : length posting.term ≤ 1024
  pub spill : posting.list ≡ Spill → posting.term ≡ []

-- the postings are in their order, and none is there twice
pub record AreSortedPostings (postings : List Posting) : Type 0 where
  pub rising : IsStrictlySortedBy posting_cmp postings
  pub each : AllByRecursion IsPosting postings

-- and none is above this last one
pub record AreUpTo (postings : List Posting) (last : Posting) : Type 0 where
  pub valid : AreSortedPostings postings
  pub up_to : AllByRecursion (λ q. is_gt (posting_cmp q last) ≡ false) postings

-- ---- what was made of the first of them

-- the terms that are complete, the last one with its pairs so far, and the pairs of the spill
pub record TermsSoFar : Type 0 where
  pub closed : List TermPairs
  pub term : Bytes
  pub pairs : List Pair
  pub spill : List Pair

-- a term with its pairs, if there are any
abbrev pub with_pairs : Bytes → List Pair → List TermPairs
with_pairs term [] = []
with_pairs term (pair ∷ others) = (term, pair ∷ others) ∷ []

-- the complete terms, and the pairs of the next posting's term, as that comes in
abbrev pub closed_for : List TermPairs → Bytes → List Pair → Bytes → List TermPairs
closed_for closed term pairs next = if term_eq term next then closed else (closed ++ with_pairs term pairs)

abbrev pub kept_for : Bytes → List Pair → Bytes → List Pair
kept_for term pairs next = if term_eq term next then pairs else []

abbrev pub with_pair : Bytes → List Pair → Bytes → Pair → List Pair
with_pair term pairs next pair = kept_for term pairs next ++ pair ∷ []

-- one posting more
abbrev pub add_as : ListKind → TermsSoFar → Bytes → Pair → TermsSoFar
add_as Stored all term pair = record { closed = closed_for all.closed all.term all.pairs term; term = term; pairs = with_pair all.term all.pairs term pair; spill = all.spill }
add_as Spill all term pair = record { closed = all.closed; term = all.term; pairs = all.pairs; spill = all.spill ++ pair ∷ [] }

abbrev pub add : TermsSoFar → Posting → TermsSoFar
add all posting = add_as posting.list all posting.term posting.pair

abbrev pub nothing : TermsSoFar
nothing = record { closed = []; term = []; pairs = []; spill = [] }

abbrev pub gathered : List Posting → TermsSoFar
gathered postings = fold add nothing postings

-- all terms so far
abbrev pub all_terms : TermsSoFar → List TermPairs
all_terms all = all.closed ++ with_pairs all.term all.pairs

-- its term is short, and the pairs of that term rise with its own
abbrev pub CanFollowAs : ListKind → Bytes → List Pair → Bytes → Pair → Type 0
CanFollowAs Stored term pairs next pair = (length next ≤ 1024) × IsRising (with_pair term pairs next pair)
CanFollowAs Spill term pairs next pair = Unit {0}

abbrev pub CanFollow : Bytes → List Pair → Posting → Type 0
CanFollow term pairs posting = CanFollowAs posting.list term pairs posting.term posting.pair
