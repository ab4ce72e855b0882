-- What an index file holds.
use Rattle.std.specs.Prelude.{◌≡◌, ◌≢◌, ◌≤◌, List, [], ◌++◌, length, map}
use Rattle.std.specs.List.{flat_map, AllByRecursion}
use Rattle.sasi_types.specs.declared.column.ColumnType.{ColumnType}
use Rattle.sasi_types.specs.declared.column.ColumnType.TheVariants.{Uuid}
use Rattle.sasi_types.specs.declared.list_kind.ListKind.TheVariants.{Stored, Spill}
use Rattle.sasi_types.specs.declared.mode.Mode.{Mode}
use Rattle.sasi_types.specs.declared.mode.Mode.TheVariants.{Sparse}
use Rattle.sasi_types.specs.declared.tree.Pair.{Pair}
use Rattle.sasi_host.specs.Names.{Bytes}
use Rattle.sasi_segments.specs.declared.posting.Posting.{Posting}
use Rattle.sasi_segments.specs.Postings.{posting_of}
use Rattle.sasi_tokentree.specs.Format.{AreFit, IsRising}
use Rattle.sasi_termblocks.specs.Scans.{IsRising as AreRisingTerms}

-- a term, and the pairs of the partitions that have it
abbrev pub TermPairs : Type 0
TermPairs = Bytes × List Pair

-- the mode of an index and the type of its column, its terms with their pairs, and the pairs whose terms aren't stored
pub record IndexContent : Type 0 where
  pub mode : Mode
  pub kind : ColumnType
  pub terms : List TermPairs
  pub spill : List Pair

-- the pairs rise, and their numbers fit their fields
pub record ArePairs (pairs : List Pair) : Type 0 where
  pub rising : IsRising pairs
  pub fit : AreFit pairs

-- a term that is short enough to be stored, with one pair at least
pub record IsTerm (one : TermPairs) : Type 0 where
  pub short : length one.0 ≤ 1024
  pub some : 1 ≤ length one.1
  pub pairs : ArePairs one.1

-- its pairs can stand in its entry
abbrev pub HasFewPairs : TermPairs → Type 0
HasFewPairs one = length one.1 ≤ 5

abbrev pub terms_in : List TermPairs → List Bytes
terms_in = map (λ (one : TermPairs). one.0)

-- Terms rise by their bytes, and pairs by token and place. A uuid has no terms, and in the mode SPARSE a term has five pairs at most.
pub record IsContent (content : IndexContent) : Type 0 where
  pub few : content.mode ≡ Sparse → AllByRecursion HasFewPairs content.terms
  pub has_terms : content.kind ≢ Uuid
  pub rising : AreRisingTerms (terms_in content.terms)
  pub each : AllByRecursion IsTerm content.terms
  pub spill : ArePairs content.spill

-- ---- its postings

-- those of a term, and those of the spill
abbrev pub term_postings : TermPairs → List Posting
term_postings one = map (posting_of one.0 Stored) one.1

abbrev pub spill_postings : List Pair → List Posting
spill_postings = map (posting_of [] Spill)

-- all of them, in their order
abbrev pub postings_of : List TermPairs → List Pair → List Posting
postings_of terms spill = flat_map term_postings terms ++ spill_postings spill
