-- The postings of an index over a data file: each partition stands under each term of the current cell of the indexed column, once. A
-- term that isn't kept, since it is too long or too many partitions have it, puts its partition into the spill.
use Rattle.std.specs.Prelude.{ℕ, ◌<◌, not, Bool, ◌&&◌, nat_le, if◌then◌else◌, List, [], ◌∷◌, ◌++◌, length, map, Option}
use Rattle.std.specs.FinMap as map_
use Rattle.std.specs.List.{AllByRecursion, dedup, filter, flat_map, fold, list_any, zip}
use Rattle.sasi_types.specs.declared.list_kind.ListKind.TheVariants.{Stored, Spill}
use Rattle.sasi_types.specs.declared.mode.Mode.{Mode}
use Rattle.sasi_types.specs.declared.partitioner.Partitioner.{Partitioner}
use Rattle.sasi_types.specs.declared.rule.Rule.{Rule}
use Rattle.sasi_types.specs.declared.tree.Pair.{Pair}
use Rattle.sasi_types.specs.Term.{term_cmp, term_eq}
use Rattle.sasi_host.specs.Names.{Bytes}
use Rattle.sasi_model.specs.Cells.{Partition}
use Rattle.sasi_model.specs.IndexTerms.{terms_of_cell}
use Rattle.sasi_model.specs.Tokens.{same}
use Rattle.sasi_segments.specs.declared.posting.Posting.{Posting}
use Rattle.sasi_segments.specs.Postings.{in_order, posting_cmp, posting_of}
use Rattle.sasi_segments.specs.Sorting.{inserted, sort}
use Rattle.sasi_datawrite.specs.Format.{Content, key_pairs}
use Rattle.sasi_sparse.specs.Sparse.{is_rare}
use Rattle.sasi_indexwrite.specs.TermsSoFar.{AreSortedPostings}

-- ---- of one partition

-- a stored term has 1,024 bytes at most
abbrev pub is_short : Bytes → Bool
is_short term = nat_le (length term) 1024

-- the terms in their order, each once
abbrev pub distinct : List Bytes → List Bytes
distinct terms = dedup term_eq (sort term_cmp terms)

-- the partition at this pair under each of these terms that is kept
abbrev pub stored_postings : (Bytes → Bool) → Pair → List Bytes → List Posting
stored_postings kept pair terms = map (λ term. posting_of term Stored pair) (distinct (filter kept terms))

-- and in the spill, if one of them isn't
abbrev pub spill_postings : (Bytes → Bool) → Pair → List Bytes → List Posting
spill_postings kept pair terms = if list_any (λ term. not (kept term)) terms then posting_of [] Spill pair ∷ [] else []

-- the postings of these terms
abbrev pub postings_of : (Bytes → Bool) → Pair → List Bytes → List Posting
postings_of kept pair terms = stored_postings kept pair terms ++ spill_postings kept pair terms

-- those of a partition in an index of this column, whose terms are made by the rule
abbrev pub postings_at : (Bytes → Bool) → ℕ → Option Rule → Pair → Partition → List Posting
postings_at kept column rule pair part = postings_of kept pair (terms_of_cell rule (map_.get part.cells column))

-- postings in their order, and these too
abbrev pub with_postings : List Posting → List Posting → List Posting
with_postings postings added = fold (λ all posting. inserted posting_cmp posting all) postings added

-- ---- of partitions in front of an offset

-- an index file can be written of these postings, whose partitions stand in front of this offset
pub record AreGathered (postings : List Posting) (offset : ℕ) : Type 0 where
  pub sorted : AreSortedPostings postings
  pub below : AllByRecursion (λ p. p.pair.place < offset) postings

-- ---- of a data file

-- the pair of each partition, with the partition
abbrev pub paired : Partitioner → Content → List (Pair × Partition)
paired partitioner content = zip (key_pairs partitioner content) (map (λ one. one.1) content)

-- what a gathering of a column has of them: each under those of its terms that are short, in the order of postings
abbrev pub gathered_postings : Partitioner → ℕ → Option Rule → Content → List Posting
gathered_postings partitioner column rule content = in_order (flat_map (λ one. postings_at is_short column rule one.0 one.1) (paired partitioner content))

-- how many of the partitions have the term
abbrev pub keys_with : ℕ → Option Rule → Content → Bytes → ℕ
keys_with column rule content term = length (filter (λ one. list_any (same term) (terms_of_cell rule (map_.get one.1.cells column))) content)

-- a term is kept under itself that is short, and in the mode SPARSE one that no more than five partitions have
abbrev pub is_kept : Mode → ℕ → Option Rule → Content → Bytes → Bool
is_kept mode column rule content term = is_short term && is_rare mode (keys_with column rule content term)

-- **The postings of an index of this mode and column over a data file with this content**, in their order.
abbrev pub index_postings : Mode → Partitioner → ℕ → Option Rule → Content → List Posting
index_postings mode partitioner column rule content =
    in_order (flat_map (λ one. postings_at (is_kept mode column rule content) column rule one.0 one.1) (paired partitioner content))
