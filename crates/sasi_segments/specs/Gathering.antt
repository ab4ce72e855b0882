-- What a gathering is seen as, and what its fields keep.
use Rattle.std.specs.Prelude.{◌≡◌, ℕ, ◌+◌, ◌≤◌, Bool, true, List, length, map, reverse, take, drop}
use Rattle.std.specs.List.{All, sum_by}
use Rattle.sasi_types.specs.declared.list_kind.ListKind.{ListKind}
use Rattle.sasi_types.specs.declared.tree.Pair.{Pair}
use Rattle.sasi_segments.specs.declared.gathered.GatheredPosting.{GatheredPosting}
use Rattle.sasi_segments.specs.declared.posting.Posting.{Posting}
use Rattle.sasi_segments.specs.Postings.{in_order, posting_of}

-- the index of a data file, and its postings that are still to be given, in their order
pub record Gathering : Type 0 where
  pub number : ℕ
  pub index : ℕ
  pub postings : List Posting

-- ---- postings whose terms stand in one list of bytes

-- a posting whose term begins there and has so many bytes
abbrev pub gathered : ℕ → ℕ → ListKind → Pair → GatheredPosting
gathered start len list pair = record { pair = pair; prefix = 0; start = start; length = len; list = list }

-- the bytes of its term among those of all terms
abbrev pub term_at : List ℕ → GatheredPosting → List ℕ
term_at terms posting = take posting.length (drop posting.start terms)

-- what it stands for
abbrev pub posting_at : List ℕ → GatheredPosting → Posting
posting_at terms posting = posting_of (term_at terms posting) posting.list posting.pair

abbrev pub postings_at : List ℕ → List GatheredPosting → List Posting
postings_at terms items = map (posting_at terms) items

-- the whole term is among so many bytes
abbrev pub IsWithin : ℕ → GatheredPosting → Type 0
IsWithin size posting = posting.start + posting.length ≤ size

-- the bytes of its record in a segment file
abbrev pub gathered_size : GatheredPosting → ℕ
gathered_size posting = posting.length + 19

-- the bytes of the records are counted, sorted postings have the last one first, and each term is there
pub record IsConsistent (terms : List ℕ) (items : List GatheredPosting) (bytes : ℕ) (is_sorted : Bool) : Type 0 where
  pub counted : bytes ≡ sum_by gathered_size items
  pub sorted : is_sorted ≡ true → reverse (postings_at terms items) ≡ in_order (postings_at terms items)
  pub within : All (IsWithin (length terms)) items
