-- Which postings an index of a mode stores under their terms, and which it keeps in the spill.
use Rattle.std.specs.Prelude.{ℕ, Bool, false, not, List, [], ◌++◌, length, map}
use Rattle.std.specs.List.{filter}
use Rattle.sasi_types.specs.Term.{term_eq}
use Rattle.sasi_types.specs.declared.list_kind.ListKind.{ListKind}
use Rattle.sasi_types.specs.declared.list_kind.ListKind.TheVariants.{Stored, Spill}
use Rattle.sasi_types.specs.declared.mode.Mode.{Mode}
use Rattle.sasi_types.specs.declared.mode.Mode.TheVariants.{Prefix, Contains, Sparse}
use Rattle.sasi_host.specs.Names.{Bytes}
use Rattle.sasi_segments.specs.declared.posting.Posting.{Posting}
use Rattle.sasi_segments.specs.Postings.{posting_of}
use Rattle.sasi_sparse.specs.Sparse.{is_stored}
use Rattle.sasi_indexwrite.specs.Unions.{union_of}

-- a posting stands under this term
abbrev pub is_under_as : ListKind → Bytes → Bytes → Bool
is_under_as Stored term other = term_eq term other
is_under_as Spill term other = false

abbrev pub is_under : Bytes → Posting → Bool
is_under term posting = is_under_as posting.list term posting.term

-- how many postings stand under the term
abbrev pub count_under : List Posting → Bytes → ℕ
count_under postings term = length (filter (is_under term) postings)

-- the posting is stored under its term in the mode SPARSE, among these: no more than five of them stand under it
abbrev pub is_kept_as : ListKind → ℕ → Bool
is_kept_as Stored keys = is_stored keys
is_kept_as Spill keys = false

abbrev pub is_kept : List Posting → Posting → Bool
is_kept postings posting = is_kept_as posting.list (count_under postings posting.term)

-- the others are in the spill, each pair once
abbrev pub sparse_spill : List Posting → List Posting
sparse_spill postings = map (posting_of [] Spill) (union_of (map (λ (p : Posting). p.pair) (filter (λ p. not (is_kept postings p)) postings)))

-- **The postings that an index of this mode keeps of those that were gathered**: in the mode SPARSE those of a term with more than five go to the spill.
abbrev pub stored : Mode → List Posting → List Posting
stored Prefix postings = postings
stored Contains postings = postings
stored Sparse postings = filter (is_kept postings) postings ++ sparse_spill postings
