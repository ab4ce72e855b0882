-- How many reads a search makes.
use Rattle.std.specs.Prelude.{ℕ, ◌+◌, ◌*◌, Bool, true, false, if◌then◌else◌, length, Option, None, Some}
use Rattle.std.specs.List.{sum_by}
use Rattle.sasi_types.specs.declared.column.ColumnType.{ColumnType}
use Rattle.sasi_types.specs.declared.tree.TreeRef.{TreeRef}
use Rattle.sasi_host.specs.Names.{Bytes}
use Rattle.sasi_terms.specs.declared.op.Op.{Op}
use Rattle.sasi_termblocks.specs.declared.term_entry.TermEntry.{TermEntry}
use Rattle.sasi_indexwrite.specs.Content.{IndexContent, TermPairs}
use Rattle.sasi_treemerge.specs.Merges.{sources_of, unread_of}
use Rattle.sasi_indexread.specs.Asked.{is_asked_term, is_match, is_run}
use Rattle.sasi_indexread.specs.Searches.{Searching}

-- the pairs of an entry's tree, where its term is asked for; those that it has itself take no further read
abbrev pub list_pairs : Option TreeRef → ℕ
list_pairs None = 0
list_pairs (Some list) = list.pairs

abbrev pub added_pairs : ColumnType → Op → Bytes → TermEntry → ℕ
added_pairs kind op body entry = if is_match kind op body entry.term then list_pairs entry.list else 0

-- a term costs one read, and two for each of its pairs if it is asked for; in a run, one that isn't costs nothing
abbrev pub cost_if : Bool → Bool → ℕ → ℕ
cost_if true run pairs = 1 + 2 * pairs
cost_if false true pairs = 0
cost_if false false pairs = 1

abbrev pub term_cost : IndexContent → Op → Bytes → TermPairs → ℕ
term_cost content op body one = cost_if (is_asked_term content op body one) (is_run op) (length one.1)

abbrev pub terms_cost : IndexContent → Op → Bytes → ℕ
terms_cost content op body = sum_by (term_cost content op body) content.terms

-- the pairs of the terms that are read: in a run those that are asked for, and else all
abbrev pub pairs_if : Bool → Bool → ℕ → ℕ
pairs_if true run pairs = pairs
pairs_if false true pairs = 0
pairs_if false false pairs = pairs

abbrev pub pairs_in : IndexContent → Op → Bytes → TermPairs → ℕ
pairs_in content op body one = pairs_if (is_asked_term content op body one) (is_run op) (length one.1)

abbrev pub pairs_read : IndexContent → Op → Bytes → ℕ
pairs_read content op body = sum_by (pairs_in content op body) content.terms

-- what a search costs from its first pair on: the way to its first term, the terms, and the spill
abbrev pub whole_cost : ℕ → IndexContent → Op → Bytes → ℕ
whole_cost levels content op body = levels + 2 + terms_cost content op body + 2 * length content.spill

-- the reads that are left to a search
abbrev pub cost_left : Searching → IndexContent → ℕ
cost_left search content = if search.is_collected then 2 * unread_of (sources_of search.merge) else whole_cost search.index.blocks.levels content search.op search.body
