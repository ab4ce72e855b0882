-- The trees of superblocks as the terms come in, in the mode SPARSE.
use Rattle.std.specs.Prelude.{◌≡◌, ℕ, ◌+◌, ◌-◌, ◌/◌, ◌≤◌, List, [], ◌∷◌, ◌++◌, length}
use Rattle.std.specs.List.{AllByRecursion}
use Rattle.sasi_types.specs.declared.tree.Pair.{Pair}
use Rattle.sasi_types.specs.declared.tree.TreeRef.{TreeRef}
use Rattle.sasi_host.specs.Names.{Bytes}
use Rattle.sasi_host.specs.View.{View}
use Rattle.sasi_sparse.specs.Sparse.{superblocks}
use Rattle.sasi_indexwrite.specs.declared.superblocks.Superblocks.{Superblocks}
use Rattle.sasi_indexwrite.specs.declared.tree_writer.TreeWriter.{TreeWriter}
use Rattle.sasi_indexwrite.specs.Appending.{IsAppending, next_tree}
use Rattle.sasi_indexwrite.specs.Content.{TermPairs}
use Rattle.sasi_indexwrite.specs.Format.{refs_from, trees_bytes}
use Rattle.sasi_indexwrite.specs.Superblocks.{block_numbers, inline_blocks, lists_of, numbered_terms, pairs_within}
use Rattle.sasi_indexwrite.specs.Unions.{union_of}

-- the pairs of the last superblock, if there are any
abbrev pub last_list : List Pair → List TermPairs
last_list [] = []
last_list (pair ∷ others) = ([], union_of (pair ∷ others)) ∷ []

-- the trees of these lists stand behind a header, and their references are these
pub record HasListed (v : View) (trees : TreeWriter) (table : List TreeRef) (header : Bytes) (lists : List TermPairs) : Type 0 where
  pub appended : IsAppending v trees (header ++ trees_bytes 16 lists)
  pub next_is : next_tree trees ≡ 16 + length (trees_bytes 16 lists)
  pub table_is : table ≡ refs_from 16 lists

-- all superblocks of these terms but the last have their trees, and the pairs of the last are kept
pub record IsGrouped (groups : Superblocks) (terms : List TermPairs) : Type 0 where
  pub pairs_are : groups.pairs ≡ pairs_within (numbered_terms terms) (length groups.trees.items)
  pub count_is : length groups.trees.items ≡ superblocks (length (inline_blocks terms)) - 1
  pub some : 1 ≤ superblocks (length (inline_blocks terms)) → 1 ≤ length groups.pairs
  pub within : AllByRecursion (λ (one : ℕ × TermPairs). one.0 / 64 ≤ length groups.trees.items) (numbered_terms terms)
  pub long : length (block_numbers 0 (inline_blocks terms)) ≡ length terms

-- and those trees stand behind a header
pub record HasGroups (v : View) (trees : TreeWriter) (groups : Superblocks) (header : Bytes) (terms : List TermPairs) : Type 0 where
  pub listed : HasListed v trees groups.trees.items header (lists_of (numbered_terms terms) (length groups.trees.items))
  pub grouped : IsGrouped groups terms
