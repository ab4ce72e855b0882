-- The trees of an index of the mode SPARSE: 64 term blocks have one together, of all pairs in them.
use Rattle.std.specs.Prelude.{ℕ, zero, suc, ◌/◌, nat_eq, List, [], ◌∷◌, ◌++◌, length, map, replicate, Some, None}
use Rattle.std.specs.List.{filter, flat_map, zip}
use Rattle.sasi_types.specs.declared.tree.Pair.{Pair}
use Rattle.sasi_sparse.specs.Sparse.{superblocks}
use Rattle.sasi_termblocks.specs.declared.term_entry.TermEntry.{TermEntry}
use Rattle.sasi_termblocks.specs.Blocks.{Item, blocks, items_of}
use Rattle.sasi_indexwrite.specs.Content.{TermPairs}
use Rattle.sasi_indexwrite.specs.Unions.{union_of}

-- each term with its pairs in its entry
abbrev pub inline_entries : List TermPairs → List TermEntry
inline_entries terms = map (λ (one : TermPairs). record { term = one.0; list = None; inline = Some one.1 }) terms

-- the blocks of these entries
abbrev pub inline_blocks : List TermPairs → List (List Item)
inline_blocks terms = blocks (items_of (inline_entries terms))

-- of each entry the number of its block, where the first block has this number
abbrev pub block_numbers : ℕ → List (List Item) → List ℕ
block_numbers n [] = []
block_numbers n (block ∷ others) = replicate (length block) n ++ block_numbers (suc n) others

-- each term with the number of its block, the first of which is 0
abbrev pub numbered_terms : List TermPairs → List (ℕ × TermPairs)
numbered_terms terms = zip (block_numbers 0 (inline_blocks terms)) terms

-- the terms of a superblock: those in the blocks from 64 times its number on, up to the next one
abbrev pub terms_within : ℕ → List (ℕ × TermPairs) → List (ℕ × TermPairs)
terms_within number terms = filter (λ (one : ℕ × TermPairs). nat_eq (one.0 / 64) number) terms

-- their pairs
abbrev pub pairs_within : List (ℕ × TermPairs) → ℕ → List Pair
pairs_within terms number = flat_map (λ (one : ℕ × TermPairs). one.1.1) (terms_within number terms)

-- so many numbers from this one on
abbrev pub numbers_from : ℕ → ℕ → List ℕ
numbers_from n zero = []
numbers_from n (suc more) = n ∷ numbers_from (suc n) more

-- the pairs of a superblock, each once, as those of a term without a name
abbrev pub superblock_list : List (ℕ × TermPairs) → ℕ → TermPairs
superblock_list terms number = ([], union_of (pairs_within terms number))

-- those of the first so many
abbrev pub lists_of : List (ℕ × TermPairs) → ℕ → List TermPairs
lists_of terms count = map (superblock_list terms) (numbers_from 0 count)

-- **The pairs of each superblock**
abbrev pub superblock_lists : List TermPairs → List TermPairs
superblock_lists terms = lists_of (numbered_terms terms) (superblocks (length (inline_blocks terms)))
