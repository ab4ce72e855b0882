-- Which of the gathered terms an index of a mode keeps, and which pairs go to its spill.
use Rattle.std.specs.Prelude.{not, List, ◌++◌, length}
use Rattle.std.specs.List.{filter, flat_map}
use Rattle.sasi_types.specs.declared.mode.Mode.{Mode}
use Rattle.sasi_types.specs.declared.mode.Mode.TheVariants.{Prefix, Contains, Sparse}
use Rattle.sasi_types.specs.declared.tree.Pair.{Pair}
use Rattle.sasi_sparse.specs.Sparse.{is_stored}
use Rattle.sasi_indexwrite.specs.Content.{TermPairs}
use Rattle.sasi_indexwrite.specs.Unions.{union_of}

-- the terms with at most five pairs, and the pairs of the others
abbrev pub rare_terms : List TermPairs → List TermPairs
rare_terms terms = filter (λ (one : TermPairs). is_stored (length one.1)) terms

abbrev pub common_pairs : List TermPairs → List Pair
common_pairs terms = flat_map (λ (one : TermPairs). one.1) (filter (λ (one : TermPairs). not (is_stored (length one.1))) terms)

-- the terms that an index of this mode keeps
abbrev pub kept_terms : Mode → List TermPairs → List TermPairs
kept_terms Prefix terms = terms
kept_terms Contains terms = terms
kept_terms Sparse terms = rare_terms terms

-- and the pairs of its spill, where these were gathered for it
abbrev pub kept_spill : Mode → List TermPairs → List Pair → List Pair
kept_spill Prefix terms spill = spill
kept_spill Contains terms spill = spill
kept_spill Sparse terms spill = union_of (common_pairs terms ++ spill)
