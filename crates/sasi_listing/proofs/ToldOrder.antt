-- The order in which files are told: any two names are in order, and names that tie are one.
use Rattle.std.proofs.Common.{◌≡◌, ℕ, List, [], ◌∷◌, ◌++◌, map, refl, sym, ap, ◌∙◌}
use Rattle.std.specs.Cmp.{IsTotalOrder, nat_cmp_total}
use Rattle.std.specs.Ordering.{is_lt, nat_cmp}
use Rattle.std.specs.List.{flat_map}
use Rattle.std.specs.List.Sorted.{IsPermutation, IsSortedBy}
use Rattle.std.proofs.lemmas.Cmp.{on_total, then_total}
use Rattle.std.proofs.lemmas.Map.Lookups.{CmpEqualImpliesEq, exact_pairs, exact_unsigned}
use Rattle.sasi_host.specs.declared.name.FileName.{FileName}
use Rattle.sasi_host.specs.NameLaws.{named, named_back}
use Rattle.sasi_host.specs.Names.{rank}
use Rattle.sasi_segments.specs.Sorting.{sort}
use Rattle.sasi_segments.proofs.Sorting.{sort_is}
use Rattle.sasi_manifest.specs.FileNames.{file_names}
use Rattle.sasi_manifest.specs.ListedDefinition.{ListedDefinition}
use Rattle.sasi_manifest.specs.ListedFiles.{names_of}
use Rattle.sasi_layout.specs.FileNames.{names_listed, told_cmp}

pub told_total : IsTotalOrder told_cmp
told_total =
    then_total (on_total (λ (n : FileName). n.number) nat_cmp_total)
    (then_total (on_total (λ (n : FileName). rank n.kind) nat_cmp_total) (then_total (on_total (λ (n : FileName). n.index) nat_cmp_total) (on_total (λ (n : FileName). n.part) nat_cmp_total)))

-- the numbers that order a name here
abbrev told_numbers : FileName → ℕ × (ℕ × (ℕ × ℕ))
told_numbers n = (n.number, (rank n.kind, (n.index, n.part)))

-- the name with these numbers
abbrev told_named : ℕ × (ℕ × (ℕ × ℕ)) → FileName
told_named p = named (p.1.0, (p.0, p.1.1))

told_exact : CmpEqualImpliesEq told_cmp
told_exact a b alike =
    sym (named_back a)
    ∙ ap told_named (exact_pairs nat_cmp _ exact_unsigned (exact_pairs nat_cmp _ exact_unsigned (exact_pairs nat_cmp nat_cmp exact_unsigned exact_unsigned)) (told_numbers a) (told_numbers b) alike)
    ∙ named_back b

-- what a sort by this order leaves
pub told_sorted : (old new : List FileName) → IsPermutation old new → IsSortedBy (λ x y. is_lt (told_cmp x y)) new → new ≡ sort told_cmp old
told_sorted old new moved sorted = sym (sort_is told_total told_exact old new moved sorted)

-- ---- the names of listed tables

-- table by table, or from the list of their files
pub names_of_tables : (tables : List ListedDefinition) → file_names tables ≡ names_listed (map (λ t. t.files) tables)
names_of_tables [] = refl
names_of_tables (t ∷ tables) = ap (λ (l : List FileName). flat_map names_of t.files ++ l) (names_of_tables tables)
