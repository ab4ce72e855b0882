-- The order in which files are told: any two names are in order, and names that tie are one.
-- belongs in sasi_listing
use Rattle.std.proofs.Common.{ℕ, sym, ap, ◌∙◌}
use Rattle.std.specs.Cmp.{IsTotalOrder, nat_cmp_total}
use Rattle.std.specs.Ordering.{nat_cmp}
use Rattle.std.proofs.lemmas.Cmp.{on_total, then_total}
use Rattle.std.proofs.lemmas.Map.Lookups.{CmpEqualImpliesEq, exact_pairs, exact_unsigned}
use Rattle.sasi_host.specs.declared.name.FileName.{FileName}
use Rattle.sasi_host.specs.NameLaws.{named, named_back}
use Rattle.sasi_host.specs.Names.{rank}
use Rattle.sasi_layout.specs.FileNames.{told_cmp}

pub told_total : IsTotalOrder told_cmp
told_total =
    then_total (on_total (λ (n : FileName). n.number) nat_cmp_total)
    (then_total (on_total (λ (n : FileName). rank n.kind) nat_cmp_total) (then_total (on_total (λ (n : FileName). n.index) nat_cmp_total) (on_total (λ (n : FileName). n.part) nat_cmp_total)))

-- the numbers that order a name here
abbrev told_numbers : FileName → ℕ × (ℕ × (ℕ × ℕ))
told_numbers n = (n.number, (rank n.kind, (n.index, n.part)))

-- the name with these numbers
abbrev told_named : ℕ × (ℕ × (ℕ × ℕ)) → FileName
told_named p = named (p.1.0, (p.0, p.1.1))

pub told_exact : CmpEqualImpliesEq told_cmp
told_exact a b alike =
    sym (named_back a)
    ∙ ap told_named (exact_pairs nat_cmp _ exact_unsigned (exact_pairs nat_cmp _ exact_unsigned (exact_pairs nat_cmp nat_cmp exact_unsigned exact_unsigned)) (told_numbers a) (told_numbers b) alike)
    ∙ named_back b
