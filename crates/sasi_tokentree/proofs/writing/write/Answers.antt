use Rattle.std.proofs.Common.{◌≡◌, ◌+◌, ◌^◌, ◌≤◌, List, length, ◌∙◌, sym, ap, subst, arith}
use Rattle.std.proofs.lemmas.List.{nil_from_length}
use Rattle.std.proofs.lemmas.Bool.Decides.{nat_tests}
use Rattle.sasi_types.specs.declared.tree.Pair.{Pair}
use Rattle.sasi_tokentree.proofs.WriteLaws.{changes_past_stays}
use Rattle.sasi_tokentree.specs.Format.{AreFit, tree_bytes}
use Rattle.sasi_tokentree.proofs.Fitting.{all_fit, first_none}
use Rattle.sasi_tokentree.proofs.LevelSteps.{empty_written, empty_tree}
use Rattle.sasi_tokentree.proofs.TreeSizes.{none_fits, tree_fits}
use Rattle.sasi_tokentree.proofs.writing.write.Goals as goal

pub returns-else-not-is_empty-clause-ok : goal.returns-else-not-is_empty-clause-ok
returns-else-not-is_empty-clause-ok g c =
    let zero : length c.as_slice-entries.result.now ≡ 0 = grind (arith, nat_tests) in
    empty_written (g.H.Host.view c.args.host.now) c.args.file c.args.at c.args.pairs.now (sym c.as_slice-entries.ensures ∙ nil_from_length _ zero) c.requires.room

pub returns-else-not-is_empty-clause-tree : goal.returns-else-not-is_empty-clause-tree
returns-else-not-is_empty-clause-tree g c =
    let zero : length c.as_slice-entries.result.now ≡ 0 = grind (arith, nat_tests) in
    empty_tree c.args.at _ c.args.pairs.now (sym c.as_slice-entries.ensures ∙ nil_from_length _ zero) (ap (λ (l : List Pair). length l) c.as_slice-entries.ensures)

pub returns-else-not-is_empty-clause-changes : goal.returns-else-not-is_empty-clause-changes
returns-else-not-is_empty-clause-changes g c = changes_past_stays _ c.args.file c.args.at

pub returns-else-not-is_empty-clause-fit : goal.returns-else-not-is_empty-clause-fit
returns-else-not-is_empty-clause-fit g c =
    let zero : length c.as_slice-entries.result.now ≡ 0 = grind (arith, nat_tests) in
    subst (λ (l : List Pair). AreFit l) c.as_slice-entries.ensures (all_fit c.as_slice-entries.result.now 0 (omega (arith, zero)) (first_none c.as_slice-entries.result.now))

pub returns-else-not-is_empty-clause-fits : goal.returns-else-not-is_empty-clause-fits
returns-else-not-is_empty-clause-fits g c fits =
    let zero : length c.as_slice-entries.result.now ≡ 0 = grind (arith, nat_tests) in
    none_fits c.args.at c.args.pairs.now (sym c.as_slice-entries.ensures ∙ nil_from_length _ zero) fits

pub returns-in_ok-root-clause-fits : goal.returns-in_ok-root-clause-fits
returns-in_ok-root-clause-fits g c fits =
    let entries = c.as_slice-entries.result.now in
    subst (λ (l : List Pair). c.args.at + length (tree_bytes c.args.at l) ≤ 2 ^ 62) c.as_slice-entries.ensures
    (tree_fits c.args.at entries (c.in_ok-root.ensures.fits (length entries) (omega arith)))
