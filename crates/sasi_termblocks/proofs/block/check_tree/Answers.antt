use Rattle.std.proofs.Common.{◌+◌, ◌≤◌, ◌∙◌, ℕ, List, length, take, drop, subst, sym}
use Rattle.sasi_host.specs.declared.damage.FormatRule.TheVariants as rule
use Rattle.sasi_termblocks.specs.Windows.{offset_in}
use Rattle.sasi_termblocks.specs.BlockFaults.{IsBrokenAt}
use Rattle.sasi_termblocks.proofs.Faults.{term_of_entry, tree_fault}
use Rattle.sasi_termblocks.proofs.block.check_tree.Goals as goal

pub wrong_root-requires-clause-short : goal.wrong_root-requires-clause-short
wrong_root-requires-clause-short c =
    subst (λ (l : List ℕ). length l ≤ 1024) (sym c.bytes.ensures) (term_of_entry c.args.block.now c.args.index c.args.entry.now c.requires.entry)

pub returns-then-not-is_tree_ref-clause-seen : goal.returns-then-not-is_tree_ref-clause-seen
returns-then-not-is_tree_ref-clause-seen c =
    let block = c.args.block.now in
    let at = offset_in block c.args.index in
    tree_fault c.args.first c.args.index block c.args.entry.now c.in-Some.tree c.wrong_root.result c.requires.index c.requires.entry c.in-Some.is (sym c.is_tree_ref.ensures ∙ c.if-not-is_tree_ref.true)
    (subst (λ (l : List ℕ). IsBrokenAt rule.Place (at + (3 + length l)) (take 8 (drop (at + (3 + length l)) block)) c.wrong_root.result) c.bytes.ensures c.wrong_root.ensures.is) c.wrong_root.ensures.near
