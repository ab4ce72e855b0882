use Rattle.std.proofs.Common.{◌≤◌, List, length, subst, sym, ap, arith}
use Rattle.std.proofs.lemmas.Bool.Decides.{nat_tests}
use Rattle.sasi_types.specs.declared.tree.Pair.{Pair}
use Rattle.sasi_host.proofs.ChangeLaws.{untouched}
use Rattle.sasi_tokentree.specs.Format.{IsRising}
use Rattle.sasi_indexwrite.proofs.Joined.{union_rising, union_some}
use Rattle.sasi_indexwrite.proofs.superblocks.end_superblock.Goals as goal

pub returns-then-is_empty-clause-changes : goal.returns-then-is_empty-clause-changes
returns-then-is_empty-clause-changes g c = untouched (g.H.Host.view c.args.host.now) c.args.trees.now.file

pub returns-in_err-pairs-clause-changes : goal.returns-in_err-pairs-clause-changes
returns-in_err-pairs-clause-changes g c = untouched (g.H.Host.view c.args.host.now) c.args.trees.now.file

pub append_tree-requires-clause-some : goal.append_tree-requires-clause-some
append_tree-requires-clause-some g c =
    let some : 1 ≤ length c.as_slice.result.now = grind (arith, nat_tests) in
    let one : 1 ≤ length c.args.groups.now.pairs = omega (arith, some, ap length c.as_slice.ensures) in
    subst (λ (l : List Pair). 1 ≤ length l) (sym c.in_ok-pairs.ensures) (union_some c.args.groups.now.pairs one)

pub append_tree-requires-clause-rising : goal.append_tree-requires-clause-rising
append_tree-requires-clause-rising g c = subst (λ (l : List Pair). IsRising l) (sym c.in_ok-pairs.ensures) (union_rising c.args.groups.now.pairs)
