use Rattle.std.proofs.Common.{◌++◌, ◌≤◌, ◌∙◌, List, length, sym, ap, arith, length-append, subst}
use Rattle.sasi_types.specs.declared.tree.Pair.{Pair}
use Rattle.sasi_tokentree.specs.Format.{node}
use Rattle.sasi_tokentree.proofs.SmallTrees.{small_length, small_ref, small_tree}
use Rattle.sasi_tokentree.proofs.writing.put_small_tree.Goals as goal

pub returns-clause-ok : goal.returns-clause-ok
returns-clause-ok c =
    c.in_ok-put_node.ensures.is
    ∙ ap (λ (l : List _). c.args.bytes.now.items ++ l) (ap (λ (l : List Pair). node 0 l) c.as_slice-entries.ensures ∙ sym (small_tree c.args.at c.args.pairs.now c.requires.some c.requires.most))

pub returns-clause-tree : goal.returns-clause-tree
returns-clause-tree c = small_ref c.args.at _ c.args.pairs.now c.requires.some c.requires.most (ap length c.as_slice-entries.ensures)

pub returns-clause-short : goal.returns-clause-short
returns-clause-short c =
    let most = subst (λ (l : List Pair). length (node 0 l) ≤ 4088) (sym c.as_slice-entries.ensures) (small_length c.args.pairs.now c.requires.some c.requires.most) in
    omega (arith, ap length c.in_ok-put_node.ensures.is, length-append c.args.bytes.now.items (node 0 c.as_slice-entries.result.now), most)
