use Rattle.std.proofs.Common.{ℕ, arith, sym, ap, ◌∙◌}
use Rattle.std.specs.Prelude.{length}
use Rattle.sasi_tokentree.specs.Heights.{levels_size}
use Rattle.sasi_tokentree.proofs.HeightLaws.{tree_length}
use Rattle.sasi_tokentree.proofs.node_layout.tree_size.Goals as goal

pub returns : goal.returns
returns c at list same =
    c.levels_size.ensures.is (length list) (omega (arith, same)) ∙ ap (λ (n : ℕ). levels_size (length list) n) (sym same) ∙ sym (tree_length at list)
