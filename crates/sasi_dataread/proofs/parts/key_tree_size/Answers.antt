use Rattle.std.proofs.Common.{ℕ, replicate, ap, ◌∙◌}
use Rattle.std.proofs.lemmas.List.{length-replicate}
use Rattle.sasi_types.specs.declared.tree.Pair.{Pair}
use Rattle.sasi_tokentree.specs.Heights.{levels_size}
use Rattle.sasi_tokentree.proofs.HeightLaws.{tree_length}
use Rattle.sasi_dataread.proofs.parts.key_tree_size.Goals as goal

-- a tree of any so many pairs has this size
pub returns : goal.returns
returns c =
    let pair : Pair = record { token = 0; place = 0 } in
    let pairs = replicate c.args.pairs pair in
    let many = length-replicate c.args.pairs pair in
    c.tree_size.ensures 0 pairs many ∙ tree_length 0 pairs ∙ ap (λ (n : ℕ). levels_size n n) many
