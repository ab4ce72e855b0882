use Rattle.std.proofs.Common.{ℕ, ◌*◌, ◌∙◌, ap, arith, take, drop, length-drop}
use Rattle.std.proofs.lemmas.List.{take_rest, take_min}
use Rattle.sasi_tokentree.proofs.node_layout.node_entries.Goals as goal

pub returns-clause-is : goal.returns-clause-is
returns-clause-is c =
    let rest = drop (255 * c.args.index) c.args.entries.now in
    ap (λ l. take c.min.result l) (take_rest c.args.entries.now (255 * c.args.index))
    ∙ ap (λ (n : ℕ). take n rest) (omega (arith, length-drop (255 * c.args.index) c.args.entries.now))
    ∙ take_min 255 rest
