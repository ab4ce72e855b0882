use Rattle.std.proofs.Common.{◌≡◌, ◌∙◌, arith, take}
use Rattle.sasi_types.proofs.Padded.{padded}
use Rattle.sasi_types.proofs.partitioner.first_eight.Goals as goal

pub returns : goal.returns
returns c =
    let front : c.copy_from_slice.new.self ≡ take c.min-count.result c.args.key.now = c.copy_from_slice.ensures.after ∙ grind arith in
    rw front (padded c.args.key.now 8 c.min-count.result c.min-count.ensures)
