use Rattle.std.proofs.Common.{[], List, ℕ, ◌∙◌, ap}
use Rattle.sasi_fields.specs.Reading.{Reading}
use Rattle.sasi_termblocks.proofs.Faults.{reader_is}
use Rattle.sasi_termblocks.proofs.block.reader_at.Goals as goal

made : List ℕ → Reading
made left = record { done = []; left = left }

pub returns : goal.returns
unfolding made
returns c = c.new.ensures ∙ ap made (reader_is c.args.block.now c.args.index c.number_at-at.result c.min.result c.requires.whole c.number_at-at.ensures.is c.min.ensures)
