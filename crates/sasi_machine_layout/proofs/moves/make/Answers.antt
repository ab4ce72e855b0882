use Rattle.std.proofs.Common.{subst}
use Rattle.sasi_layout.specs.Layout.{state_of}
use Rattle.sasi_machine.specs.Prepares.{CanBeDone}
use Rattle.sasi_machine_layout.specs.Contents.{layout_of}
use Rattle.sasi_machine_layout.proofs.KeptContents.{table_there}
use Rattle.sasi_machine_layout.proofs.moves.make.Goals as goal

pub flush_unless_empty-requires-clause-there : goal.flush_unless_empty-requires-clause-there
flush_unless_empty-requires-clause-there c =
    let old = c.args.contents.now in
    table_there old c.in-Flush.table c.requires.contents (subst (CanBeDone (state_of (layout_of old))) c.in-Flush.is c.requires.can)
