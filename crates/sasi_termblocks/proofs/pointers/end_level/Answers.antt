use Rattle.std.proofs.Common.{arith}
use Rattle.std.proofs.lemmas.Bool.Decides.{nat_tests}
use Rattle.sasi_termblocks.proofs.PackerLaws.{level_closed}
use Rattle.sasi_termblocks.proofs.pointers.end_level.Goals as goal

pub returns-clause-ok : goal.returns-clause-ok
returns-clause-ok c items packs = level_closed c.args.packer.now _ items (grind (arith, nat_tests)) packs c.in_ok-close.ensures.ok
