use Rattle.std.proofs.Common.{arith, rules}
use Rattle.sasi_host.proofs.Offsets.{other_at}
use Rattle.sasi_host.proofs.damage.check_part.Goals as goal

pub returns-then-ne-clause-seen : goal.returns-then-ne-clause-seen
returns-then-ne-clause-seen c =
    other_at c.args.file c.args.at c.args.bytes.now c.args.start _ c.args.wanted.now c.args.rule c.found.result (omega arith)
    (omega (arith, c.requires.whole)) c.found.ensures.file c.found.ensures.at c.found.ensures.rule c.found.ensures.seen (search rules)
