use Rattle.std.proofs.Common.{◌+◌, ◌-◌, ◌/◌, arith}
use Rattle.sasi_host.proofs.SequentialLaws.{begins_known}
use Rattle.sasi_gated.proofs.AtGates.{gate_seen}
use Rattle.sasi_gated.proofs.Costs.{into_once}
use Rattle.sasi_gated.proofs.gate.read_gate.Goals as goal

pub returns-clause-ok : goal.returns-clause-ok
returns-clause-ok g c bytes is =
    gate_seen bytes c.read_into.new.out c.args.at (c.in_ok-read_into.ensures.ok bytes is) (c.in_ok-read_into.ensures.within bytes is (omega arith))

pub returns-clause-begins : goal.returns-clause-begins
returns-clause-begins g c =
    begins_known c.read_into.new.self.page ((c.args.at + 1 - 1) / 4096) c.args.at (c.in_ok-read_into.ensures.page (omega arith)) (omega arith)

pub returns-clause-once : goal.returns-clause-once
returns-clause-once g c begins =
    into_once (g.H.Host.view c.args.host.now) (g.H.Host.view c.read_into.new.host) c.args.buffered.now.file c.args.buffered.now.page
    c.read_into.new.self.page c.args.at 1 (omega arith) (c.in_ok-read_into.ensures.page (omega arith))
    (λ bytes is. c.in_ok-read_into.ensures.within bytes is (omega arith)) begins c.read_into.ensures.causes.reads
