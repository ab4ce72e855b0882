use Rattle.std.proofs.Common.{subst, sym}
use Rattle.sasi_machine.specs.declared.prepared.CompactSteps.{CompactSteps}
use Rattle.sasi_tasks.specs.MakesTaskMoves.{MakesTaskMoves}
use Rattle.sasi_store.specs.Compactions.{moves_for, tasks_for}
use Rattle.sasi_store.proofs.compactions.go_on.Goals as goal

pub returns-in-Whole-clause-makes : goal.returns-in-Whole-clause-makes
returns-in-Whole-clause-makes g c =
    subst (λ (s : CompactSteps). MakesTaskMoves (moves_for c.args.asked.now.table s) (tasks_for c.args.asked.now.table s) c.args.session.now.views (g.H.Host.view c.args.host.now) (g.H.Host.view c.compact.new.host) c.args.parts.now c.compact.new.parts c.args.session.now.tasks.items c.compact.new.tasks.items c.compact.result)
    (sym c.in-Whole.is) c.compact.ensures.makes

pub returns-in-Begin-clause-makes : goal.returns-in-Begin-clause-makes
returns-in-Begin-clause-makes g c =
    subst (λ (s : CompactSteps). MakesTaskMoves (moves_for c.args.asked.now.table s) (tasks_for c.args.asked.now.table s) c.args.session.now.views (g.H.Host.view c.args.host.now) (g.H.Host.view c.args.host.now) c.args.parts.now c.begin.new.parts c.args.session.now.tasks.items c.begin.new.tasks.items c.begin.result)
    (sym c.in-Begin.is) (c.begin.ensures.makes c.args.session.now.views c.requires.ready)

pub returns-in-Units-clause-makes : goal.returns-in-Units-clause-makes
returns-in-Units-clause-makes g c =
    subst (λ (s : CompactSteps). MakesTaskMoves (moves_for c.args.asked.now.table s) (tasks_for c.args.asked.now.table s) c.args.session.now.views (g.H.Host.view c.args.host.now) (g.H.Host.view c.step.new.host) c.args.parts.now c.step.new.parts c.args.session.now.tasks.items c.step.new.tasks.items c.step.result)
    (sym c.in-Units.is) c.step.ensures.makes
