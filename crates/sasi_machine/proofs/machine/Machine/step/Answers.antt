use Rattle.std.proofs.Common.{◌≡◌, subst}
use Rattle.sasi_model.specs.Pieces.{piece_of}
use Rattle.sasi_model.specs.Step.{step}
use Rattle.sasi_machine.specs.MachineView.{AnswersSessions, MachineView}
use Rattle.sasi_machine.proofs.machine.Machine.step.Goals as goal

pub returns-in-Ok-clause-state : goal.returns-in-Ok-clause-state
returns-in-Ok-clause-state c =
    let p = piece_of c.args.end c.args.piece.now in
    subst (λ (m : MachineView). c.step_with.new.database ≡ (step m.state p).state) c.self.view_is c.in-Ok.ensures.state

pub returns-in-Ok-clause-session : goal.returns-in-Ok-clause-session
returns-in-Ok-clause-session c =
    let p = piece_of c.args.end c.args.piece.now in
    subst (λ (m : MachineView). AnswersSessions m.state p m.cursors c.step_with.new.cursors c.step_with.new.reply c.in-Ok.outcome) c.self.view_is c.in-Ok.ensures.session
