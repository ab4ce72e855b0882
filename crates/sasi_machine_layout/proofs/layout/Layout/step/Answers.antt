use Rattle.std.proofs.Common.{◌≡◌, OnErr, OnOk, subst}
use Rattle.sasi_layout.specs.Layout.{Layout}
use Rattle.sasi_layout.specs.Moves.{after_moves}
use Rattle.sasi_machine_layout.specs.Contents.{layout_of}
use Rattle.sasi_machine_layout.specs.Steps.{IsMadeInPart, statement_moves}
use Rattle.sasi_machine_layout.proofs.layout.Layout.step.Goals as goal

pub returns-clause-ok : goal.returns-clause-ok
returns-clause-ok c = subst (λ (l : Layout). OnOk c.step.result (layout_of c.step.new.contents ≡ after_moves (statement_moves l c.args.statement) l)) c.self.view_is c.step.ensures.ok

pub returns-clause-err : goal.returns-clause-err
returns-clause-err c = subst (λ (l : Layout). OnErr c.step.result (IsMadeInPart (statement_moves l c.args.statement) l (layout_of c.step.new.contents))) c.self.view_is c.step.ensures.err
