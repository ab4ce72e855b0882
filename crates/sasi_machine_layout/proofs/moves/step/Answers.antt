use Rattle.std.proofs.Common.{refl, subst, sym, ap, ◌∙◌, List, OnErr, OnOk, ◌≡◌}
use Rattle.sasi_layout.specs.Layout.{state_of}
use Rattle.sasi_layout.specs.Moves.{Move, after_moves}
use Rattle.sasi_machine.specs.Prepares.{known_by}
use Rattle.sasi_machine_layout.specs.Contents.{layout_of}
use Rattle.sasi_machine_layout.specs.Steps.{IsMadeInPart}
use Rattle.sasi_machine_layout.proofs.KeptContents.{known_here}
use Rattle.sasi_machine_layout.proofs.MovesMade.{at_err, nothing_made}
use Rattle.sasi_machine_layout.proofs.StatementMoves.{changing, moves_are, no_moves, state_here}
use Rattle.sasi_machine_layout.proofs.moves.step.Goals as goal

pub returns-then-not-asks_change-clause-ok : goal.returns-then-not-asks_change-clause-ok
returns-then-not-asks_change-clause-ok c =
    let l = layout_of c.args.contents.now in
    sym (ap (λ (moves : List Move). after_moves moves l) (no_moves l c.args.statement (sym c.asks_change.ensures ∙ c.if-not-asks_change.true)))

pub prepare_change-requires-clause-limit : goal.prepare_change-requires-clause-limit
prepare_change-requires-clause-limit c = c.requires.contents.limit

pub prepare_change-requires-clause-change : goal.prepare_change-requires-clause-change
prepare_change-requires-clause-change c = changing c.args.statement (sym c.asks_change.ensures ∙ c.if-not-asks_change.false)

pub make-requires-clause-can : goal.make-requires-clause-can
make-requires-clause-can c =
    let old = c.args.contents.now in
    c.in_ok-prepared.ensures.can (state_of (layout_of old)) (state_here (layout_of old) (known_by old.schema old.max_timestamp) (known_here old c.requires.contents))

pub returns-in_err-prepared-clause-err : goal.returns-in_err-prepared-clause-err
returns-in_err-prepared-clause-err c = at_err _ (nothing_made _ _ _ refl)

pub returns-clause-ok : goal.returns-clause-ok
returns-clause-ok c =
    let old = c.args.contents.now in
    let l = layout_of old in
    let same = moves_are l (known_by old.schema old.max_timestamp) c.args.statement _ _ c.in_ok-prepared.prepared (known_here old c.requires.contents) (sym c.asks_change.ensures ∙ c.if-not-asks_change.false) c.in_ok-prepared.ensures.prepares in
    subst (λ (moves : List Move). OnOk c.make.result (layout_of c.make.new.contents ≡ after_moves moves l)) (sym same) c.make.ensures.ok

pub returns-clause-err : goal.returns-clause-err
returns-clause-err c =
    let old = c.args.contents.now in
    let l = layout_of old in
    let same = moves_are l (known_by old.schema old.max_timestamp) c.args.statement _ _ c.in_ok-prepared.prepared (known_here old c.requires.contents) (sym c.asks_change.ensures ∙ c.if-not-asks_change.false) c.in_ok-prepared.ensures.prepares in
    subst (λ (moves : List Move). OnErr c.make.result (IsMadeInPart moves l (layout_of c.make.new.contents))) (sym same) c.make.ensures.err
