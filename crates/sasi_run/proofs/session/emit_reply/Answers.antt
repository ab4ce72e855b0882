use Rattle.sasi_run.proofs.EmitLaws.{no_reply, one_reply}
use Rattle.sasi_run.proofs.session.emit_reply.Goals as goal

pub returns-then-is_empty-clause-call : goal.returns-then-is_empty-clause-call
returns-then-is_empty-clause-call g c = no_reply _ _ c.is_empty.result c.is_empty.ensures c.if-is_empty.true

pub returns-clause-call : goal.returns-clause-call
returns-clause-call g c = one_reply _ _ _ c.is_empty.result c.is_empty.ensures c.if-is_empty.false c.emit.ensures.call.emits
