use Rattle.std.proofs.Common.{Err, sym, ap, ◌∙◌}
use Rattle.sasi_model.specs.Parsers.{Parses, FailsAt}
use Rattle.sasi_model.specs.Refusals.{Bad}
use Rattle.sasi_model.specs.Abbreviations.{NotUtf8}
use Rattle.sasi_machine.proofs.WholePieces.{read_bytes, read_text}
use Rattle.sasi_machine.proofs.read.read_whole.Goals as goal

pub returns-in-Err-clause-reads : goal.returns-in-Err-clause-reads
returns-in-Err-clause-reads c =
    ap (λ offset. Bad (NotUtf8 offset)) (c.valid_up_to.ensures ∙ c.in-Err.ensures.valid_len)
    ∙ read_bytes c.args.piece.now (rw c.as_slice.ensures at (sym c.eq.ensures ∙ c.if-eq.false)) c.in-Err.ensures.cases.0

pub returns-in-Ok-parse-clause-reads : goal.returns-in-Ok-parse-clause-reads
returns-in-Ok-parse-clause-reads c =
    c.built.ensures.reads
    ∙ read_text c.args.piece.now (Parses c.in-Ok-parse.statement)
    (rw c.as_slice.ensures at (sym c.eq.ensures ∙ c.if-eq.false)) c.in-Ok.ensures.cases.1
    (rw c.in-Ok.ensures.cases.0 at c.in-Ok-parse.ensures.statement)

pub returns-in-Ok-parse-clause-written : goal.returns-in-Ok-parse-clause-written
returns-in-Ok-parse-clause-written c = c.built.ensures.written c.in-Ok-parse.ensures.written

pub returns-in-Err-Syntax-clause-reads : goal.returns-in-Err-Syntax-clause-reads
returns-in-Err-Syntax-clause-reads c =
    read_text c.args.piece.now (FailsAt c.in-Err-Syntax.at) (rw c.as_slice.ensures at (sym c.eq.ensures ∙ c.if-eq.false)) c.in-Ok.ensures.cases.1
    (rw c.in-Ok.ensures.cases.0 at (c.in-Err-Syntax.ensures.fails c.in-Err-Syntax.at (ap Err c.in-Err-Syntax.field-0-is)))
