use Rattle.std.proofs.Common.{arith}
use Rattle.std.proofs.lemmas.Result.{err_from_is_err_and}
use Rattle.sasi_host.proofs.PageReadingLaws.{reads_nothing}
use Rattle.sasi_termblocks.proofs.Shown.{behind_shown}
use Rattle.sasi_termblocks.proofs.scan.check_end.Goals as goal

pub returns-then-blocks-eq0-clause-ok : goal.returns-then-blocks-eq0-clause-ok
returns-then-blocks-eq0-clause-ok g c bytes is some = absurd (omega (arith, some))

pub returns-then-blocks-eq0-clause-read : goal.returns-then-blocks-eq0-clause-read
returns-then-blocks-eq0-clause-read g c = reads_nothing _ _ _ _ c.requires.read.agrees c.requires.read.buffered

pub returns-in_err-check_pointer_block-clause-damaged : goal.returns-in_err-check_pointer_block-clause-damaged
returns-in_err-check_pointer_block-clause-damaged g c =
    let p = err_from_is_err_and c.from_residual.result c.from_residual.ensures.1 in
    rw p.1 (λ form. rw p.2 (behind_shown (g.H.Host.view c.args.host.now) c.args.buffered.now.file c.args.blocks form c.in_err-check_pointer_block.field-0.0 (omega arith) c.in_err-check_pointer_block.ensures.damaged))

pub returns-clause-ok : goal.returns-clause-ok
returns-clause-ok g c bytes is some = c.in_ok-check_pointer_block.ensures.ok bytes is
