use Rattle.std.proofs.Common.{take, refl, arith}
use Rattle.std.proofs.lemmas.Result.{err_from_is_err_and}
use Rattle.sasi_gated.proofs.Headers.{page_begins, page_breaks}
use Rattle.sasi_gated.proofs.header.check_page.Goals as goal

pub returns-in_err-check_header-clause-damaged : goal.returns-in_err-check_header-clause-damaged
returns-in_err-check_header-clause-damaged c =
    let p = err_from_is_err_and c.from_residual.result c.from_residual.ensures.1 in
    rw (p.1, p.2) (λ more all. page_breaks c.args.file c.args.page.now more (take 16 c.args.page.now) c.magic_of.result.now c.in_err-check_header.field-0.0 c.magic_of.ensures refl (omega arith) c.in_err-check_header.ensures.shown)

pub returns-clause-ok : goal.returns-clause-ok
returns-clause-ok c = page_begins c.args.file c.args.page.now (take 16 c.args.page.now) c.magic_of.result.now c.magic_of.ensures refl c.in_ok-check_header.ensures.is
