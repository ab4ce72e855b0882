use Rattle.std.proofs.Common.{ap, subst, ◌∙◌}
use Rattle.std.proofs.lemmas.Result.{err_from_is_err_and}
use Rattle.sasi_host.specs.Damages.{DamageShown}
use Rattle.sasi_host.specs.View.{contents_in}
use Rattle.sasi_host.specs.declared.name.FileName.{FileName}
use Rattle.sasi_dataread.specs.Damages.{ShowsHeaderOrFooter}
use Rattle.sasi_dataread.specs.Scans.{DataScan}
use Rattle.sasi_scan.proofs.Steps.{opened_file, opening_shown}
use Rattle.sasi_scan.proofs.sources.open_file.Goals as goal

pub returns-in_err-opened-clause-damaged : goal.returns-in_err-opened-clause-damaged
returns-in_err-opened-clause-damaged g c =
    let v = g.H.Host.view c.args.host.now in
    let p = err_from_is_err_and c.from_residual.result c.from_residual.ensures.1 in
    rw (p.1, p.2) (opening_shown v c.args.types.now c.args.file.now c.in_err-opened.field-0.0
    (subst (λ (n : FileName). DamageShown v n (ShowsHeaderOrFooter n) c.in_err-opened.field-0.0) c.data-name.ensures c.in_err-opened.ensures.damaged))

pub returns-clause-opened : goal.returns-clause-opened
returns-clause-opened g c =
    let v = g.H.Host.view c.args.host.now in
    let named = ap (λ (n : FileName). contents_in v.files n) c.data-name.ensures in
    opened_file v c.args.types.now c.args.tokens c.args.file.now c.in_ok-opened.opened c.with_tokens.result c.in_ok-opened.ensures.some c.requires (c.in_ok-opened.ensures.file ∙ c.data-name.ensures) c.in_ok-opened.ensures.types
    (λ bytes p content reads data_file. c.in_ok-opened.ensures.ok bytes p content (named ∙ reads) data_file)
    (λ bytes reads. c.in_ok-opened.ensures.header_and_footer bytes (named ∙ reads)) (c.with_tokens.ensures ∙ ap under c.in_ok-scan.ensures)
  where
    under : DataScan → DataScan
    under s = record { opened = s.opened; tokens = c.args.tokens; passed = s.passed; pairs_buffered = s.pairs_buffered; buffered = s.buffered; last_pair = s.last_pair; last = s.last }
