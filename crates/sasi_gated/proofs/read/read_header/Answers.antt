use Rattle.std.proofs.Common.{◌≡◌, ◌∙◌, ◌++◌, List, ℕ, subst}
use Rattle.std.proofs.lemmas.Result.{err_from_is_err_and}
use Rattle.sasi_host.specs.declared.name.FileName.{FileName}
use Rattle.sasi_host.proofs.Pages.{reads_on}
use Rattle.sasi_gated.specs.Format.{header}
use Rattle.sasi_gated.specs.Damages.{IsGatedDamage}
use Rattle.sasi_gated.proofs.Windows.{header_read, header_shows}
use Rattle.sasi_gated.proofs.read.read_header.Goals as goal

pub returns-in_err-check_page-clause-damaged : goal.returns-in_err-check_page-clause-damaged
returns-in_err-check_page-clause-damaged g c =
    let p = err_from_is_err_and c.from_residual-in_err-check_page.result c.from_residual-in_err-check_page.ensures.1 in
    rw (p.1, p.2) (λ bytes is.
    let named : c.file.result ≡ c.args.buffered.now.file = c.file.ensures ∙ c.load_page.ensures.file in
    let page = c.load_page.ensures.buffered 0 bytes c.in_ok-load_page.ensures.page (reads_on _ _ c.args.buffered.now.file _ bytes c.load_page.ensures.changes c.load_page.ensures.file is) in
    subst (λ (f : FileName). IsGatedDamage f bytes c.in_err-check_page.field-0.0) named
    (header_shows c.file.result bytes c.bytes_from.result.now c.in_err-check_page.field-0.0 (c.bytes_from.ensures ∙ page) c.in_err-check_page.ensures.damaged))

pub returns-clause-ok : goal.returns-clause-ok
returns-clause-ok g c bytes is =
    let named : c.file.result ≡ c.args.buffered.now.file = c.file.ensures ∙ c.load_page.ensures.file in
    let page = c.load_page.ensures.buffered 0 bytes c.in_ok-load_page.ensures.page (reads_on _ _ c.args.buffered.now.file _ bytes c.load_page.ensures.changes c.load_page.ensures.file is) in
    subst (λ (f : FileName). (rest : List ℕ) × (bytes ≡ header f ++ rest)) named
    (header_read c.file.result bytes c.bytes_from.result.now (c.bytes_from.ensures ∙ page) c.in_ok-check_page.ensures.ok)
