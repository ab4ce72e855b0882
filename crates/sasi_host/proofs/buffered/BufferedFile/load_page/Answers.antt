use Rattle.std.proofs.Common.{◌≡◌, ◌*◌, ℕ, take, drop, sym, ◌∙◌, ap}
use Rattle.sasi_host.proofs.ContentLaws.{contents_same}
use Rattle.sasi_host.proofs.ChangeLaws.{stays}
use Rattle.sasi_host.proofs.Pages.{page_read}
use Rattle.sasi_host.proofs.buffered.BufferedFile.load_page.Goals as goal

pub returns-then-eq-clause-changes : goal.returns-then-eq-clause-changes
returns-then-eq-clause-changes g c = stays (g.H.Host.view c.args.host.now)

pub returns-clause-buffered : goal.returns-clause-buffered
returns-clause-buffered g c page bytes this is =
    let same : c.args.page ≡ page = cc in
    let fills = c.in_ok-self-inside.ensures.ok bytes (sym (contents_same _ _ c.self.inside.file c.page.ensures.changes) ∙ is) in
    page_read bytes c.self.inside.bytes c.page.new.out c.args.page c.in_ok-self-inside.field-0 c.self.told fills ∙ ap (λ (n : ℕ). take 4096 (drop (4096 * n) bytes)) same
