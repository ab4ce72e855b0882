use Rattle.std.proofs.Common.{rules, ◌≡◌, ◌+◌, length, ◌∙◌, ap, subst, sym, arith}
use Rattle.sasi_host.specs.declared.name.FileName.{FileName}
use Rattle.sasi_host.specs.Disk.{Same}
use Rattle.sasi_host.specs.Damages.{DamageShown, ShowsEnd, TellsSize}
use Rattle.sasi_host.specs.Buffered.{Buffered}
use Rattle.sasi_host.proofs.ChangeLaws.{then_same}
use Rattle.sasi_host.proofs.FailingLaws.{failed_behind}
use Rattle.sasi_host.proofs.DamageLaws.{shown_before, end_shown}
use Rattle.sasi_host.proofs.Pages.{page_gives, page_long, reads_on}
use Rattle.sasi_host.proofs.buffered.BufferedFile.read_part.Goals as goal

pub returns-in_default-clause-damaged : goal.returns-in_default-clause-damaged
returns-in_default-clause-damaged g c =
    let v = g.H.Host.view c.args.host.now in
    let end = c.args.at + length c.args.out.now in
    let file : c.self.inside.file ≡ c.load_page.new.self.file = ap (λ (h : Buffered). h.file) c.self.view_is in
    let told = shown_before (TellsSize c.self.inside.file) v _ c.self.inside.file c.unexpected_end.result c.load_page.ensures.changes c.unexpected_end.ensures.damaged in
    subst (λ (f : FileName). DamageShown v f (ShowsEnd end f) c.unexpected_end.result) (file ∙ c.load_page.ensures.file)
    (end_shown v c.self.inside.file end c.unexpected_end.result
    (λ bytes is. let long = page_long bytes c.load_page.new.self.bytes c.args.at
    (c.load_page.ensures.buffered _ bytes c.in_ok-load_page.ensures.page (reads_on v _ c.self.inside.file _ bytes c.load_page.ensures.changes (sym file) is))
    in omega (arith, long, c.in_default.ensures.none))
    told)

pub returns-in_default-clause-changes : goal.returns-in_default-clause-changes
returns-in_default-clause-changes g c = then_same _ _ _ Same c.load_page.ensures.changes c.unexpected_end.ensures.changes

pub returns-clause-ok : goal.returns-clause-ok
returns-clause-ok g c bytes is =
    c.copy_from_slice.ensures.after ∙ c.in-Some.ensures.some
    ∙ page_gives bytes c.load_page.new.self.bytes c.args.at (length c.args.out.now)
    (c.load_page.ensures.buffered _ bytes c.in_ok-load_page.ensures.page
    (reads_on _ _ c.args.self.now.file _ bytes c.load_page.ensures.changes c.load_page.ensures.file is)) c.requires.one_page

pub returns-clause-within : goal.returns-clause-within
returns-clause-within g c bytes is =
    let long = page_long bytes c.load_page.new.self.bytes c.args.at
    (c.load_page.ensures.buffered _ bytes c.in_ok-load_page.ensures.page
    (reads_on _ _ c.args.self.now.file _ bytes c.load_page.ensures.changes c.load_page.ensures.file is)) in
    omega (arith, long, c.in-Some.ensures.within)

pub returns-in_default-clause-causes : goal.returns-in_default-clause-causes
returns-in_default-clause-causes g c =
    let load = c.in_ok-load_page.ensures.causes in
    let end = c.unexpected_end.ensures in
    record {
      disk = omega (arith, load.disk, end.disk);
      out = end.out ∙ load.out;
      reads = search rules;
      ok = tt;
      failed = λ is. failed_behind _ _ _ _ load.ok (end.failed is);
      memory = λ is. absurd (end.memory is);
      damaged = λ damage is. end.told damage is ∙ load.ok;
    }
