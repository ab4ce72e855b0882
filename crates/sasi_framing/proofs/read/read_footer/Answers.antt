use Rattle.std.proofs.Common.{◌∙◌, ap, subst, arith}
use Rattle.std.proofs.lemmas.Result.{err_from_is_err_and}
use Rattle.sasi_host.proofs.ChangeLaws.{then_same}
use Rattle.sasi_host.proofs.ContentLaws.{contents_same}
use Rattle.sasi_host.specs.Damages.{DamageShown, ShowsEnd}
use Rattle.sasi_host.specs.Disk.{Same}
use Rattle.sasi_host.specs.View.{contents}
use Rattle.sasi_host.specs.declared.name.FileName.{FileName}
use Rattle.sasi_host.proofs.DamageLaws.{shown_as, shown_before}
use Rattle.sasi_framing.proofs.read.read_footer.Goals as goal

pub returns-in_err-size-clause-damaged : goal.returns-in_err-size-clause-damaged
returns-in_err-size-clause-damaged g c =
    let p = err_from_is_err_and c.from_residual.result c.from_residual.ensures.1 in
    let v = g.H.Host.view c.args.host.now in
    rw (p.1, p.2) (subst (λ (n : FileName). DamageShown v n (ShowsEnd c.args.least n) c.in_err-size.field-0.0) c.file-file.ensures c.in_err-size.ensures.damaged)

pub returns-in_err-read_end-clause-damaged : goal.returns-in_err-read_end-clause-damaged
returns-in_err-read_end-clause-damaged g c =
    let p = err_from_is_err_and c.from_residual-in_err-read_end.result c.from_residual-in_err-read_end.ensures.1 in
    let v = g.H.Host.view c.args.host.now in
    let file = c.args.buffered.now.file in
    rw (p.1, p.2) (shown_as (ShowsEnd c.in_ok-size.size file) (ShowsEnd c.args.least file) v file c.in_err-read_end.field-0.0
    (λ bytes damage is ends. absurd (omega (arith, ends.short, c.in_ok-size.ensures.ok bytes (ap (λ (n : FileName). contents v n) c.file-file.ensures ∙ is))))
    (shown_before _ v _ file c.in_err-read_end.field-0.0 c.size_of.ensures.changes c.in_err-read_end.ensures.damaged))

pub returns-in_err-read_end-clause-read : goal.returns-in_err-read_end-clause-read
returns-in_err-read_end-clause-read g c = record {
  agrees = c.read_end.ensures.read.agrees;
  covers = c.read_end.ensures.read.covers;
  changes = then_same _ _ _ Same c.size_of.ensures.changes c.read_end.ensures.read.changes;
  buffered = c.read_end.ensures.read.buffered;
  file = c.read_end.ensures.read.file;
}

pub returns-clause-ok : goal.returns-clause-ok
returns-clause-ok g c bytes is =
    c.in_ok-read_end.ensures.ok bytes (contents_same _ _ c.args.buffered.now.file c.size_of.ensures.changes ∙ is)
    (c.in_ok-size.ensures.ok bytes (ap (λ (n : FileName). contents (g.H.Host.view c.args.host.now) n) c.file-file.ensures ∙ is))

pub returns-clause-read : goal.returns-clause-read
returns-clause-read g c = record {
  agrees = c.read_end.ensures.read.agrees;
  covers = c.read_end.ensures.read.covers;
  changes = then_same _ _ _ Same c.size_of.ensures.changes c.read_end.ensures.read.changes;
  buffered = c.read_end.ensures.read.buffered;
  file = c.read_end.ensures.read.file;
}
