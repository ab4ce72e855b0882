use Rattle.std.proofs.Common.{ℕ, ◌+◌, ◌-◌, ◌≤◌, length, ◌∙◌, ap, subst, arith, Option, None, inl, inr, ⊎_elim}
use Rattle.std.proofs.lemmas.Result.{err_from_is_err_and}
use Rattle.sasi_host.specs.Buffered.{Buffered, unbuffered_pages}
use Rattle.sasi_host.specs.Disk.{Same}
use Rattle.sasi_host.proofs.ChangeLaws.{then_same}
use Rattle.sasi_host.proofs.ContentLaws.{contents_same}
use Rattle.sasi_host.specs.Damages.{DamageShown, ShowsEnd}
use Rattle.sasi_host.specs.View.{contents}
use Rattle.sasi_host.specs.declared.name.FileName.{FileName}
use Rattle.sasi_host.proofs.DamageLaws.{end_later, shown_as, shown_before}
use Rattle.sasi_host.proofs.Offsets.{window_at}
use Rattle.sasi_framing.proofs.Costs.{both_within, header_within}
use Rattle.sasi_framing.proofs.read.read_header_and_footer.Goals as goal

pub returns-in_err-read_into-clause-damaged : goal.returns-in_err-read_into-clause-damaged
returns-in_err-read_into-clause-damaged g c =
    let p = err_from_is_err_and c.from_residual-in_err-read_into.result c.from_residual-in_err-read_into.ensures.1 in
    let v = g.H.Host.view c.args.host.now in
    let w = g.H.Host.view c.size_of.new.host in
    let near = 0 + length c.args.header.now in
    let fault = c.in_err-read_into.field-0.0 in
    rw (p.1, p.2) (end_later v c.args.file near c.args.least fault (omega (arith, c.requires.header)) (shown_before _ v w c.args.file fault c.size_of.ensures.changes
    (subst (λ (n : FileName). DamageShown w n (ShowsEnd near n) fault) (ap (λ (h : Buffered). h.file) c.new-buffered.ensures) c.in_err-read_into.ensures.damaged)))

pub returns-in_err-read_into-clause-read : goal.returns-in_err-read_into-clause-read
returns-in_err-read_into-clause-read g c = record {
  agrees = c.read_into.ensures.agrees;
  covers = λ name at. ⊎_elim (λ before. inl before) (λ this. inr (this ∙ ap (λ (h : Buffered). h.file) c.new-buffered.ensures)) (c.read_into.ensures.covers name at);
  changes = then_same _ _ _ Same c.size_of.ensures.changes c.read_into.ensures.changes;
}

pub returns-in_err-read_into-clause-reads : goal.returns-in_err-read_into-clause-reads
returns-in_err-read_into-clause-reads g c bytes is =
    let size = c.in_ok-size.ensures.ok bytes is in
    let w = g.H.Host.view c.size_of.new.host in
    let u = g.H.Host.view c.read_into.new.host in
    let head = length c.args.header.now in
    let first : u.reads ≤ w.reads + unbuffered_pages None 0 head = subst (λ (page : Option ℕ). u.reads ≤ w.reads + unbuffered_pages page 0 head) (ap (λ (h : Buffered). h.page) c.new-buffered.ensures) c.read_into.ensures.causes.reads in
    header_within head (length bytes) (g.H.Host.view c.args.host.now).reads u.reads c.requires.first_page (omega (arith, size, c.in_ok-size.ensures.least, c.requires.header)) (omega (arith, c.size_of.ensures.causes.reads, first))

pub returns-in_err-read_end-clause-damaged : goal.returns-in_err-read_end-clause-damaged
returns-in_err-read_end-clause-damaged g c =
    let p = err_from_is_err_and c.from_residual-in_err-read_end.result c.from_residual-in_err-read_end.ensures.1 in
    let v = g.H.Host.view c.args.host.now in
    let u = g.H.Host.view c.read_into.new.host in
    let size = c.in_ok-size.size in
    let fault = c.in_err-read_end.field-0.0 in
    let named = c.read_into.ensures.file ∙ ap (λ (h : Buffered). h.file) c.new-buffered.ensures in
    rw (p.1, p.2) (shown_as (ShowsEnd size c.args.file) (ShowsEnd c.args.least c.args.file) v c.args.file fault
    (λ bytes damage is ends. absurd (omega (arith, ends.short, c.in_ok-size.ensures.ok bytes is)))
    (shown_before _ v u c.args.file fault (then_same _ _ _ Same c.size_of.ensures.changes c.read_into.ensures.changes)
    (subst (λ (n : FileName). DamageShown u n (ShowsEnd size n) fault) named c.in_err-read_end.ensures.damaged)))

pub returns-in_err-read_end-clause-read : goal.returns-in_err-read_end-clause-read
returns-in_err-read_end-clause-read g c =
    let first = ap (λ (h : Buffered). h.file) c.new-buffered.ensures in
    record {
      agrees = c.read_end.ensures.read.agrees;
      covers = λ name at. ⊎_elim (λ before. ⊎_elim (λ old. inl old) (λ this. inr (this ∙ first)) (c.read_into.ensures.covers name before)) (λ this. inr (this ∙ c.read_into.ensures.file ∙ first)) (c.read_end.ensures.read.covers name at);
      changes = then_same _ _ _ Same c.size_of.ensures.changes (then_same _ _ _ Same c.read_into.ensures.changes c.read_end.ensures.read.changes);
    }

pub returns-in_err-read_end-clause-reads : goal.returns-in_err-read_end-clause-reads
returns-in_err-read_end-clause-reads g c bytes is =
    let size = c.in_ok-size.ensures.ok bytes is in
    let least = c.in_ok-size.ensures.least in
    let w = g.H.Host.view c.size_of.new.host in
    let u = g.H.Host.view c.read_into.new.host in
    let now = (g.H.Host.view c.read_end.new.host).reads in
    let head = length c.args.header.now in
    let foot = length c.args.footer.now in
    let first : u.reads ≤ w.reads + unbuffered_pages None 0 head = subst (λ (page : Option ℕ). u.reads ≤ w.reads + unbuffered_pages page 0 head) (ap (λ (h : Buffered). h.page) c.new-buffered.ensures) c.read_into.ensures.causes.reads in
    both_within c.read_into.new.self.page head foot (length bytes) (g.H.Host.view c.args.host.now).reads u.reads now c.requires.first_page c.requires.last_page
    (omega (arith, size, least, c.requires.header)) (omega (arith, size, least, c.requires.footer)) c.in_ok-read_into.ensures.page (omega (arith, c.size_of.ensures.causes.reads, first))
    (subst (λ (n : ℕ). now ≤ u.reads + unbuffered_pages c.read_into.new.self.page (n - foot) foot) size c.read_end.ensures.causes.reads)

pub returns-clause-ok : goal.returns-clause-ok
returns-clause-ok g c bytes is =
    let w = g.H.Host.view c.size_of.new.host in
    let u = g.H.Host.view c.read_into.new.host in
    let named = ap (λ (h : Buffered). h.file) c.new-buffered.ensures in
    let size = c.in_ok-size.ensures.ok bytes is in
    let still = ap (λ (n : FileName). contents w n) named ∙ contents_same _ _ c.args.file c.size_of.ensures.changes ∙ is in
    let later = ap (λ (n : FileName). contents u n) (c.read_into.ensures.file ∙ named)
    ∙ contents_same _ _ c.args.file (then_same _ _ _ Same c.size_of.ensures.changes c.read_into.ensures.changes) ∙ is
    in
    record {
      begins = window_at bytes c.read_into.new.out 0 (length c.args.header.now) (c.in_ok-read_into.ensures.ok bytes still) (omega (arith, size, c.in_ok-size.ensures.least, c.requires.header));
      end = c.in_ok-read_end.ensures.ok bytes later size;
    }

pub returns-clause-read : goal.returns-clause-read
returns-clause-read g c =
    let first = ap (λ (h : Buffered). h.file) c.new-buffered.ensures in
    record {
      agrees = c.read_end.ensures.read.agrees;
      covers = λ name at. ⊎_elim (λ before. ⊎_elim (λ old. inl old) (λ this. inr (this ∙ first)) (c.read_into.ensures.covers name before)) (λ this. inr (this ∙ c.read_into.ensures.file ∙ first)) (c.read_end.ensures.read.covers name at);
      changes = then_same _ _ _ Same c.size_of.ensures.changes (then_same _ _ _ Same c.read_into.ensures.changes c.read_end.ensures.read.changes);
    }

pub returns-clause-reads : goal.returns-clause-reads
returns-clause-reads g c bytes is =
    let size = c.in_ok-size.ensures.ok bytes is in
    let least = c.in_ok-size.ensures.least in
    let w = g.H.Host.view c.size_of.new.host in
    let u = g.H.Host.view c.read_into.new.host in
    let now = (g.H.Host.view c.read_end.new.host).reads in
    let head = length c.args.header.now in
    let foot = length c.args.footer.now in
    let first : u.reads ≤ w.reads + unbuffered_pages None 0 head = subst (λ (page : Option ℕ). u.reads ≤ w.reads + unbuffered_pages page 0 head) (ap (λ (h : Buffered). h.page) c.new-buffered.ensures) c.read_into.ensures.causes.reads in
    both_within c.read_into.new.self.page head foot (length bytes) (g.H.Host.view c.args.host.now).reads u.reads now c.requires.first_page c.requires.last_page
    (omega (arith, size, least, c.requires.header)) (omega (arith, size, least, c.requires.footer)) c.in_ok-read_into.ensures.page (omega (arith, c.size_of.ensures.causes.reads, first))
    (subst (λ (n : ℕ). now ≤ u.reads + unbuffered_pages c.read_into.new.self.page (n - foot) foot) size c.read_end.ensures.causes.reads)
