use Rattle.std.proofs.Common.{Err, suc, ◌≡◌, ◌+◌, ◌-◌, ◌/◌, ℕ, Some, length, take, drop, refl, inl, inr, ⊎_elim, sym, ◌∙◌, ap, arith}
use Rattle.std.proofs.lemmas.List.{take_all}
use Rattle.std.proofs.lemmas.Result.{err_from_is_err_and}
use Rattle.sasi_host.specs.Disk.{Same}
use Rattle.sasi_host.proofs.ChangeLaws.{stays, then_same}
use Rattle.sasi_host.proofs.CauseLaws.{reads_behind}
use Rattle.sasi_host.specs.Buffered.{reached}
use Rattle.sasi_host.proofs.SequentialLaws.{begins_known, begins_later, page_within}
use Rattle.sasi_host.proofs.Pages.{ends_within, no_further_here, part_reaches, part_long, part_more, spend_on, spend_first, spend_none, reads_on, there_on, end_before}
use Rattle.sasi_host.proofs.buffered.BufferedFile.read_into.Goals as goal

pub loop-filled-init : goal.loop-filled-init
loop-filled-init g c = record {
  there = c.requires.there;
  agrees = c.requires.agrees;
  covers = λ name is. inl is;
  buffered = c.requires.buffered;
  file = refl;
  page = λ some. absurd (omega arith);
  changes = stays (g.H.Host.view c.args.host.now);
  disk = refl;
  out = refl;
  reads = omega (arith, spend_none c.args.self.now.page c.args.at (length c.args.out.now));
  is = λ bytes is. refl;
  within = λ bytes is some. absurd (omega arith);
  filled = omega arith;
  begins = λ begins. begins_later c.args.self.now.page c.args.at (c.args.at + 0) (omega arith) begins;
  once = λ begins. omega arith;
}

pub returns-in_err-read_part-clause-damaged : goal.returns-in_err-read_part-clause-damaged
returns-in_err-read_part-clause-damaged g c =
    let here = c.loop-filled.invariant in
    let filled = c.loop-filled.filled in
    let wide = part_long c.loop-filled.out filled c.min-part.result (omega arith) in
    let p = err_from_is_err_and c.from_residual.result c.from_residual.ensures.1 in
    rw (p.1, p.2) (end_before (g.H.Host.view c.args.host.now) _ c.args.self.now.file c.loop-filled.self.file _ _ c.in_err-read_part.field-0.0
    here.changes here.file (omega (arith, wide)) c.in_err-read_part.ensures.damaged)

pub returns-in_err-read_part-clause-changes : goal.returns-in_err-read_part-clause-changes
returns-in_err-read_part-clause-changes g c = then_same _ _ _ Same c.loop-filled.invariant.changes c.read_part.ensures.changes

pub returns-in_err-read_part-clause-causes : goal.returns-in_err-read_part-clause-causes
returns-in_err-read_part-clause-causes g c =
    let here = c.loop-filled.invariant in
    let filled = c.loop-filled.filled in
    let wide = part_long c.loop-filled.out filled c.min-part.result (omega arith) in
    let first = spend_first c.loop-filled.self.page (c.args.at + filled) c.min-part.result (length c.args.out.now - filled) _ (omega arith) (omega arith) wide in
    let p = err_from_is_err_and c.from_residual.result c.from_residual.ensures.1 in
    rw (p.1, p.2) (reads_behind (g.H.Host.view c.args.host.now) (g.H.Host.view c.loop-filled.host)
    (g.H.Host.view c.read_part.new.host) _ _ (Err c.in_err-read_part.field-0.0) here.disk here.out
    (omega (arith, here.reads, first)) c.in_err-read_part.ensures.causes)

pub loop-filled-preserved : goal.loop-filled-preserved
loop-filled-preserved g c =
    let here = c.loop-filled.invariant in
    let filled = c.loop-filled.filled in
    let part = c.min-part.result in
    let wide = part_long c.loop-filled.out filled part (omega arith) in
    record {
      there = there_on _ _ c.loop-filled.self.file _ c.read_part.ensures.changes c.read_part.ensures.file here.there;
      agrees = c.read_part.ensures.agrees;
      covers = λ name is. ⊎_elim (here.covers name) (λ same. inr (same ∙ here.file)) (c.read_part.ensures.covers name is);
      buffered = c.read_part.ensures.buffered;
      file = c.read_part.ensures.file ∙ here.file;
      page = λ more. c.in_ok-read_part.ensures.page ∙ ap (λ (n : ℕ). Some n) (omega arith);
      changes = then_same _ _ _ Same here.changes c.read_part.ensures.changes;
      disk = c.in_ok-read_part.ensures.causes.ok ∙ here.disk;
      out = c.read_part.ensures.causes.out ∙ here.out;
      reads =
          spend_on c.loop-filled.self.page _ c.args.at filled part (length c.args.out.now) _ _ _ _ _ c.in_ok-read_part.ensures.page (omega arith)
          (omega arith) wide here.reads c.read_part.ensures.causes.reads;
      is = λ bytes is. part_more bytes c.loop-filled.out c.read_part.new.out c.args.at filled _ _ (filled + part) (here.is bytes is) (omega arith)
          (c.in_ok-read_part.ensures.ok bytes (reads_on _ _ c.args.self.now.file _ bytes here.changes here.file is)) (omega (arith, wide))
          (omega (arith, wide));
      within = λ bytes is more. let le = c.in_ok-read_part.ensures.within bytes (reads_on _ _ c.args.self.now.file _ bytes here.changes here.file is) in omega (arith, le, wide);
      filled = omega arith;
      begins = λ begins. begins_known c.read_part.new.self.page ((c.args.at + filled) / 4096) (c.args.at + (filled + part)) c.in_ok-read_part.ensures.page (omega arith);
      once = λ begins.
          let now : reached c.read_part.new.self.page ≡ suc ((c.args.at + filled) / 4096) = ap reached c.in_ok-read_part.ensures.page in
          let more = part_reaches c.loop-filled.self.page (c.args.at + filled) part (length c.args.out.now - filled) _ _ _ (omega arith) (omega arith) wide (here.begins begins) c.read_part.ensures.causes.reads in
          omega (arith, now, more, here.once begins);
    }

pub returns-in_err-read_part-clause-no_further : goal.returns-in_err-read_part-clause-no_further
returns-in_err-read_part-clause-no_further g c begins bytes is le =
    let here = c.loop-filled.invariant in
    let filled = c.loop-filled.filled in
    let wide = part_long c.loop-filled.out filled c.min-part.result (omega arith) in
    let more = part_reaches c.loop-filled.self.page (c.args.at + filled) c.min-part.result (length c.args.out.now - filled) _ _ _ (omega arith) (omega arith) wide (here.begins begins) c.read_part.ensures.causes.reads in
    no_further_here bytes c.args.at filled _ _ _ _ _ le (here.within bytes is) (here.once begins) more

pub returns-clause-no_further : goal.returns-clause-no_further
returns-clause-no_further g c begins bytes is le =
    let here = c.loop-filled.invariant in
    let ends = ends_within bytes c.args.at c.loop-filled.filled le (here.within bytes is) in
    let page = page_within c.loop-filled.self.page (c.args.at + c.loop-filled.filled) bytes (here.begins begins) ends in
    omega (arith, page, here.once begins)

pub returns-clause-ok : goal.returns-clause-ok
returns-clause-ok g c bytes is =
    let all : c.loop-filled.filled ≡ length c.args.out.now = omega arith in
    sym (take_all c.loop-filled.filled c.loop-filled.out (omega arith)) ∙ c.loop-filled.invariant.is bytes is ∙ ap (λ (n : ℕ). take n (drop c.args.at bytes)) all

pub returns-clause-page : goal.returns-clause-page
returns-clause-page g c some =
    let all : c.loop-filled.filled ≡ length c.args.out.now = omega arith in
    c.loop-filled.invariant.page (omega arith) ∙ ap (λ (n : ℕ). Some ((c.args.at + n - 1) / 4096)) all
