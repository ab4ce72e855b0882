use Rattle.std.proofs.Common.{Err, refl, ◌≡◌, ◌∙◌, ◌+◌, ℕ, ap, subst, arith, length, take, drop}
use Rattle.std.proofs.lemmas.Result.{err_from_is_err_and}
use Rattle.sasi_host.specs.declared.name.FileName.{FileName}
use Rattle.sasi_host.specs.Disk.{Same}
use Rattle.sasi_host.proofs.ContentLaws.{contents_same}
use Rattle.sasi_host.proofs.ChangeLaws.{stays, then_same}
use Rattle.sasi_host.proofs.SequentialLaws.{no_further, no_further_on, once_on, reaches_told, reads_none}
use Rattle.sasi_host.proofs.Pages.{reads_on, there_on}
use Rattle.sasi_gated.proofs.CauseLaws.{reading_behind, reading_handed}
use Rattle.sasi_gated.specs.Damages.{TellsSize}
use Rattle.sasi_gated.proofs.Costs.{once_to}
use Rattle.sasi_gated.proofs.Opens.{on_damage_weaker}
use Rattle.sasi_gated.proofs.Pieces.{piece_joins, piece_short}
use Rattle.sasi_gated.proofs.payload.read_payload.Goals as goal

pub loop-done-init : goal.loop-done-init
loop-done-init g c = record {
  below = omega arith;
  len = omega (arith, ap length c.requires.empty);
  there = c.requires.there;
  buffered = c.requires.buffered;
  file = refl;
  same = stays (g.H.Host.view c.args.host.now);
  disk = refl;
  out = refl;
  within = λ bytes is le. omega arith;
  taken = λ bytes is. c.requires.empty;
  once = λ begins reaches.
      once_to _ _ c.args.buffered.now.file c.args.buffered.now.page c.args.buffered.now.page c.args.at (c.args.at + 0) (omega arith)
      (reads_none (g.H.Host.view c.args.host.now) c.args.buffered.now.file c.args.buffered.now.page c.args.at begins reaches);
}

pub returns-in_err-done-clause-damaged : goal.returns-in_err-done-clause-damaged
returns-in_err-done-clause-damaged g c =
    let here = c.loop-done.invariant in
    let p = err_from_is_err_and c.from_residual.result c.from_residual.ensures.1 in
    rw (p.1, p.2) (on_damage_weaker _ _ c.in_err-done.field-0.0 (λ damage shows bytes is le.
    let now = reads_on _ _ c.args.buffered.now.file c.loop-done.buffered.file bytes here.same here.file is in
    let s = shows bytes now (here.within bytes is le) in (
      subst (λ (f : FileName). TellsSize f bytes damage) here.file s.0,
      piece_short bytes c.args.at c.loop-done.done c.args.count s.1 (omega arith),
    )) c.in_err-done.ensures.damaged)

pub returns-in_err-done-clause-file : goal.returns-in_err-done-clause-file
returns-in_err-done-clause-file g c = c.read_part.ensures.file ∙ c.loop-done.invariant.file

pub returns-in_err-done-clause-no_further : goal.returns-in_err-done-clause-no_further
returns-in_err-done-clause-no_further g c begins bytes is le =
    let here = c.loop-done.invariant in
    let file = c.args.buffered.now.file in
    let once = here.once begins (reaches_told (g.H.Host.view c.args.host.now) file c.args.at bytes is le) in
    no_further_on (g.H.Host.view c.args.host.now) (g.H.Host.view c.loop-done.host) (g.H.Host.view c.read_part.new.host) file c.loop-done.buffered.file
    c.args.buffered.now.page c.loop-done.buffered.page c.args.at (c.args.at + c.loop-done.done) here.file (contents_same _ _ file here.same) once
    (c.read_part.ensures.no_further once.sequential) bytes is le

pub returns-in_err-done-clause-changes : goal.returns-in_err-done-clause-changes
returns-in_err-done-clause-changes g c = then_same _ _ _ Same c.loop-done.invariant.same c.read_part.ensures.changes

pub returns-in_err-done-clause-causes : goal.returns-in_err-done-clause-causes
returns-in_err-done-clause-causes g c =
    let here = c.loop-done.invariant in
    let p = err_from_is_err_and c.from_residual.result c.from_residual.ensures.1 in
    let causes = c.in_err-done.ensures.causes in
    rw (p.1, p.2) (reading_handed _ _ c.in_err-done.field-0.0 (reading_behind _ _ _ (Err c.in_err-done.field-0.0) here.disk here.out causes))

pub loop-done-preserved : goal.loop-done-preserved
loop-done-preserved g c =
    let here = c.loop-done.invariant in
    let next = c.in_ok-done.ensures in
    let file = c.args.buffered.now.file in
    record {
      below = omega (arith, next.most);
      len = omega (arith, here.len, next.len);
      there = there_on _ _ c.loop-done.buffered.file _ c.read_part.ensures.changes c.read_part.ensures.file here.there;
      buffered = c.read_part.ensures.buffered;
      file = c.read_part.ensures.file ∙ here.file;
      same = then_same _ _ _ Same here.same c.read_part.ensures.changes;
      disk = next.causes.ok ∙ here.disk;
      out = next.causes.out ∙ here.out;
      within = λ bytes is le.
          let now = reads_on _ _ file c.loop-done.buffered.file bytes here.same here.file is in
          omega (arith, next.within bytes now);
      taken = λ bytes is.
          let now = reads_on _ _ file c.loop-done.buffered.file bytes here.same here.file is in
          piece_joins bytes c.loop-done.out.items c.read_part.new.out.items c.args.at c.loop-done.done c.in_ok-done.field-0
          (here.taken bytes is) (next.ok bytes now);
      once = λ begins reaches.
          let once = here.once begins reaches in
          once_to _ _ file c.args.buffered.now.page c.read_part.new.buffered.page (c.args.at + c.loop-done.done + c.in_ok-done.field-0)
          (c.args.at + (c.loop-done.done + c.in_ok-done.field-0)) (omega arith)
          (once_on _ _ _ file c.loop-done.buffered.file c.args.buffered.now.page c.loop-done.buffered.page c.read_part.new.buffered.page
          (c.args.at + c.loop-done.done) (c.args.at + c.loop-done.done + c.in_ok-done.field-0) here.file (contents_same _ _ file here.same) once
          (next.once once.sequential));
    }

pub returns-clause-ok : goal.returns-clause-ok
returns-clause-ok g c bytes is =
    let all : c.loop-done.done ≡ c.args.count = omega arith in
    c.loop-done.invariant.taken bytes is ∙ ap (λ (n : ℕ). take n (drop c.args.at bytes)) all

pub returns-clause-once : goal.returns-clause-once
returns-clause-once g c begins reaches =
    once_to _ _ c.args.buffered.now.file c.args.buffered.now.page c.loop-done.buffered.page (c.args.at + c.loop-done.done)
    (c.args.at + c.args.count) (omega arith) (c.loop-done.invariant.once begins reaches)

pub returns-clause-no_further : goal.returns-clause-no_further
returns-clause-no_further g c begins bytes is le =
    let once = c.loop-done.invariant.once begins (reaches_told (g.H.Host.view c.args.host.now) c.args.buffered.now.file c.args.at bytes is le) in
    no_further (g.H.Host.view c.args.host.now) (g.H.Host.view c.loop-done.host) c.args.buffered.now.file c.args.buffered.now.page
    c.loop-done.buffered.page c.args.at (c.args.at + c.loop-done.done) once bytes is le

pub returns-clause-causes : goal.returns-clause-causes
returns-clause-causes g c = record {
  disk = omega (arith, c.loop-done.invariant.disk);
  out = c.loop-done.invariant.out;
  ok = c.loop-done.invariant.disk;
  failed = tt;
  memory = tt;
  damaged = tt;
}
