use Rattle.std.proofs.Common.{◌≡◌, ◌+◌, ◌-◌, ◌<◌, ℕ, [], arith, refl, subst}
use Rattle.std.proofs.lemmas.Result.{err_from_is_err_and}
use Rattle.sasi_host.specs.declared.name.FileName.{FileName}
use Rattle.sasi_host.proofs.PageReadingLaws.{reads_nothing, reads_then}
use Rattle.sasi_termblocks.specs.Damages.{BreaksPointers, Leads, LeadsFor, ShowsBlock}
use Rattle.sasi_termblocks.specs.Damages.LeadsFor.{from_top}
use Rattle.sasi_termblocks.specs.Descents.{IsPageFor, high_page, low_page}
use Rattle.sasi_termblocks.proofs.Descent.{costs_more, high_is, low_is, still_reads, top_for, top_leads, top_low}
use Rattle.sasi_termblocks.proofs.Shown.{pointers_shown, shown_still}
use Rattle.sasi_termblocks.proofs.seek.leaf_page.Goals as goal

pub loop-passed-init : goal.loop-passed-init
loop-passed-init g c =
    let r = c.args.blocks in
    record {
      read = reads_nothing _ _ _ _ c.requires.read.agrees c.requires.read.buffered;
      costs = record { disk = omega arith; out = refl; reads = omega arith; ok = refl; failed = tt; memory = tt; damaged = tt };
      page_for = λ bytes entries is has. top_for bytes r c.top_page-page.result c.top_page-page.ensures entries (r.levels - 0) c.args.sought.now has (omega arith) c.requires.some;
      leads = λ bytes is some. top_leads bytes r c.top_page-page.result c.top_page-page.ensures (r.levels - 0) (omega arith) some;
      led = λ bytes is. from_top (r.levels - 0) c.top_page-page.result c.requires.some (omega arith) c.top_page-page.ensures;
      low = λ none. omega (arith, top_low [] r c.top_page-page.result c.top_page-page.ensures (omega (arith, none)));
      high = λ none. omega (arith, c.requires.some, top_low [] r c.top_page-page.result c.top_page-page.ensures (omega (arith, none)));
    }

pub returns-in_err-page-clause-damaged : goal.returns-in_err-page-clause-damaged
returns-in_err-page-clause-damaged g c =
    let p = err_from_is_err_and c.from_residual.result c.from_residual.ensures.1 in
    let r = c.args.blocks in
    let level = r.levels - c.loop-passed.passed in
    let page = c.loop-passed.page in
    let v = g.H.Host.view c.args.host.now in
    let before = c.loop-passed.invariant in
    let some : 0 < level = omega arith in
    rw p.1 (λ form. rw p.2 (pointers_shown v c.args.buffered.now.file r form level page c.in_err-page.field-0.0 some (λ bytes is. before.leads bytes is some)
    (shown_still (λ (n : FileName). ShowsBlock (BreaksPointers (low_page r level) (high_page r level page)) n page) v _ c.args.buffered.now.file c.loop-passed.buffered.file c.in_err-page.field-0.0
    before.read.changes before.read.file c.in_err-page.ensures.damaged)))

pub returns-in_err-page-clause-read : goal.returns-in_err-page-clause-read
returns-in_err-page-clause-read g c = reads_then _ _ _ _ _ _ _ _ _ _ _ c.loop-passed.invariant.read c.child_page.ensures.read

pub loop-passed-preserved : goal.loop-passed-preserved
loop-passed-preserved g c =
    let r = c.args.blocks in
    let level = r.levels - c.loop-passed.passed in
    let page = c.loop-passed.page in
    let v = g.H.Host.view c.args.host.now in
    let before = c.loop-passed.invariant in
    let down : level - 1 ≡ r.levels - (c.loop-passed.passed + 1) = omega arith in
    let child = c.in_ok-page.ensures in
    record {
      read = reads_then _ _ _ _ _ _ _ _ _ _ _ before.read c.child_page.ensures.read;
      costs = costs_more _ _ _ c.loop-passed.passed (c.loop-passed.passed + 1) _ refl before.costs child.causes;
      page_for = λ bytes entries is has. subst (λ (n : ℕ). IsPageFor r.first entries n c.args.sought.now c.in_ok-page.page) down
          (child.ok bytes entries (still_reads v _ c.args.buffered.now.file c.loop-passed.buffered.file bytes before.read.changes before.read.file is) has (omega arith) (before.page_for bytes entries is has));
      leads = λ bytes is some. subst (λ (n : ℕ). Leads bytes r n c.in_ok-page.page) down
          (child.leads bytes (still_reads v _ c.args.buffered.now.file c.loop-passed.buffered.file bytes before.read.changes before.read.file is) (before.leads bytes is (omega (arith, some))));
      led = λ bytes is. subst (λ (n : ℕ). LeadsFor bytes r c.args.sought.now n c.in_ok-page.page) down
          (child.led bytes (still_reads v _ c.args.buffered.now.file c.loop-passed.buffered.file bytes before.read.changes before.read.file is) (before.led bytes is));
      low = λ none. omega (arith, child.below, low_is r level (omega (arith, none, down)));
      high = λ none. omega (arith, child.within, high_is r level page (omega (arith, none, down)));
    }

pub returns-clause-ok : goal.returns-clause-ok
returns-clause-ok g c bytes entries is has =
    let none : c.args.blocks.levels - c.loop-passed.passed ≡ 0 = omega arith in
    subst (λ (n : ℕ). IsPageFor c.args.blocks.first entries n c.args.sought.now c.loop-passed.page) none (c.loop-passed.invariant.page_for bytes entries is has)

pub returns-clause-led : goal.returns-clause-led
returns-clause-led g c bytes is =
    let none : c.args.blocks.levels - c.loop-passed.passed ≡ 0 = omega arith in
    subst (λ (n : ℕ). LeadsFor bytes c.args.blocks c.args.sought.now n c.loop-passed.page) none (c.loop-passed.invariant.led bytes is)
