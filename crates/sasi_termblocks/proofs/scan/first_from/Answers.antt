use Rattle.std.proofs.Common.{◌/◌, arith, inl, subst}
use Rattle.std.proofs.lemmas.Result.{err_from_is_err_and}
use Rattle.sasi_host.specs.declared.name.FileName.{FileName}
use Rattle.sasi_host.specs.Damages.{DamageShown, TellsSize}
use Rattle.sasi_host.proofs.PageReadingLaws.{reads_nothing, reads_then}
use Rattle.sasi_termblocks.specs.Damages.{BreaksSplit, ShowsBlock, ShowsGiven}
use Rattle.sasi_termblocks.proofs.Descent.{still_reads}
use Rattle.sasi_termblocks.proofs.Shown.{ends_below, found_shown, shown_still, split_shown, too_long_shown}
use Rattle.sasi_termblocks.proofs.Steps.{here_some, no_entries}
use Rattle.sasi_termblocks.proofs.scan.first_from.Goals as goal

pub returns-then-is_too_long-clause-damaged : goal.returns-then-is_too_long-clause-damaged
returns-then-is_too_long-clause-damaged g c =
    let v = g.H.Host.view c.args.host.now in
    too_long_shown v c.args.buffered.now.file c.args.blocks c.args.form c.unexpected_end.result (λ bytes is. (g.met.H.Host.sound c.args.host.now).fits c.args.buffered.now.file bytes is)
    (c.is_too_long.ensures.long c.if-is_too_long.true) (subst (λ (n : FileName). DamageShown v n (TellsSize n) c.unexpected_end.result) c.file.ensures c.unexpected_end.ensures.damaged)

pub returns-then-blocks-eq0-clause-ok : goal.returns-then-blocks-eq0-clause-ok
returns-then-blocks-eq0-clause-ok g c bytes entries is has = no_entries bytes c.args.blocks entries c.args.sought.now has c.if-blocks-eq0.true

pub returns-then-blocks-eq0-clause-read : goal.returns-then-blocks-eq0-clause-read
returns-then-blocks-eq0-clause-read g c = reads_nothing _ _ _ _ c.requires.read.agrees c.requires.read.buffered

pub returns-in_err-page-clause-damaged : goal.returns-in_err-page-clause-damaged
returns-in_err-page-clause-damaged g c = let p = err_from_is_err_and c.from_residual.result c.from_residual.ensures.1 in rw (p.1, p.2) (c.in_err-page.ensures.damaged c.args.form)

pub returns-in_err-position-clause-damaged : goal.returns-in_err-position-clause-damaged
returns-in_err-position-clause-damaged g c =
    let p = err_from_is_err_and c.from_residual-in_err-position.result c.from_residual-in_err-position.ensures.1 in
    let v = g.H.Host.view c.args.host.now in
    let r = c.args.blocks in
    let page = c.in_ok-page.page in
    let sought = c.args.sought.now in
    rw (p.1, p.2) (split_shown v c.args.buffered.now.file r c.args.form sought page c.in_err-position.field-0.0 c.in_ok-page.ensures.low c.in_ok-page.ensures.high c.in_ok-page.ensures.led
    (shown_still (λ (n : FileName). ShowsBlock (BreaksSplit (r.first / 4096) page sought) n page) v _ c.args.buffered.now.file c.leaf_page.new.buffered.file c.in_err-position.field-0.0
    c.leaf_page.ensures.read.changes c.leaf_page.ensures.read.file c.in_err-position.ensures.damaged))

pub returns-in_err-position-clause-read : goal.returns-in_err-position-clause-read
returns-in_err-position-clause-read g c = reads_then _ _ _ _ _ _ _ _ _ _ _ c.leaf_page.ensures.read c.position_for.ensures.read

pub entry_from-requires-clause-low : goal.entry_from-requires-clause-low
entry_from-requires-clause-low g c = omega (arith, c.in_ok-page.ensures.low, c.in_ok-position.ensures.later)

pub returns-in_err-found-clause-damaged : goal.returns-in_err-found-clause-damaged
returns-in_err-found-clause-damaged g c =
    let p = err_from_is_err_and c.from_residual-in_err-found.result c.from_residual-in_err-found.ensures.1 in
    let v = g.H.Host.view c.args.host.now in
    let file = c.args.buffered.now.file in
    let here = c.in_ok-position.position in
    let shows = λ (n : FileName). ShowsGiven n c.args.blocks c.args.form here.page here.index c.args.sought.now in
    rw (p.1, p.2) (found_shown v file c.args.blocks c.args.form here.page here.index c.args.sought.now c.in_err-found.field-0.0
    (λ bytes is. c.in_ok-position.ensures.led bytes c.args.blocks (still_reads v _ file c.leaf_page.new.buffered.file bytes c.leaf_page.ensures.read.changes c.leaf_page.ensures.read.file is) (c.in_ok-page.ensures.led bytes is))
    (shown_still shows v _ file c.leaf_page.new.buffered.file c.in_err-found.field-0.0 c.leaf_page.ensures.read.changes c.leaf_page.ensures.read.file
    (shown_still shows _ _ c.leaf_page.new.buffered.file c.position_for.new.buffered.file c.in_err-found.field-0.0 c.position_for.ensures.read.changes c.position_for.ensures.read.file c.in_err-found.ensures.damaged)))

pub returns-in_err-found-clause-read : goal.returns-in_err-found-clause-read
returns-in_err-found-clause-read g c =
    reads_then _ _ _ _ _ _ _ _ _ _ _ c.leaf_page.ensures.read (reads_then _ _ _ _ _ _ _ _ _ _ _ c.position_for.ensures.read c.entry_from.ensures.read)

pub returns-clause-ok : goal.returns-clause-ok
returns-clause-ok g c bytes entries is has =
    let leaf = c.in_ok-page.ensures.ok bytes entries is has in
    let still = still_reads _ _ c.args.buffered.now.file _ bytes c.leaf_page.ensures.read.changes c.leaf_page.ensures.read.file is in
    let position = c.in_ok-position.ensures.ok bytes c.args.blocks entries still has leaf in
    let later = still_reads _ _ c.leaf_page.new.buffered.file _ bytes c.position_for.ensures.read.changes c.position_for.ensures.read.file still in
    (position.0, position.1, c.in_ok-found.ensures.ok bytes entries position.0 later has position.2)

pub returns-clause-stands : goal.returns-clause-stands
returns-clause-stands g c =
    let v = g.H.Host.view c.args.host.now in
    let w = g.H.Host.view c.leaf_page.new.host in
    let u = g.H.Host.view c.position_for.new.host in
    let file = c.args.buffered.now.file in
    here_some v u file c.position_for.new.buffered.file c.in_ok-position.position.page c.in_ok-position.position.index c.in_ok-found.found.position.page c.in_ok-found.found.position.index c.in_ok-found.found.entry
    (λ bytes is. still_reads w u c.leaf_page.new.buffered.file c.position_for.new.buffered.file bytes c.position_for.ensures.read.changes c.position_for.ensures.read.file
    (still_reads v w file c.leaf_page.new.buffered.file bytes c.leaf_page.ensures.read.changes c.leaf_page.ensures.read.file is))
    c.in_ok-found.ensures.stands

pub returns-clause-read : goal.returns-clause-read
returns-clause-read g c =
    reads_then _ _ _ _ _ _ _ _ _ _ _ c.leaf_page.ensures.read (reads_then _ _ _ _ _ _ _ _ _ _ _ c.position_for.ensures.read c.entry_from.ensures.read)

pub returns-then-blocks-eq0-clause-ends : goal.returns-then-blocks-eq0-clause-ends
returns-then-blocks-eq0-clause-ends g c = λ bytes is. inl c.if-blocks-eq0.true

pub returns-clause-ends : goal.returns-clause-ends
returns-clause-ends g c =
    let v = g.H.Host.view c.args.host.now in
    let w = g.H.Host.view c.leaf_page.new.host in
    let u = g.H.Host.view c.position_for.new.host in
    let file = c.args.buffered.now.file in
    let here = c.in_ok-position.position in
    ends_below v u file c.position_for.new.buffered.file c.args.blocks c.args.sought.now here.page here.index c.in_ok-found.found.position.page c.in_ok-found.found.position.index c.in_ok-found.found.entry
    (λ bytes is. still_reads w u c.leaf_page.new.buffered.file c.position_for.new.buffered.file bytes c.position_for.ensures.read.changes c.position_for.ensures.read.file
    (still_reads v w file c.leaf_page.new.buffered.file bytes c.leaf_page.ensures.read.changes c.leaf_page.ensures.read.file is))
    (λ bytes is. c.in_ok-position.ensures.led bytes c.args.blocks (still_reads v w file c.leaf_page.new.buffered.file bytes c.leaf_page.ensures.read.changes c.leaf_page.ensures.read.file is) (c.in_ok-page.ensures.led bytes is))
    c.in_ok-found.ensures.ends
