use Rattle.std.proofs.Common.{ℕ, ◌+◌, ◌/◌, ◌∙◌, ap, subst, arith, Some, Ok, Err}
use Rattle.std.proofs.lemmas.Result.{err_from_is_err_and}
use Rattle.sasi_host.proofs.PageReadingLaws.{reads_then}
use Rattle.sasi_host.specs.declared.name.FileName.{FileName}
use Rattle.sasi_host.specs.View.{contents}
use Rattle.sasi_host.specs.Damages.{DamageShown, ShowsEnd}
use Rattle.sasi_host.proofs.ContentLaws.{contents_same}
use Rattle.sasi_host.proofs.DamageLaws.{shown_before}
use Rattle.sasi_dataread.proofs.Bodies.{body_shown, no_false_sized, no_false_cut, sized_read, reads_cost, both_causes}
use Rattle.sasi_dataread.proofs.partition.read_body_bytes.Goals as goal

pub returns-in_err-count-clause-damaged : goal.returns-in_err-count-clause-damaged
returns-in_err-count-clause-damaged g c types =
    let p = err_from_is_err_and c.from_residual.result c.from_residual.ensures.1 in
    rw (p.1, p.2) (c.in_err-count.ensures.damaged types)

pub returns-in_err-count-clause-undamaged : goal.returns-in_err-count-clause-undamaged
returns-in_err-count-clause-undamaged g c =
    let p = err_from_is_err_and c.from_residual.result c.from_residual.ensures.1 in
    rw (p.1, p.2) (no_false_sized (g.H.Host.view c.args.host.now) c.args.buffered.now.file c.args.end c.args.place c.in_err-count.field-0.0 c.in_err-count.ensures.undamaged)

pub returns-in_err-body-clause-damaged : goal.returns-in_err-body-clause-damaged
returns-in_err-body-clause-damaged g c types =
    let p = err_from_is_err_and c.from_residual-in_err-body.result c.from_residual-in_err-body.ensures.1 in
    let view = g.H.Host.view in
    rw (p.1, p.2) (body_shown types (view c.args.host.now) c.args.buffered.now.file c.args.end c.args.place c.in_ok-count.count c.in_err-body.field-0.0
    c.in_ok-count.ensures.ok c.in_ok-count.ensures.length
    (shown_before _ (view c.args.host.now) _ c.args.buffered.now.file c.in_err-body.field-0.0 c.read_length.ensures.read.changes
    (subst (λ (n : FileName). DamageShown (view c.read_length.new.host) n (ShowsEnd (c.args.place + 4 + c.in_ok-count.count) n) c.in_err-body.field-0.0)
    c.read_length.ensures.read.file c.in_err-body.ensures.damaged)))

pub returns-in_err-body-clause-undamaged : goal.returns-in_err-body-clause-undamaged
returns-in_err-body-clause-undamaged g c =
    let p = err_from_is_err_and c.from_residual-in_err-body.result c.from_residual-in_err-body.ensures.1 in
    rw (p.1, p.2) (no_false_cut _ _ c.args.buffered.now.file c.args.end c.args.place c.in_ok-count.count c.in_err-body.field-0.0
    c.in_ok-count.ensures.length.short c.in_ok-count.ensures.ok c.read_length.ensures.read.changes
    (subst (λ (n : FileName). DamageShown (g.H.Host.view c.read_length.new.host) n (ShowsEnd (c.args.place + 4 + c.in_ok-count.count) n)
    c.in_err-body.field-0.0) c.read_length.ensures.read.file c.in_err-body.ensures.damaged))

pub returns-in_err-body-clause-causes : goal.returns-in_err-body-clause-causes
returns-in_err-body-clause-causes g c =
    let p = err_from_is_err_and c.from_residual-in_err-body.result c.from_residual-in_err-body.ensures.1 in
    rw (p.1, p.2) (both_causes _ _ _ c.args.buffered.now.page c.read_length.new.buffered.page c.args.place c.in_ok-count.count c.in_ok-count.count
    (Err c.in_err-body.field-0.0) c.in_ok-count.ensures.length.short c.in_ok-count.ensures.page c.in_ok-count.ensures.causes
    c.in_err-body.ensures.causes)

pub returns-in_err-body-clause-reads : goal.returns-in_err-body-clause-reads
returns-in_err-body-clause-reads g c bytes body is has fits =
    reads_cost bytes body c.args.buffered.now.page c.read_length.new.buffered.page c.args.place c.in_ok-count.count _ _ _
    (omega (arith, c.in_ok-count.ensures.length.short)) fits (c.in_ok-count.ensures.ok bytes is) has c.in_ok-count.ensures.page
    c.read_length.ensures.causes.reads c.read_bytes.ensures.causes.reads

pub returns-clause-ok : goal.returns-clause-ok
returns-clause-ok g c bytes is =
    let now = ap (λ (n : FileName). contents (g.H.Host.view c.read_length.new.host) n) c.read_length.ensures.read.file ∙ contents_same _ _
    c.args.buffered.now.file c.read_length.ensures.read.changes ∙ is in
    sized_read bytes c.in_ok-body.body.items c.args.place c.in_ok-count.count (c.in_ok-count.ensures.ok bytes is) (c.in_ok-body.ensures.ok bytes now)
    c.in_ok-body.ensures.count (c.in_ok-body.ensures.within bytes now)

pub returns-clause-causes : goal.returns-clause-causes
returns-clause-causes g c = both_causes _ _ _ c.args.buffered.now.page c.read_length.new.buffered.page c.args.place c.in_ok-count.count
    c.in_ok-count.count (Ok c.in_ok-body.body) c.in_ok-count.ensures.length.short c.in_ok-count.ensures.page c.in_ok-count.ensures.causes
    c.in_ok-body.ensures.causes

pub returns-clause-page : goal.returns-clause-page
returns-clause-page g c = c.in_ok-body.ensures.page ∙ ap (λ (n : ℕ). Some (n / 4096)) (omega (arith, c.in_ok-body.ensures.count, c.in_ok-count.ensures.length.some))

pub returns-clause-reads : goal.returns-clause-reads
returns-clause-reads g c bytes body is has fits =
    reads_cost bytes body c.args.buffered.now.page c.read_length.new.buffered.page c.args.place c.in_ok-count.count _ _ _
    (omega (arith, c.in_ok-count.ensures.length.short)) fits (c.in_ok-count.ensures.ok bytes is) has c.in_ok-count.ensures.page
    c.read_length.ensures.causes.reads c.read_bytes.ensures.causes.reads

pub returns-in_err-body-clause-read : goal.returns-in_err-body-clause-read
returns-in_err-body-clause-read g c = reads_then _ _ _ _ _ _ _ _ _ _ _ c.read_length.ensures.read c.read_bytes.ensures.read

pub returns-clause-read : goal.returns-clause-read
returns-clause-read g c = reads_then _ _ _ _ _ _ _ _ _ _ _ c.read_length.ensures.read c.read_bytes.ensures.read
