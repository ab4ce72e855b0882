use Rattle.std.proofs.Common.{Err, Ok, subst, sym, arith}
use Rattle.std.proofs.lemmas.Result.{err_from_is_err_and}
use Rattle.sasi_dataread.specs.Damages.{ShowsHeaderOrFooter}
use Rattle.sasi_dataread.specs.Reads.{NoFalseDataDamage}
use Rattle.sasi_host.proofs.ChangeLaws.{then_same}
use Rattle.sasi_host.specs.Damages.{DamageShown}
use Rattle.sasi_host.specs.Disk.{Same}
use Rattle.sasi_host.specs.View.{IsThere}
use Rattle.sasi_host.specs.declared.name.FileName.{FileName}
use Rattle.sasi_scan.proofs.Costs.{causes_of_fault, of_reads}
use Rattle.sasi_scan.proofs.KeyFinding.{find_causes, find_cost, find_is, find_shown, find_stored, find_there, findable, no_false_find}
use Rattle.sasi_scan.proofs.Steps.{no_false_opening, opening_shown}
use Rattle.sasi_scan.proofs.key_lookup.find_in_file.Goals as goal

pub open-requires : goal.open-requires
open-requires g c = record { read = record { there = subst (IsThere (g.H.Host.view c.args.host.now)) (sym c.data-name.ensures) c.requires; agrees = tt } }

pub returns-in_err-opened-clause-damaged : goal.returns-in_err-opened-clause-damaged
returns-in_err-opened-clause-damaged g c =
    let v = g.H.Host.view c.args.host.now in
    let p = err_from_is_err_and c.from_residual.result c.from_residual.ensures.1 in
    rw (p.1, p.2) (opening_shown v c.args.types.now c.args.file.now c.in_err-opened.field-0.0
    (subst (λ (n : FileName). DamageShown v n (ShowsHeaderOrFooter n) c.in_err-opened.field-0.0) c.data-name.ensures c.in_err-opened.ensures.damaged))

pub returns-in_err-opened-clause-undamaged : goal.returns-in_err-opened-clause-undamaged
returns-in_err-opened-clause-undamaged g c =
    let v = g.H.Host.view c.args.host.now in
    let p = err_from_is_err_and c.from_residual.result c.from_residual.ensures.1 in
    rw (p.1, p.2) (no_false_opening v c.args.types.now c.args.file.now c.in_err-opened.field-0.0
    (subst (λ (n : FileName). NoFalseDataDamage v n c.in_err-opened.field-0.0) c.data-name.ensures c.in_err-opened.ensures.undamaged))

pub returns-in_err-opened-clause-reads : goal.returns-in_err-opened-clause-reads
returns-in_err-opened-clause-reads g c p content has is_key = omega (arith, c.open.ensures.causes.reads)

pub returns-in_err-opened-clause-changes : goal.returns-in_err-opened-clause-changes
returns-in_err-opened-clause-changes g c = c.open.ensures.read.changes

pub returns-in_err-opened-clause-causes : goal.returns-in_err-opened-clause-causes
returns-in_err-opened-clause-causes g c =
    let p = err_from_is_err_and c.from_residual.result c.from_residual.ensures.1 in
    rw (p.1, p.2) (causes_of_fault _ _ c.in_err-opened.field-0.0 (of_reads 3 _ _ (Err c.in_err-opened.field-0.0) c.in_err-opened.ensures.causes))

pub find-requires : goal.find-requires
find-requires g c =
    let view = g.H.Host.view in
    let v = view c.args.host.now in
    let w = view c.open.new.host in
    let opened = c.in_ok-opened.opened in
    let can = findable v w c.args.types.now c.args.file.now opened c.data-name.result c.in_ok-opened.ensures.some c.data-name.ensures c.open.ensures.read.changes c.requires c.in_ok-opened.ensures.file c.in_ok-opened.ensures.types c.in_ok-opened.ensures.ok c.in_ok-opened.ensures.header_and_footer in
    record { read = record { there = find_there v w c.args.types.now c.args.file.now opened can; agrees = tt } }

pub returns-in_err-found-clause-damaged : goal.returns-in_err-found-clause-damaged
returns-in_err-found-clause-damaged g c =
    let view = g.H.Host.view in
    let v = view c.args.host.now in
    let w = view c.open.new.host in
    let opened = c.in_ok-opened.opened in
    let can = findable v w c.args.types.now c.args.file.now opened c.data-name.result c.in_ok-opened.ensures.some c.data-name.ensures c.open.ensures.read.changes c.requires c.in_ok-opened.ensures.file c.in_ok-opened.ensures.types c.in_ok-opened.ensures.ok c.in_ok-opened.ensures.header_and_footer in
    let p = err_from_is_err_and c.from_residual-in_err-found.result c.from_residual-in_err-found.ensures.1 in
    rw (p.1, p.2) (find_shown v w c.args.types.now c.args.file.now opened can c.in_err-found.field-0.0 c.in_err-found.ensures.damaged)

pub returns-in_err-found-clause-undamaged : goal.returns-in_err-found-clause-undamaged
returns-in_err-found-clause-undamaged g c =
    let view = g.H.Host.view in
    let v = view c.args.host.now in
    let w = view c.open.new.host in
    let opened = c.in_ok-opened.opened in
    let can = findable v w c.args.types.now c.args.file.now opened c.data-name.result c.in_ok-opened.ensures.some c.data-name.ensures c.open.ensures.read.changes c.requires c.in_ok-opened.ensures.file c.in_ok-opened.ensures.types c.in_ok-opened.ensures.ok c.in_ok-opened.ensures.header_and_footer in
    let p = err_from_is_err_and c.from_residual-in_err-found.result c.from_residual-in_err-found.ensures.1 in
    rw (p.1, p.2) (no_false_find v w c.args.types.now c.args.file.now opened can c.in_err-found.field-0.0 c.in_err-found.ensures.undamaged)

pub returns-in_err-found-clause-reads : goal.returns-in_err-found-clause-reads
returns-in_err-found-clause-reads g c =
    let view = g.H.Host.view in
    let v = view c.args.host.now in
    let w = view c.open.new.host in
    let opened = c.in_ok-opened.opened in
    let can = findable v w c.args.types.now c.args.file.now opened c.data-name.result c.in_ok-opened.ensures.some c.data-name.ensures c.open.ensures.read.changes c.requires c.in_ok-opened.ensures.file c.in_ok-opened.ensures.types c.in_ok-opened.ensures.ok c.in_ok-opened.ensures.header_and_footer in
    find_cost v w c.args.types.now c.args.file.now opened can c.args.key.now (view c.find.new.host).reads c.in_ok-opened.ensures.causes.reads c.find.ensures.reads

pub returns-in_err-found-clause-changes : goal.returns-in_err-found-clause-changes
returns-in_err-found-clause-changes g c = then_same _ _ _ Same c.open.ensures.read.changes c.find.ensures.read.changes

pub returns-in_err-found-clause-causes : goal.returns-in_err-found-clause-causes
returns-in_err-found-clause-causes g c =
    let view = g.H.Host.view in
    let f = c.in_err-found.field-0.0 in
    let p = err_from_is_err_and c.from_residual-in_err-found.result c.from_residual-in_err-found.ensures.1 in
    rw (p.1, p.2) (causes_of_fault _ _ f (find_causes (view c.args.host.now) (view c.open.new.host) (view c.find.new.host) _ c.in_ok-opened.opened (Err f) c.in_ok-opened.ensures.causes (c.in_err-found.ensures.causes c.in_ok-opened.opened.tree.pairs (omega arith))))

pub returns-clause-found : goal.returns-clause-found
returns-clause-found g c =
    let view = g.H.Host.view in
    let v = view c.args.host.now in
    let w = view c.open.new.host in
    let opened = c.in_ok-opened.opened in
    let can = findable v w c.args.types.now c.args.file.now opened c.data-name.result c.in_ok-opened.ensures.some c.data-name.ensures c.open.ensures.read.changes c.requires c.in_ok-opened.ensures.file c.in_ok-opened.ensures.types c.in_ok-opened.ensures.ok c.in_ok-opened.ensures.header_and_footer in
    find_is v w c.args.types.now c.args.file.now opened can c.args.key.now c.in_ok-found.found c.in_ok-found.ensures.ok

pub returns-clause-stored : goal.returns-clause-stored
returns-clause-stored g c =
    let view = g.H.Host.view in
    let v = view c.args.host.now in
    let w = view c.open.new.host in
    let opened = c.in_ok-opened.opened in
    let can = findable v w c.args.types.now c.args.file.now opened c.data-name.result c.in_ok-opened.ensures.some c.data-name.ensures c.open.ensures.read.changes c.requires c.in_ok-opened.ensures.file c.in_ok-opened.ensures.types c.in_ok-opened.ensures.ok c.in_ok-opened.ensures.header_and_footer in
    find_stored v w c.args.types.now c.args.file.now opened can c.args.key.now c.in_ok-found.found c.in_ok-found.ensures.stands

pub returns-clause-reads : goal.returns-clause-reads
returns-clause-reads g c =
    let view = g.H.Host.view in
    let v = view c.args.host.now in
    let w = view c.open.new.host in
    let opened = c.in_ok-opened.opened in
    let can = findable v w c.args.types.now c.args.file.now opened c.data-name.result c.in_ok-opened.ensures.some c.data-name.ensures c.open.ensures.read.changes c.requires c.in_ok-opened.ensures.file c.in_ok-opened.ensures.types c.in_ok-opened.ensures.ok c.in_ok-opened.ensures.header_and_footer in
    find_cost v w c.args.types.now c.args.file.now opened can c.args.key.now (view c.find.new.host).reads c.in_ok-opened.ensures.causes.reads c.find.ensures.reads

pub returns-clause-changes : goal.returns-clause-changes
returns-clause-changes g c = then_same _ _ _ Same c.open.ensures.read.changes c.find.ensures.read.changes

pub returns-clause-causes : goal.returns-clause-causes
returns-clause-causes g c =
    let view = g.H.Host.view in
    find_causes (view c.args.host.now) (view c.open.new.host) (view c.find.new.host) _ c.in_ok-opened.opened (Ok c.in_ok-found.found) c.in_ok-opened.ensures.causes (c.in_ok-found.ensures.causes c.in_ok-opened.opened.tree.pairs (omega arith))
