use Rattle.std.proofs.Common.{Option, subst, sym, arith}
use Rattle.std.proofs.lemmas.Result.{err_from_is_err_and}
use Rattle.sasi_host.specs.Names.{Folder}
use Rattle.sasi_scan.specs.Scanning.{CanScan, scan_of}
use Rattle.sasi_scan.proofs.Costs.{causes_memory, causes_of_fault, causes_ok, reads_same}
use Rattle.sasi_scan.proofs.KeyOrder.{scan_some, scan_under}
use Rattle.sasi_scan.proofs.Openings.{scan_begins, scan_can, scan_is_of}
use Rattle.sasi_scan.proofs.Pages.{opened_may}
use Rattle.sasi_scan.proofs.table_scan.TableScan.open.Goals as goal

pub returns-clause-opened : goal.returns-clause-opened
returns-clause-opened g c =
    scan_begins (g.H.Host.view c.args.host.now).files c.args.types.now c.args.tokens c.args.files.now c.args.maps.now c.open_files.new.heads c.open_files.new.sources.items c.add_maps.new.heads c.add_maps.new.sources.items
    c.in_ok-open_files.ensures.opened c.in_ok-add_maps.ensures.heads c.in_ok-add_maps.ensures.sources

pub returns-clause-can : goal.returns-clause-can
returns-clause-can g c =
    let view = g.H.Host.view in
    subst (λ (o : Option Folder). CanScan o c.args.maps.now (scan_of c.add_maps.new.heads c.add_maps.new.sources.items)) (sym (reads_same (view c.args.host.now) (view c.open_files.new.host) c.open_files.ensures.changes))
    (scan_can (view c.args.host.now).files c.args.types.now c.args.tokens c.args.files.now c.args.maps.now c.open_files.new.heads c.open_files.new.sources.items c.add_maps.new.heads c.add_maps.new.sources.items
    c.in_ok-open_files.ensures.opened c.in_ok-add_maps.ensures.heads c.in_ok-add_maps.ensures.sources)

pub returns-clause-is_of : goal.returns-clause-is_of
returns-clause-is_of g c =
    scan_is_of (g.H.Host.view c.args.host.now).files c.args.types.now c.args.tokens c.args.files.now c.args.maps.now c.open_files.new.heads c.open_files.new.sources.items c.add_maps.new.heads c.add_maps.new.sources.items
    c.in_ok-open_files.ensures.opened c.in_ok-add_maps.ensures.heads c.in_ok-add_maps.ensures.sources

pub returns-clause-reads : goal.returns-clause-reads
returns-clause-reads g c p contents have =
    let view = g.H.Host.view in
    opened_may (view c.args.host.now).files p c.args.files.now c.args.maps.now c.add_maps.new.heads c.open_files.new.sources.items c.add_maps.new.sources.items (view c.args.host.now).reads (view c.open_files.new.host).reads
    c.in_ok-add_maps.ensures.sources (c.in_ok-open_files.ensures.reads p contents have)

pub returns-clause-changes : goal.returns-clause-changes
returns-clause-changes g c = c.open_files.ensures.changes

pub returns-clause-causes : goal.returns-clause-causes
returns-clause-causes g c = causes_ok _ _ _ c.in_ok-open_files.ensures.causes.ok c.in_ok-open_files.ensures.causes.out

pub returns-in_err-open_files-clause-reads : goal.returns-in_err-open_files-clause-reads
returns-in_err-open_files-clause-reads g c p contents have =
    let q = err_from_is_err_and c.from_residual.result c.from_residual.ensures.1 in
    rw q.1 (c.in_err-open_files.ensures.reads p contents have)

pub returns-in_err-open_files-clause-causes : goal.returns-in_err-open_files-clause-causes
returns-in_err-open_files-clause-causes g c =
    let q = err_from_is_err_and c.from_residual.result c.from_residual.ensures.1 in
    rw (q.1, q.2) (causes_of_fault _ _ c.in_err-open_files.field-0.0 c.in_err-open_files.ensures.causes)

pub returns-in_err-open_files-clause-changes : goal.returns-in_err-open_files-clause-changes
returns-in_err-open_files-clause-changes g c = c.open_files.ensures.changes

pub returns-in_err-open_files-clause-damaged : goal.returns-in_err-open_files-clause-damaged
returns-in_err-open_files-clause-damaged g c =
    let q = err_from_is_err_and c.from_residual.result c.from_residual.ensures.1 in
    rw (q.1, q.2) c.in_err-open_files.ensures.damaged

pub returns-in_err-open_files-clause-undamaged : goal.returns-in_err-open_files-clause-undamaged
returns-in_err-open_files-clause-undamaged g c =
    let q = err_from_is_err_and c.from_residual.result c.from_residual.ensures.1 in
    rw (q.1, q.2) c.in_err-open_files.ensures.undamaged

pub returns-in_err-add_maps-clause-reads : goal.returns-in_err-add_maps-clause-reads
returns-in_err-add_maps-clause-reads g c p contents have =
    let q = err_from_is_err_and c.from_residual-in_err-add_maps.result c.from_residual-in_err-add_maps.ensures.1 in
    rw q.1 (omega (arith, (c.in_ok-open_files.ensures.reads p contents have).reads))

pub returns-in_err-add_maps-clause-causes : goal.returns-in_err-add_maps-clause-causes
returns-in_err-add_maps-clause-causes g c =
    let q = err_from_is_err_and c.from_residual-in_err-add_maps.result c.from_residual-in_err-add_maps.ensures.1 in
    rw (q.1, q.2) (causes_memory _ _ c.in_ok-open_files.ensures.causes.ok c.in_ok-open_files.ensures.causes.out)

pub returns-in_err-add_maps-clause-changes : goal.returns-in_err-add_maps-clause-changes
returns-in_err-add_maps-clause-changes g c = c.open_files.ensures.changes

pub returns-clause-under : goal.returns-clause-under
returns-clause-under g c =
    scan_under (g.H.Host.view c.args.host.now).files c.args.types.now c.args.tokens c.args.files.now c.args.maps.now c.open_files.new.heads c.open_files.new.sources.items c.add_maps.new.heads c.add_maps.new.sources.items
    c.in_ok-open_files.ensures.opened c.in_ok-add_maps.ensures.heads c.in_ok-add_maps.ensures.sources

pub returns-clause-some : goal.returns-clause-some
returns-clause-some g c =
    scan_some (g.H.Host.view c.args.host.now).files c.args.types.now c.args.tokens c.args.files.now c.args.maps.now c.open_files.new.heads c.open_files.new.sources.items c.add_maps.new.heads c.add_maps.new.sources.items
    c.in_ok-open_files.ensures.opened c.in_ok-add_maps.ensures.heads c.in_ok-add_maps.ensures.sources
