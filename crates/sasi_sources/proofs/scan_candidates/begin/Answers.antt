use Rattle.std.proofs.Common.{◌+◌, drop, [], Ok, Some, arith}
use Rattle.std.proofs.lemmas.Result.{err_from_is_err_and}
use Rattle.sasi_host.specs.Disk.{Same}
use Rattle.sasi_host.proofs.ChangeLaws.{then_same}
use Rattle.sasi_recheck.specs.Sources.{first_price}
use Rattle.sasi_sources.specs.ScanCandidates.{ScanPays}
use Rattle.sasi_sources.proofs.ScanGiving.{begun_leaves, begun_pays, begun_ready, begun_undamaged, open_given, open_pays, open_prints, open_ready, shown_before, spent_then}
use Rattle.sasi_sources.proofs.scan_candidates.begin.Goals as goal

-- ---- a call that failed behind the opening

pub returns-in_err-found-clause-reads : goal.returns-in_err-found-clause-reads
returns-in_err-found-clause-reads g c most prices pays =
    let v = g.H.Host.view c.args.host.now in
    let u = g.H.Host.view c.open.new.host in
    let q = err_from_is_err_and c.from_residual-in_err-found.result c.from_residual-in_err-found.ensures.1 in
    let has = begun_pays c.args.types.now c.args.files.now c.args.maps.now v u c.open.ensures.changes c.in_ok-scan.scan c.in_ok-scan.ensures.is_of c.in_ok-scan.ensures.reads most prices pays in
    rw q.1 (omega (arith, c.in_err-found.ensures.reads has.1.0 has.0 has.1.2, has.2))

pub returns-in_err-found-clause-damaged : goal.returns-in_err-found-clause-damaged
returns-in_err-found-clause-damaged g c =
    let v = g.H.Host.view c.args.host.now in
    let u = g.H.Host.view c.open.new.host in
    let q = err_from_is_err_and c.from_residual-in_err-found.result c.from_residual-in_err-found.ensures.1 in
    let ready = begun_ready c.args.types.now c.args.files.now c.args.maps.now v u c.open.ensures.changes c.in_ok-scan.scan c.in_ok-scan.ensures.is_of c.in_ok-scan.ensures.can in
    rw (q.1, q.2) (shown_before c.args.types.now c.args.files.now c.args.maps.now v u c.in_err-found.field-0.0 c.open.ensures.changes (c.in_err-found.ensures.damaged c.args.files.now c.args.types.now ready.1))

pub returns-in_err-found-clause-changes : goal.returns-in_err-found-clause-changes
returns-in_err-found-clause-changes g c = then_same _ _ _ Same c.open.ensures.changes c.next.ensures.changes

pub returns-in_err-found-clause-undamaged : goal.returns-in_err-found-clause-undamaged
returns-in_err-found-clause-undamaged g c =
    let v = g.H.Host.view c.args.host.now in
    let u = g.H.Host.view c.open.new.host in
    let q = err_from_is_err_and c.from_residual-in_err-found.result c.from_residual-in_err-found.ensures.1 in
    rw (q.1, q.2) (begun_undamaged c.args.types.now c.args.files.now c.args.maps.now v u c.open.ensures.changes c.in_ok-scan.scan c.in_ok-scan.ensures.is_of
    (λ p contents. c.in_ok-scan.ensures.opened p contents tt) c.in_err-found.field-0.0 c.in_err-found.ensures.undamaged)

-- ---- the first key

pub returns-clause-gives : goal.returns-clause-gives
returns-clause-gives g c left leaves =
    let v = g.H.Host.view c.args.host.now in
    let u = g.H.Host.view c.open.new.host in
    let w = g.H.Host.view c.next.new.host in
    open_given c.args.types.now c.args.files.now c.args.maps.now u w c.next.ensures.changes c.in_ok-scan.scan c.next.new.self (Ok c.in_ok-found.found) c.in_ok-found.ensures.next c.in_ok-found.ensures.is_of left
    (begun_leaves c.args.types.now c.args.files.now c.args.maps.now v u c.open.ensures.changes c.in_ok-scan.scan c.in_ok-scan.ensures.is_of (λ p contents. c.in_ok-scan.ensures.opened p contents tt) left leaves)

pub returns-clause-reads : goal.returns-clause-reads
returns-clause-reads g c most prices pays =
    let v = g.H.Host.view c.args.host.now in
    let u = g.H.Host.view c.open.new.host in
    let w = g.H.Host.view c.next.new.host in
    let has = begun_pays c.args.types.now c.args.files.now c.args.maps.now v u c.open.ensures.changes c.in_ok-scan.scan c.in_ok-scan.ensures.is_of c.in_ok-scan.ensures.reads most prices pays in
    spent_then c.args.types.now c.args.files.now c.args.maps.now (λ rest. ScanPays c.args.types.now c.args.files.now (Some c.next.new.self) w.files c.args.maps.now rest (drop 1 prices)) (most + first_price prices) v.reads u.reads w.reads has.0 has.2
    (open_pays c.args.types.now c.args.files.now c.args.maps.now u w c.next.ensures.changes c.in_ok-scan.scan c.next.new.self (Ok c.in_ok-found.found) c.in_ok-found.ensures.is_of c.in_ok-found.ensures.reads has.0 [] has.1)

pub returns-clause-ready : goal.returns-clause-ready
returns-clause-ready g c =
    let v = g.H.Host.view c.args.host.now in
    let u = g.H.Host.view c.open.new.host in
    let w = g.H.Host.view c.next.new.host in
    open_ready c.args.types.now c.args.files.now c.args.maps.now u w c.next.ensures.changes c.in_ok-scan.scan c.next.new.self (Ok c.in_ok-found.found) c.in_ok-found.ensures.can c.in_ok-found.ensures.is_of
    (begun_ready c.args.types.now c.args.files.now c.args.maps.now v u c.open.ensures.changes c.in_ok-scan.scan c.in_ok-scan.ensures.is_of c.in_ok-scan.ensures.can)

pub returns-clause-prints : goal.returns-clause-prints
returns-clause-prints g c kind has =
    let v = g.H.Host.view c.args.host.now in
    let u = g.H.Host.view c.open.new.host in
    let ready = begun_ready c.args.types.now c.args.files.now c.args.maps.now v u c.open.ensures.changes c.in_ok-scan.scan c.in_ok-scan.ensures.is_of c.in_ok-scan.ensures.can in
    open_prints c.args.types.now c.args.files.now c.args.maps.now u c.in_ok-scan.scan (Ok c.in_ok-found.found) c.in_ok-found.ensures.of_parts ready.1 kind has

pub returns-clause-changes : goal.returns-clause-changes
returns-clause-changes g c = then_same _ _ _ Same c.open.ensures.changes c.next.ensures.changes
