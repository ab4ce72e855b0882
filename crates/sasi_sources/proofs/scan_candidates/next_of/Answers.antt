use Rattle.std.proofs.Common.{IfErr, List, Option, subst, sym}
use Rattle.std.proofs.lemmas.Result.{err_from_is_err_and}
use Rattle.sasi_host.specs.Damages.{OnDamage}
use Rattle.sasi_recheck.specs.Sources.{Candidate}
use Rattle.sasi_scan.specs.Scanning.{ScanView}
use Rattle.sasi_sources.specs.ScanCandidates.{ScanLeaves, ScanPays, ScanReady}
use Rattle.sasi_sources.proofs.ScanGiving.{open_given, open_pays, open_prints, open_ready, open_undamaged}
use Rattle.sasi_sources.proofs.scan_candidates.next_of.Goals as goal

-- ---- a scan that was begun

pub returns-in-Some-clause-gives : goal.returns-in-Some-clause-gives
returns-in-Some-clause-gives g c left leaves =
    let v = g.H.Host.view c.args.host.now in
    let w = g.H.Host.view c.next.new.host in
    open_given c.args.types.now c.args.files.now c.args.maps.now v w c.next.ensures.changes c.in-Some.open c.next.new.self c.next.result c.next.ensures.next c.next.ensures.is_of left
    (subst (λ (scan : Option ScanView). ScanLeaves c.args.types.now c.args.files.now scan v.files c.args.maps.now left) c.in-Some.is leaves)

pub returns-in-Some-clause-reads : goal.returns-in-Some-clause-reads
returns-in-Some-clause-reads g c most prices pays =
    let v = g.H.Host.view c.args.host.now in
    let w = g.H.Host.view c.next.new.host in
    open_pays c.args.types.now c.args.files.now c.args.maps.now v w c.next.ensures.changes c.in-Some.open c.next.new.self c.next.result c.next.ensures.is_of c.next.ensures.reads most prices
    (subst (λ (scan : Option ScanView). ScanPays c.args.types.now c.args.files.now scan v.files c.args.maps.now most prices) c.in-Some.is pays)

pub returns-in-Some-clause-ready : goal.returns-in-Some-clause-ready
returns-in-Some-clause-ready g c =
    let v = g.H.Host.view c.args.host.now in
    let w = g.H.Host.view c.next.new.host in
    open_ready c.args.types.now c.args.files.now c.args.maps.now v w c.next.ensures.changes c.in-Some.open c.next.new.self c.next.result c.next.ensures.can c.next.ensures.is_of
    (subst (λ (scan : Option ScanView). ScanReady c.args.types.now c.args.files.now scan v.files c.args.maps.now) c.in-Some.is c.requires.ready)

pub returns-in-Some-clause-prints : goal.returns-in-Some-clause-prints
returns-in-Some-clause-prints g c kind has =
    let v = g.H.Host.view c.args.host.now in
    let ready = subst (λ (scan : Option ScanView). ScanReady c.args.types.now c.args.files.now scan v.files c.args.maps.now) c.in-Some.is c.requires.ready in
    open_prints c.args.types.now c.args.files.now c.args.maps.now v c.in-Some.open c.next.result c.next.ensures.of_parts ready.1 kind has

pub returns-in-Some-clause-damaged : goal.returns-in-Some-clause-damaged
returns-in-Some-clause-damaged g c =
    let v = g.H.Host.view c.args.host.now in
    let ready = subst (λ (scan : Option ScanView). ScanReady c.args.types.now c.args.files.now scan v.files c.args.maps.now) c.in-Some.is c.requires.ready in
    c.next.ensures.damaged c.args.files.now c.args.types.now ready.1

pub returns-in-Some-clause-undamaged : goal.returns-in-Some-clause-undamaged
returns-in-Some-clause-undamaged g c =
    let v = g.H.Host.view c.args.host.now in
    subst (λ (scan : Option ScanView). IfErr c.next.result (OnDamage (λ _. (left : List Candidate) → ScanLeaves c.args.types.now c.args.files.now scan v.files c.args.maps.now left → ⊥))) (sym c.in-Some.is)
    (open_undamaged c.args.types.now c.args.files.now c.args.maps.now v c.in-Some.open c.next.result c.next.ensures.undamaged)

-- ---- a scan that begins

pub returns-in_ok-open-in-None-clause-gives : goal.returns-in_ok-open-in-None-clause-gives
returns-in_ok-open-in-None-clause-gives g c left leaves =
    let v = g.H.Host.view c.args.host.now in
    c.in_ok-open-in-None.ensures.gives left (subst (λ (scan : Option ScanView). ScanLeaves c.args.types.now c.args.files.now scan v.files c.args.maps.now left) c.in-None.is leaves)

pub returns-in_err-open-in-None-clause-reads : goal.returns-in_err-open-in-None-clause-reads
returns-in_err-open-in-None-clause-reads g c most prices pays =
    let v = g.H.Host.view c.args.host.now in
    let q = err_from_is_err_and c.from_residual.result c.from_residual.ensures.1 in
    rw q.1 (c.in_err-open-in-None.ensures.reads most prices (subst (λ (scan : Option ScanView). ScanPays c.args.types.now c.args.files.now scan v.files c.args.maps.now most prices) c.in-None.is pays))

pub returns-in_err-open-in-None-clause-undamaged : goal.returns-in_err-open-in-None-clause-undamaged
returns-in_err-open-in-None-clause-undamaged g c =
    let v = g.H.Host.view c.args.host.now in
    let q = err_from_is_err_and c.from_residual.result c.from_residual.ensures.1 in
    rw (q.1, q.2) (subst (λ (scan : Option ScanView). OnDamage (λ _. (left : List Candidate) → ScanLeaves c.args.types.now c.args.files.now scan v.files c.args.maps.now left → ⊥) c.in_err-open-in-None.field-0.0) (sym c.in-None.is)
    c.in_err-open-in-None.ensures.undamaged)
