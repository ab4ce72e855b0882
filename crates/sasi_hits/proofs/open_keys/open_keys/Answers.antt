use Rattle.std.proofs.Common.{Option, None, Some, Ok, sym, subst}
use Rattle.std.proofs.lemmas.Result.{err_from_is_err_and}
use Rattle.sasi_tokentree.specs.Scans.{PairScan}
use Rattle.sasi_ranges.proofs.Calling.{faults_as, faults_handed, faults_ok, streams_nothing}
use Rattle.sasi_hits.specs.Calls.{SpendsOn}
use Rattle.sasi_hits.specs.KeyTrees.{KeysPay, KeysReady, TreeLeaves}
use Rattle.sasi_hits.proofs.OpenKeyLaws.{opened_leaves, opened_pays, opened_ready, opening_faults}
use Rattle.sasi_hits.proofs.open_keys.open_keys.Goals as goal

pub returns-in_err-opened-in-None-clause-faults : goal.returns-in_err-opened-in-None-clause-faults
returns-in_err-opened-in-None-clause-faults g c =
    let p = err_from_is_err_and c.from_residual.result c.from_residual.ensures.1 in
    let v = g.H.Host.view c.args.host.now in
    let w = g.H.Host.view c.open.new.host in
    rw (p.1, p.2) (faults_handed _ _ _ _ v w c.open.result c.in_err-opened-in-None.field-0.0 c.in_err-opened-in-None.was (λ left is. (left, subst (λ (t : Option PairScan). TreeLeaves c.args.file c.args.types.now t v.files left) c.in-None.is is))
    (opening_faults v w c.args.file c.args.types.now 3 c.open.result c.open.ensures.read.changes c.open.ensures.causes c.open.ensures.damaged c.open.ensures.undamaged))

pub returns-in-Some-clause-read : goal.returns-in-Some-clause-read
returns-in-Some-clause-read g c = streams_nothing _ _ _ (g.H.Host.view c.args.host.now) c.requires.read.agrees

pub returns-in_ok-opened-in-None-clause-leaves : goal.returns-in_ok-opened-in-None-clause-leaves
returns-in_ok-opened-in-None-clause-leaves g c left is =
    let v = g.H.Host.view c.args.host.now in
    let w = g.H.Host.view c.open.new.host in
    let types = c.args.types.now in
    subst (λ (scan : PairScan). TreeLeaves c.args.file types (Some scan) w.files left) (sym c.tree.ensures)
    (opened_leaves v w c.args.file types _ c.open.ensures.read.changes c.in_ok-opened-in-None.ensures.file c.in_ok-opened-in-None.ensures.types (λ bytes reads. (g.met.H.Host.sound c.args.host.now).fits c.args.file bytes reads) c.in_ok-opened-in-None.ensures.ok left (subst (λ (t : Option PairScan). TreeLeaves c.args.file types t v.files left) c.in-None.is is))

pub returns-in_ok-opened-in-None-clause-reads : goal.returns-in_ok-opened-in-None-clause-reads
returns-in_ok-opened-in-None-clause-reads g c most is =
    let v = g.H.Host.view c.args.host.now in
    let w = g.H.Host.view c.open.new.host in
    let types = c.args.types.now in
    subst (λ (scan : PairScan). SpendsOn (λ opened rest. KeysPay c.args.file types (Some opened) w.files rest) most v.reads w.reads (Ok scan)) (sym c.tree.ensures)
    (opened_pays v w c.args.file types _ c.open.ensures.read.changes c.in_ok-opened-in-None.ensures.file c.in_ok-opened-in-None.ensures.types (λ bytes reads. (g.met.H.Host.sound c.args.host.now).fits c.args.file bytes reads) c.in_ok-opened-in-None.ensures.ok c.open.ensures.reads most (subst (λ (t : Option PairScan). KeysPay c.args.file types t v.files most) c.in-None.is is))

pub returns-in_ok-opened-in-None-clause-ready : goal.returns-in_ok-opened-in-None-clause-ready
returns-in_ok-opened-in-None-clause-ready g c =
    let v = g.H.Host.view c.args.host.now in
    let w = g.H.Host.view c.open.new.host in
    subst (λ (scan : PairScan). KeysReady c.args.file (Some scan) w.files) (sym c.tree.ensures)
    (opened_ready v w c.args.file c.args.types.now _ c.open.ensures.read.changes c.in_ok-opened-in-None.ensures.file c.in_ok-opened-in-None.ensures.types c.in_ok-opened-in-None.ensures.header_and_footer)

pub returns-in_ok-opened-in-None-clause-faults : goal.returns-in_ok-opened-in-None-clause-faults
returns-in_ok-opened-in-None-clause-faults g c =
    let v = g.H.Host.view c.args.host.now in
    let w = g.H.Host.view c.open.new.host in
    faults_as _ _ _ (TreeLeaves c.args.file c.args.types.now None v.files) (TreeLeaves c.args.file c.args.types.now c.args.tree v.files) v w _ (λ damage is. is) (λ left is. (left, subst (λ (t : Option PairScan). TreeLeaves c.args.file c.args.types.now t v.files left) c.in-None.is is))
    (faults_ok _ _ _ (TreeLeaves c.args.file c.args.types.now None v.files) v w _ _ (opening_faults v w c.args.file c.args.types.now 3 _ c.open.ensures.read.changes c.in_ok-opened-in-None.ensures.causes c.in_ok-opened-in-None.ensures.damaged c.in_ok-opened-in-None.ensures.undamaged))
