use Rattle.std.proofs.Common.{Option, None, Some, Ok, List, subst, arith}
use Rattle.std.proofs.lemmas.Result.{err_from_is_err_and}
use Rattle.sasi_host.specs.Names.{Bytes}
use Rattle.sasi_ranges.proofs.Calling.{faults_handed, faults_memory, faults_ok, streams_nothing}
use Rattle.sasi_hits.specs.declared.open_searches.WordSearches.{WordSearches}
use Rattle.sasi_hits.specs.IndexHits.{AreFresh, HitsLeave, HitsPay}
use Rattle.sasi_hits.proofs.CallLaws.{streamed}
use Rattle.sasi_hits.proofs.OpenHitLaws.{opened_hits, opened_hits_pay, opened_hits_ready, opening_hit_faults, unopened_hits_pay}
use Rattle.sasi_hits.proofs.open_searches.open_searches.Goals as goal

pub returns-in-Some-clause-read : goal.returns-in-Some-clause-read
returns-in-Some-clause-read g c = streams_nothing _ _ _ (g.H.Host.view c.args.host.now) c.requires.read.agrees

pub returns-in-Some-clause-reads : goal.returns-in-Some-clause-reads
returns-in-Some-clause-reads g c most is =
    (most, subst (λ (t : Option WordSearches). HitsPay c.args.file c.args.op.now c.args.words.now t (g.H.Host.view c.args.host.now).files most) c.in-Some.is is, omega arith)

pub returns-in_err-index-in-None-clause-reads : goal.returns-in_err-index-in-None-clause-reads
returns-in_err-index-in-None-clause-reads g c most is =
    let p = err_from_is_err_and c.from_residual.result c.from_residual.ensures.1 in
    let v = g.H.Host.view c.args.host.now in
    let w = g.H.Host.view c.open.new.host in
    rw p.1 (unopened_hits_pay v w c.args.file c.args.op.now c.args.words.now (omega (arith, c.open.ensures.causes.reads)) most (subst (λ (t : Option WordSearches). HitsPay c.args.file c.args.op.now c.args.words.now t v.files most) c.in-None.is is))

pub returns-in_err-index-in-None-clause-read : goal.returns-in_err-index-in-None-clause-read
returns-in_err-index-in-None-clause-read g c = streamed _ _ _ (g.H.Host.view c.args.host.now) (g.H.Host.view c.open.new.host) c.args.file c.open.ensures.read

pub returns-in_err-index-in-None-clause-faults : goal.returns-in_err-index-in-None-clause-faults
returns-in_err-index-in-None-clause-faults g c =
    let p = err_from_is_err_and c.from_residual.result c.from_residual.ensures.1 in
    let v = g.H.Host.view c.args.host.now in
    let w = g.H.Host.view c.open.new.host in
    let file = c.args.file in
    let op = c.args.op.now in
    let words = c.args.words.now in
    rw (p.1, p.2) (faults_handed _ _ _ _ v w c.open.result c.in_err-index-in-None.field-0.0 c.in_err-index-in-None.was
    (λ left is. (left, (is.0, subst (λ (t : Option WordSearches). HitsLeave file op words is.0 t v.files left) c.in-None.is is.1)))
    (opening_hit_faults v w file op words 3 c.open.result c.open.ensures.read.changes c.open.ensures.causes c.open.ensures.damaged c.open.ensures.undamaged))

pub returns-in_err-searches-in-None-clause-reads : goal.returns-in_err-searches-in-None-clause-reads
returns-in_err-searches-in-None-clause-reads g c most is =
    let p = err_from_is_err_and c.from_residual-in_err-searches-in-None.result c.from_residual-in_err-searches-in-None.ensures.1 in
    let v = g.H.Host.view c.args.host.now in
    let w = g.H.Host.view c.open.new.host in
    rw p.1 (unopened_hits_pay v w c.args.file c.args.op.now c.args.words.now (omega (arith, c.in_ok-index-in-None.ensures.causes.reads)) most (subst (λ (t : Option WordSearches). HitsPay c.args.file c.args.op.now c.args.words.now t v.files most) c.in-None.is is))

pub returns-in_err-searches-in-None-clause-read : goal.returns-in_err-searches-in-None-clause-read
returns-in_err-searches-in-None-clause-read g c = streamed _ _ _ (g.H.Host.view c.args.host.now) (g.H.Host.view c.open.new.host) c.args.file c.open.ensures.read

pub returns-in_err-searches-in-None-clause-faults : goal.returns-in_err-searches-in-None-clause-faults
returns-in_err-searches-in-None-clause-faults g c =
    let p = err_from_is_err_and c.from_residual-in_err-searches-in-None.result c.from_residual-in_err-searches-in-None.ensures.1 in
    let v = g.H.Host.view c.args.host.now in
    let w = g.H.Host.view c.open.new.host in
    let index = c.in_ok-index-in-None.index in
    rw (p.1, p.2) (faults_memory _ _ _ _ v w index
    (opening_hit_faults v w c.args.file c.args.op.now c.args.words.now 3 (Ok index) c.open.ensures.read.changes c.in_ok-index-in-None.ensures.causes c.in_ok-index-in-None.ensures.damaged c.in_ok-index-in-None.ensures.undamaged))

pub returns-in_ok-searches-in-None-clause-leaves : goal.returns-in_ok-searches-in-None-clause-leaves
returns-in_ok-searches-in-None-clause-leaves g c floor left is =
    let v = g.H.Host.view c.args.host.now in
    let w = g.H.Host.view c.open.new.host in
    let index = c.in_ok-index-in-None.index in
    let words = c.args.words.now in
    let fresh = subst (λ (l : List Bytes). AreFresh index c.args.op.now l c.in_ok-searches-in-None.searches) c.as_slice.ensures c.in_ok-searches-in-None.ensures in
    opened_hits v w c.args.file c.args.op.now words index c.in_ok-searches-in-None.searches c.open.ensures.read.changes c.in_ok-index-in-None.ensures.file fresh c.in_ok-index-in-None.ensures.ok floor left
    (subst (λ (t : Option WordSearches). HitsLeave c.args.file c.args.op.now words floor t v.files left) c.in-None.is is)

pub returns-in_ok-searches-in-None-clause-reads : goal.returns-in_ok-searches-in-None-clause-reads
returns-in_ok-searches-in-None-clause-reads g c most is =
    let v = g.H.Host.view c.args.host.now in
    let w = g.H.Host.view c.open.new.host in
    let index = c.in_ok-index-in-None.index in
    let words = c.args.words.now in
    let fresh = subst (λ (l : List Bytes). AreFresh index c.args.op.now l c.in_ok-searches-in-None.searches) c.as_slice.ensures c.in_ok-searches-in-None.ensures in
    opened_hits_pay v w c.args.file c.args.op.now words index c.in_ok-searches-in-None.searches c.open.ensures.read.changes c.in_ok-index-in-None.ensures.file fresh c.in_ok-index-in-None.ensures.ok
    (λ bytes reads. (g.met.H.Host.sound c.args.host.now).fits c.args.file bytes reads) c.in_ok-index-in-None.ensures.header_and_footer (omega (arith, c.in_ok-index-in-None.ensures.causes.reads)) most
    (subst (λ (t : Option WordSearches). HitsPay c.args.file c.args.op.now words t v.files most) c.in-None.is is)

pub returns-in_ok-searches-in-None-clause-ready : goal.returns-in_ok-searches-in-None-clause-ready
returns-in_ok-searches-in-None-clause-ready g c =
    let v = g.H.Host.view c.args.host.now in
    let w = g.H.Host.view c.open.new.host in
    let index = c.in_ok-index-in-None.index in
    let fresh = subst (λ (l : List Bytes). AreFresh index c.args.op.now l c.in_ok-searches-in-None.searches) c.as_slice.ensures c.in_ok-searches-in-None.ensures in
    opened_hits_ready v w c.args.file c.args.op.now c.args.words.now index c.in_ok-searches-in-None.searches c.open.ensures.read.changes c.in_ok-index-in-None.ensures.file fresh c.in_ok-index-in-None.ensures.header_and_footer

pub returns-in_ok-searches-in-None-clause-read : goal.returns-in_ok-searches-in-None-clause-read
returns-in_ok-searches-in-None-clause-read g c = streamed _ _ _ (g.H.Host.view c.args.host.now) (g.H.Host.view c.open.new.host) c.args.file c.open.ensures.read

pub returns-in_ok-searches-in-None-clause-faults : goal.returns-in_ok-searches-in-None-clause-faults
returns-in_ok-searches-in-None-clause-faults g c =
    let v = g.H.Host.view c.args.host.now in
    let w = g.H.Host.view c.open.new.host in
    let index = c.in_ok-index-in-None.index in
    faults_ok _ _ _ _ v w index _ (opening_hit_faults v w c.args.file c.args.op.now c.args.words.now 3 (Ok index) c.open.ensures.read.changes c.in_ok-index-in-None.ensures.causes c.in_ok-index-in-None.ensures.damaged c.in_ok-index-in-None.ensures.undamaged)
