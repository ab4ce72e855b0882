use Rattle.std.proofs.Common.{◌+◌, ◌≤◌, IfSome, Option, subst, sym}
use Rattle.std.proofs.lemmas.Result.{err_from_is_err_and}
use Rattle.sasi_dataread.specs.Opened.{IsOpenedAs, OpenDataFile}
use Rattle.sasi_ranges.proofs.Calling.{fails_nothing, faults_handed}
use Rattle.sasi_lookup.specs.Files.{IsOpenIn}
use Rattle.sasi_lookup.specs.Reads.{opening_reads}
use Rattle.sasi_lookup.proofs.FileLaws.{opened_now, opening_faults, reads_none}
use Rattle.sasi_lookup.proofs.opening.open_file.Goals as goal

pub returns-in_err-opened-in-None-clause-reads : goal.returns-in_err-opened-in-None-clause-reads
returns-in_err-opened-in-None-clause-reads g c p content is =
    let v = g.H.Host.view c.args.host.now in
    let w = g.H.Host.view c.open.new.host in
    subst (λ (o : Option OpenDataFile). w.reads ≤ v.reads + opening_reads o) (sym c.in-None.is) c.open.ensures.causes.reads

pub returns-in_err-opened-in-None-clause-faults : goal.returns-in_err-opened-in-None-clause-faults
returns-in_err-opened-in-None-clause-faults g c =
    let p = err_from_is_err_and c.from_residual.result c.from_residual.ensures.1 in
    let v = g.H.Host.view c.args.host.now in
    let w = g.H.Host.view c.open.new.host in
    rw (p.1, p.2) (faults_handed _ _ _ _ v w c.open.result c.in_err-opened-in-None.field-0.0 c.in_err-opened-in-None.was (λ has is. (has, is))
    (opening_faults v w c.args.name c.args.types.now c.open.ensures.read.changes c.args.opened 3 c.open.result c.open.ensures.causes c.open.ensures.damaged c.open.ensures.undamaged))

pub returns-in-Some-clause-ready : goal.returns-in-Some-clause-ready
returns-in-Some-clause-ready g c =
    let v = g.H.Host.view c.args.host.now in
    subst (λ (o : Option OpenDataFile). IfSome o (IsOpenIn v.files c.args.types.now c.args.name)) c.in-Some.is c.requires.ready

pub returns-in-Some-clause-opens : goal.returns-in-Some-clause-opens
returns-in-Some-clause-opens g c p content is = subst (λ (o : Option OpenDataFile). IfSome o (λ q. IsOpenedAs q p content)) c.in-Some.is is.opened_as

pub returns-in-Some-clause-read : goal.returns-in-Some-clause-read
returns-in-Some-clause-read g c = reads_none _ _ (g.H.Host.view c.args.host.now) c.args.name c.requires.read.agrees

pub returns-in-Some-clause-faults : goal.returns-in-Some-clause-faults
returns-in-Some-clause-faults g c = fails_nothing _ _ (g.H.Host.view c.args.host.now) _

pub returns-in_ok-opened-in-None-clause-ready : goal.returns-in_ok-opened-in-None-clause-ready
returns-in_ok-opened-in-None-clause-ready g c =
    let v = g.H.Host.view c.args.host.now in
    let w = g.H.Host.view c.open.new.host in
    opened_now v w c.args.name c.args.types.now c.open.ensures.read.changes _ c.in_ok-opened-in-None.ensures.file c.in_ok-opened-in-None.ensures.types c.in_ok-opened-in-None.ensures.header_and_footer

pub returns-in_ok-opened-in-None-clause-opens : goal.returns-in_ok-opened-in-None-clause-opens
returns-in_ok-opened-in-None-clause-opens g c p content is = c.in_ok-opened-in-None.ensures.ok is.bytes p content is.reads is.data_file

pub returns-in_ok-opened-in-None-clause-reads : goal.returns-in_ok-opened-in-None-clause-reads
returns-in_ok-opened-in-None-clause-reads g c p content is =
    let v = g.H.Host.view c.args.host.now in
    let w = g.H.Host.view c.open.new.host in
    subst (λ (o : Option OpenDataFile). w.reads ≤ v.reads + opening_reads o) (sym c.in-None.is) c.open.ensures.causes.reads

pub returns-in_ok-opened-in-None-clause-faults : goal.returns-in_ok-opened-in-None-clause-faults
returns-in_ok-opened-in-None-clause-faults g c =
    let v = g.H.Host.view c.args.host.now in
    let w = g.H.Host.view c.open.new.host in
    opening_faults v w c.args.name c.args.types.now c.open.ensures.read.changes c.args.opened 3 _ c.in_ok-opened-in-None.ensures.causes c.in_ok-opened-in-None.ensures.damaged c.in_ok-opened-in-None.ensures.undamaged
