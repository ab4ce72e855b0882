use Rattle.std.proofs.Common.{[], map, subst}
use Rattle.sasi_host.specs.declared.name.FileName.{FileName}
use Rattle.sasi_host.specs.Disk.{IsFileDurable}
use Rattle.sasi_gated.specs.Format.{IsGated}
use Rattle.sasi_gated.specs.Handles.{IsReading}
use Rattle.sasi_commitlog.specs.Format.{payload_of}
use Rattle.sasi_commitlog.proofs.log.Log.open.Goals as goal

pub returns-clause-mutations : goal.returns-clause-mutations
returns-clause-mutations g c tables bytes mutations kept log =
    let old = g.H.Host.view c.args.host.now in
    let new = g.H.Host.view c.open.new.host in
    let read = subst (λ (f : FileName). IsFileDurable old f bytes → IsGated f bytes (map payload_of mutations)
    → IsReading new f c.in_ok-gated.gated.at [] (map payload_of mutations)) c.log.ensures
    (c.in_ok-gated.ensures.records bytes (map payload_of mutations)) in
    record { reading = read kept log.gated; of_tables = log.of_tables }
