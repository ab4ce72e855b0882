use Rattle.std.proofs.Common.{length}
use Rattle.std.proofs.lemmas.Result.{on_ok_weaker}
use Rattle.sasi_host.specs.Names.{Bytes}
use Rattle.sasi_host.specs.Disk.{FileChange, InPlace, Torn, overlay}
use Rattle.sasi_host.proofs.ChangeLaws.{then_same}
use Rattle.sasi_host.proofs.ContentLaws.{becomes_on}
use Rattle.sasi_host.proofs.Durability.{durable}
use Rattle.sasi_host.proofs.durable.write_durably.Goals as goal

pub returns-clause-ok : goal.returns-clause-ok
returns-clause-ok g c =
    on_ok_weaker c.sync.result (λ synced old kept. durable (g.H.Host.view c.args.host.now) (g.H.Host.view c.write.new.self)
    (g.H.Host.view c.sync.new.self) c.args.file (Torn c.args.at (length c.args.bytes.now)) (λ (l : Bytes). overlay l c.args.at c.args.bytes.now)
    (g.met.H.Host.sound c.args.host.now) (g.met.H.Host.sound c.sync.new.self) c.write.ensures.changes c.in_ok-write.ensures.ok c.sync.ensures.changes synced old kept) c.sync.ensures.ok

pub returns-clause-changes : goal.returns-clause-changes
returns-clause-changes g c =
    then_same (g.H.Host.view c.args.host.now) (g.H.Host.view c.write.new.self) (g.H.Host.view c.sync.new.self)
    (FileChange c.args.file (InPlace (Torn c.args.at (length c.args.bytes.now)))) c.write.ensures.changes c.sync.ensures.changes

pub returns-clause-reads : goal.returns-clause-reads
returns-clause-reads g c =
    on_ok_weaker c.sync.result (λ synced. becomes_on (g.H.Host.view c.args.host.now) (g.H.Host.view c.write.new.self)
    (g.H.Host.view c.sync.new.self) c.args.file (λ (l : Bytes). overlay l c.args.at c.args.bytes.now) c.in_ok-write.ensures.ok
    c.sync.ensures.changes) c.sync.ensures.ok
