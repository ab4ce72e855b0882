use Rattle.std.proofs.Common.{◌∙◌}
use Rattle.std.proofs.lemmas.Result.{on_ok_weaker}
use Rattle.sasi_host.specs.Disk.{InPlace}
use Rattle.sasi_host.proofs.ChangeLaws.{touches, touches_on}
use Rattle.sasi_tokentree.specs.Writes.{KeepsBefore}
use Rattle.sasi_datawrite.proofs.Appends.{trailer_written}
use Rattle.sasi_datawrite.proofs.trailer.write_trailer.Goals as goal

pub returns-in_err-tree-clause-changes : goal.returns-in_err-tree-clause-changes
returns-in_err-tree-clause-changes g c = touches _ _ c.args.file (InPlace (KeepsBefore c.args.end)) c.write.ensures.changes

pub returns-in_err-bytes-clause-changes : goal.returns-in_err-bytes-clause-changes
returns-in_err-bytes-clause-changes g c = touches _ _ c.args.file (InPlace (KeepsBefore c.args.end)) c.write.ensures.changes

pub returns-clause-ok : goal.returns-clause-ok
returns-clause-ok g c =
    on_ok_weaker c.append.result
    (λ appended. trailer_written (g.H.Host.view c.args.host.now) (g.H.Host.view c.write.new.host) (g.H.Host.view c.append.new.host) c.args.file
    c.args.end c.args.pairs.now c.args.max_timestamp c.in_ok-tree.tree c.deref.result.now
    c.in_ok-tree.ensures.ok c.in_ok-tree.ensures.tree (c.deref.ensures.value ∙ c.in_ok-bytes.ensures) appended)
    c.append.ensures.ok

pub returns-clause-changes : goal.returns-clause-changes
returns-clause-changes g c = touches_on _ _ _ c.args.file (touches _ _ c.args.file (InPlace (KeepsBefore c.args.end)) c.write.ensures.changes) c.append.ensures.changes
