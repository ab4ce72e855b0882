use Rattle.std.proofs.Common.{◌∙◌}
use Rattle.sasi_tokentree.proofs.WriteLaws.{changes_past_stays, changes_past_torn, writes_once}
use Rattle.sasi_tokentree.proofs.writing.write_node.Goals as goal

pub returns-in_err-bytes-clause-changes : goal.returns-in_err-bytes-clause-changes
returns-in_err-bytes-clause-changes g c = changes_past_stays (g.H.Host.view c.args.host.now) c.args.file c.args.at

pub returns-in_err-write-clause-changes : goal.returns-in_err-write-clause-changes
returns-in_err-write-clause-changes g c = changes_past_torn _ _ c.args.file c.args.at _ c.write.ensures.changes

pub returns-clause-changes : goal.returns-clause-changes
returns-clause-changes g c = changes_past_torn _ _ c.args.file c.args.at _ c.write.ensures.changes

pub returns-clause-ok : goal.returns-clause-ok
returns-clause-ok g c =
    writes_once _ _ c.args.file c.args.at _ _ (c.deref.ensures.value ∙ c.in_ok-bytes.ensures.is) c.requires.room c.in_ok-write.ensures.ok c.write.ensures.changes
    (record { disk = c.in_ok-write.ensures.causes.ok; out = c.in_ok-write.ensures.causes.out; reads = c.in_ok-write.ensures.causes.reads })
