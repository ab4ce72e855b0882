use Rattle.std.proofs.Common.{arith, rules, sym, take, ◌∙◌}
use Rattle.std.proofs.lemmas.List.{take_all}
use Rattle.std.proofs.lemmas.List.Elements.{All-same}
use Rattle.sasi_host.specs.Disk.{Same}
use Rattle.sasi_host.proofs.ChangeLaws.{stays, then_same}
use Rattle.sasi_recover.specs.Opening.{IsRecordSynced}
use Rattle.sasi_recover.proofs.SyncedFolder.{synced_more, there_same}
use Rattle.sasi_recover.proofs.folder_sync.sync_records.Goals as goal

pub loop-name-init : goal.loop-name-init
loop-name-init g c = record {
  same = stays (g.H.Host.view c.args.host.now);
  done = λ k d below. absurd (omega (arith, below));
  disk = search rules;
  out = search
      rules;
  reads = search rules;
}

pub returns-in_err-sync_record-clause-changes : goal.returns-in_err-sync_record-clause-changes
returns-in_err-sync_record-clause-changes g c = then_same (g.H.Host.view c.args.host.now) (g.H.Host.view c.loop-name.host)
    (g.H.Host.view c.sync_record.new.host) Same c.loop-name.invariant.same c.sync_record.ensures.changes

pub loop-name-preserved : goal.loop-name-preserved
loop-name-preserved g c = record {
  same = then_same (g.H.Host.view c.args.host.now) (g.H.Host.view c.loop-name.host) (g.H.Host.view c.sync_record.new.host) Same
      c.loop-name.invariant.same c.sync_record.ensures.changes;
  done = synced_more (g.H.Host.view c.loop-name.host) (g.H.Host.view c.sync_record.new.host) c.sync_record.ensures.changes c.args.names.now
      c.loop-name.name-index _ c.loop-name-test.true c.loop-name.invariant.done c.in_ok-sync_record.ensures.synced;
  disk = c.in_ok-sync_record.ensures.causes.ok ∙ c.loop-name.invariant.disk;
  out = c.sync_record.ensures.causes.out ∙ c.loop-name.invariant.out;
  reads = c.sync_record.ensures.causes.reads ∙ c.loop-name.invariant.reads;
}

pub sync_record-requires : goal.sync_record-requires
sync_record-requires g c = there_same (g.H.Host.view c.args.host.now) (g.H.Host.view c.loop-name.host) c.loop-name.invariant.same _
    (c.requires c.loop-name.name-index _ c.loop-name-test.true)

pub returns-clause-synced : goal.returns-clause-synced
returns-clause-synced g c = All-same (IsRecordSynced (g.H.Host.view c.loop-name.host)) c.args.names.now
    (take c.loop-name.name-index c.args.names.now) (sym (take_all c.loop-name.name-index c.args.names.now c.loop-name-test.false))
    c.loop-name.invariant.done
