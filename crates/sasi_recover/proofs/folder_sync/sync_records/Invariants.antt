use Rattle.std.proofs.Common.{◌≡◌, All, take}
use Rattle.sasi_host.specs.Disk.{Changes, Same}
use Rattle.sasi_recover.specs.Opening.{IsRecordSynced}
use Rattle.sasi_recover.proofs.folder_sync.sync_records.Given as goal

-- those so far are synced
abbrev pub invariant-loop-name : goal.invariant-loop-name
invariant-loop-name g l = record {
  same : Changes Same (g.H.Host.view l.fn.host) (g.H.Host.view l.host);
  done : All (IsRecordSynced (g.H.Host.view l.host)) (take l.name-index l.names);
  disk : (g.H.Host.view l.host).disk_faults ≡ (g.H.Host.view l.fn.host).disk_faults;
  out : (g.H.Host.view l.host).out_faults ≡ (g.H.Host.view l.fn.host).out_faults;
  reads : (g.H.Host.view l.host).reads ≡ (g.H.Host.view l.fn.host).reads;
}
