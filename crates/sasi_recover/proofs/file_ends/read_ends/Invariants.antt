use Rattle.std.proofs.Common.{◌≡◌, ◌+◌, ◌≤◌, All, take}
use Rattle.sasi_host.specs.Disk.{Changes, IsSynced, Same}
use Rattle.sasi_recover.specs.FileEnds.{HasEnd, IsLargestOf}
use Rattle.sasi_recover.specs.OpeningReads.{ends_reads}
use Rattle.sasi_recover.proofs.file_ends.read_ends.Given as goal

-- those so far are synced and have their ends, and this is their largest timestamp
abbrev pub invariant-loop-file : goal.invariant-loop-file
invariant-loop-file g l = record {
  same : Changes Same (g.H.Host.view l.fn.host) (g.H.Host.view l.host);
  ends : All (HasEnd (g.H.Host.view l.fn.host)) (take l.file-index l.files);
  synced : All (IsSynced (g.H.Host.view l.host)) (take l.file-index l.files);
  time : IsLargestOf (g.H.Host.view l.fn.host) (take l.file-index l.files) l.largest;
  disk : (g.H.Host.view l.host).disk_faults ≡ (g.H.Host.view l.fn.host).disk_faults;
  out : (g.H.Host.view l.host).out_faults ≡ (g.H.Host.view l.fn.host).out_faults;
  reads : (g.H.Host.view l.host).reads ≤ (g.H.Host.view l.fn.host).reads + ends_reads (take l.file-index l.files);
}
