use Rattle.std.proofs.Common.{◌≡◌, All, drop, take, false}
use Rattle.sasi_host.specs.View.{IsAbsent}
use Rattle.sasi_host.specs.Disk.{Changes}
use Rattle.sasi_recover.specs.Deletion.{Deletes, keeps}
use Rattle.sasi_recover.proofs.DeletedFiles.{AreLeft}
use Rattle.sasi_recover.proofs.unlisted_files.delete_unlisted.Given as goal

-- those so far are gone unless they are kept, and the others are there
abbrev pub invariant-loop-name : goal.invariant-loop-name
invariant-loop-name g l = record {
  deletes : Changes (Deletes (keeps l.keep l.files)) (g.H.Host.view l.fn.host) (g.H.Host.view l.host);
  gone : All (λ name. keeps l.keep l.files name ≡ false → IsAbsent (g.H.Host.view l.host) name) (take l.name-index l.names);
  left : AreLeft (g.H.Host.view l.host) (drop l.name-index l.names);
  disk : (g.H.Host.view l.host).disk_faults ≡ (g.H.Host.view l.fn.host).disk_faults;
  out : (g.H.Host.view l.host).out_faults ≡ (g.H.Host.view l.fn.host).out_faults;
  reads : (g.H.Host.view l.host).reads ≡ (g.H.Host.view l.fn.host).reads;
}
