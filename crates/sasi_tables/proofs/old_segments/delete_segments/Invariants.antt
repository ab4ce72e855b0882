use Rattle.std.proofs.Common.{◌≡◌}
use Rattle.sasi_host.specs.Disk.{Changes}
use Rattle.sasi_tables.specs.Flushing.{AreAbsent, AreThere, DeletesSegments}
use Rattle.sasi_tables.proofs.old_segments.delete_segments.Given as goal

-- the segments so far are gone, and the others are there
abbrev pub invariant-loop-segment : goal.invariant-loop-segment
invariant-loop-segment g l = record {
  deletes : Changes (DeletesSegments l.first l.floor) (g.H.Host.view l.fn.host) (g.H.Host.view l.host);
  gone : AreAbsent (g.H.Host.view l.host) l.first l.segment;
  left : AreThere (g.H.Host.view l.host) l.segment l.floor;
  disk : (g.H.Host.view l.host).disk_faults ≡ (g.H.Host.view l.fn.host).disk_faults;
  out : (g.H.Host.view l.host).out_faults ≡ (g.H.Host.view l.fn.host).out_faults;
  reads : (g.H.Host.view l.host).reads ≡ (g.H.Host.view l.fn.host).reads;
}
