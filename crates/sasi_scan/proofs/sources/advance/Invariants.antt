use Rattle.std.proofs.Common.{◌≡◌, length, take}
use Rattle.sasi_types.specs.declared.partitioner.Partitioner.{Partitioner}
use Rattle.sasi_scan.specs.Paging.{MovesReading}
use Rattle.sasi_host.specs.Disk.{Changes, Same}
use Rattle.sasi_merge.specs.Merging.{merged_part}
use Rattle.sasi_scan.specs.Sources.{AreMoved}
use Rattle.sasi_scan.proofs.sources.advance.Given as goal

-- the sources so far went on
abbrev pub invariant-loop-at : goal.invariant-loop-at
invariant-loop-at g l =
    let view = g.H.Host.view in
    record {
      moved : AreMoved (view l.fn.host).files l.maps l.key l.at l.fn.heads l.fn.sources.items l.heads l.sources.items;
      reads : (partitioner : Partitioner) → MovesReading (view l.fn.host).files partitioner l.fn.sources.items l.sources.items (view l.fn.host).reads (view l.host).reads;
      changes : Changes Same (view l.fn.host) (view l.host);
      disk : (view l.host).disk_faults ≡ (view l.fn.host).disk_faults;
      out : (view l.host).out_faults ≡ (view l.fn.host).out_faults;
      part : l.part ≡ merged_part l.key (take l.at l.fn.heads);
      end : l.at-end ≡ length l.fn.sources.items;
    }
