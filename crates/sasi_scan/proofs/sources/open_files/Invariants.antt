use Rattle.std.proofs.Common.{◌≡◌, List, [], take}
use Rattle.sasi_types.specs.declared.partitioner.Partitioner.{Partitioner}
use Rattle.sasi_datawrite.specs.Format.{Content}
use Rattle.sasi_scan.specs.Paging.{OpensReading, table_reads}
use Rattle.sasi_host.specs.Disk.{Changes, Same}
use Rattle.sasi_scan.specs.Opening.{AreOpened}
use Rattle.sasi_scan.specs.Parts.{AreContents}
use Rattle.sasi_scan.proofs.sources.open_files.Given as goal

-- the files so far were opened
abbrev pub invariant-loop-file : goal.invariant-loop-file
invariant-loop-file g l =
    let view = g.H.Host.view in
    record {
      opened : AreOpened (view l.fn.host).files l.types l.tokens (take l.file-index l.files) l.heads l.sources.items;
      reads : (partitioner : Partitioner) (contents : List Content) → AreContents (view l.fn.host).files partitioner l.types l.files contents → OpensReading (view l.fn.host).files partitioner (table_reads (view l.fn.host).files (take l.file-index l.files)) [] l.sources.items (view l.fn.host).reads (view l.host).reads;
      changes : Changes Same (view l.fn.host) (view l.host);
      disk : (view l.host).disk_faults ≡ (view l.fn.host).disk_faults;
      out : (view l.host).out_faults ≡ (view l.fn.host).out_faults;
    }
