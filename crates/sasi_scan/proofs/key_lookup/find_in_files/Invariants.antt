use Rattle.std.proofs.Common.{◌≡◌, List, IfSome, drop}
use Rattle.sasi_types.specs.declared.partitioner.Partitioner.{Partitioner}
use Rattle.sasi_model.specs.State.{decorated}
use Rattle.sasi_datawrite.specs.Format.{Content}
use Rattle.sasi_host.specs.Disk.{Changes, Same}
use Rattle.sasi_memtable.specs.MemtableView.{MemtableView}
use Rattle.sasi_scan.specs.Parts.{AreContents, IsMergeOfParts}
use Rattle.sasi_scan.proofs.KeyLookups.{IsLookingUp}
use Rattle.sasi_scan.proofs.key_lookup.find_in_files.Given as goal

-- the key was looked up in the files so far
abbrev pub invariant-loop-file : goal.invariant-loop-file
invariant-loop-file g l =
    let view = g.H.Host.view in
    record {
      looking : (p : Partitioner) (contents : List Content) → AreContents (view l.fn.host).files p l.types l.files contents → l.key ≡ decorated p l.key.key → IsLookingUp (view l.fn.host).files p l.types l.key (drop l.file-index l.files) contents l.found (view l.fn.host).reads (view l.host).reads;
      of_parts : (maps : List MemtableView) → IfSome l.found (IsMergeOfParts l.types maps l.key.key);
      changes : Changes Same (view l.fn.host) (view l.host);
      disk : (view l.host).disk_faults ≡ (view l.fn.host).disk_faults;
      out : (view l.host).out_faults ≡ (view l.fn.host).out_faults;
    }
