use Rattle.std.proofs.Common.{◌+◌, ℕ, List, IfSome, Ok, drop}
use Rattle.sasi_types.specs.declared.column.ColumnType.{ColumnType}
use Rattle.sasi_types.specs.declared.partitioner.Partitioner.{Partitioner}
use Rattle.sasi_datawrite.specs.Format.{Content}
use Rattle.sasi_memtable.specs.MemtableView.{MemtableView}
use Rattle.sasi_ranges.specs.StreamCalls.{CanStream, HasStreamed, StreamFaults}
use Rattle.sasi_scan.specs.Parts.{IsMergeOfParts}
use Rattle.sasi_lookup.specs.Lookups.{AreTurned, FilesOpen, FilesReady, FilesShow}
use Rattle.sasi_lookup.specs.Reads.{found_pages}
use Rattle.sasi_lookup.proofs.FindLaws.{IsFinding}
use Rattle.sasi_lookup.proofs.found.find_in_files.Given as goal

-- the key was looked up in the files so far
abbrev pub invariant-loop-file : goal.invariant-loop-file
invariant-loop-file g l =
    let view = g.H.Host.view in
    record {
      can : CanStream (g.P.PageReader.agrees l.pages) (FilesOpen l.files) (view l.host);
      finding : (p : Partitioner) (token : ℕ) (types : List ColumnType) (contents : List Content) → FilesReady types (view l.fn.host).files l.files → AreTurned (view l.fn.host).files types l.files (p, (token, contents))
          → IsFinding (view l.fn.host).files types p token l.key (drop l.file-index l.files) contents l.found (view l.host).reads ((view l.fn.host).reads + found_pages l.key contents);
      of_parts : (types : List ColumnType) (maps : List MemtableView) → FilesReady types (view l.fn.host).files l.files → IfSome l.found (IsMergeOfParts types maps l.key);
      read : HasStreamed (g.P.PageReader.agrees l.pages) (g.P.PageReader.covers l.fn.pages) (g.P.PageReader.covers l.pages) (FilesOpen l.files) (FilesOpen l.files) (view l.fn.host) (view l.host);
      faults : (types : List ColumnType) → FilesReady types (view l.fn.host).files l.files
          → StreamFaults {T = ℕ} (FilesShow types (view l.fn.host).files l.files) (FilesShow types (view l.host).files l.files) (AreTurned (view l.fn.host).files types l.files) (view l.fn.host) (view l.host) (Ok 0);
    }
