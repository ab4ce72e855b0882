use Rattle.std.proofs.Common.{◌≡◌, ◌+◌, ℕ, List, Ok}
use Rattle.sasi_types.specs.declared.partitioner.Partitioner.{Partitioner}
use Rattle.sasi_datawrite.specs.Format.{Content}
use Rattle.sasi_ranges.specs.StreamCalls.{CanStream, HasStreamed, StreamFaults}
use Rattle.sasi_lookup.specs.Lookups.{AreDataOf, AreRight, FilesOpen, FilesReady, FilesShow}
use Rattle.sasi_lookup.specs.Reads.{turn_reads}
use Rattle.sasi_lookup.proofs.TurnLaws.{IsTurning, names_of}
use Rattle.sasi_lookup.proofs.lookup.turn_files.Given as goal

-- the files so far were turned
abbrev pub invariant-loop-file : goal.invariant-loop-file
invariant-loop-file g l =
    let view = g.H.Host.view in
    record {
      can : CanStream (g.P.PageReader.agrees l.pages) (FilesOpen l.files) (view l.host);
      still_ready : FilesReady l.types (view l.host).files l.files;
      names : names_of l.files ≡ names_of l.fn.files;
      turning : (p : Partitioner) (contents : List Content) → AreDataOf (view l.fn.host).files p l.types l.fn.files contents
          → IsTurning (view l.host).files p l.token l.types l.file-index l.files contents (view l.host).reads ((view l.fn.host).reads + turn_reads p l.token l.fn.files contents);
      read : HasStreamed (g.P.PageReader.agrees l.pages) (g.P.PageReader.covers l.fn.pages) (g.P.PageReader.covers l.pages) (FilesOpen l.fn.files) (FilesOpen l.files) (view l.fn.host) (view l.host);
      faults : StreamFaults {T = ℕ} (FilesShow l.types (view l.fn.host).files l.fn.files) (FilesShow l.types (view l.host).files l.files) (AreRight (view l.fn.host).files l.types l.fn.files) (view l.fn.host) (view l.host) (Ok 0);
    }
