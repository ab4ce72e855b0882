use Rattle.std.proofs.Common.{◌≡◌, List}
use Rattle.sasi_types.specs.declared.tree.Pair.{Pair}
use Rattle.sasi_host.specs.Names.{Bytes}
use Rattle.std.proofs.Common.{Some}
use Rattle.std.specs.Prelude.{All}
use Rattle.sasi_host.specs.View.{IsThere, contents}
use Rattle.sasi_host.specs.PageReading.{HasRead}
use Rattle.sasi_treemerge.specs.Merges.{CanMerge, Gives, IsSourceIn, ReadsEach, TreesStay, held_of, parts_of, sources_of, unread_of}
use Rattle.sasi_treemerge.proofs.Stepping.{Pays}
use Rattle.sasi_treemerge.proofs.Taking.{KeepsLeft, left_in_parts}
use Rattle.sasi_treemerge.proofs.merge.TreeMerge.next.Given as goal

abbrev pub invariant-loop-pair : goal.invariant-loop-pair
invariant-loop-pair g l =
    let view = g.H.Host.view in
    record {
      there : IsThere (view l.host) l.self.file;
      read : HasRead (g.P.PageReader.agrees l.pages) (g.P.PageReader.covers l.fn.pages) (g.P.PageReader.covers l.pages) (view l.fn.host) (view l.host) l.fn.self.file;
      can : CanMerge (view l.host) l.self;
      file : l.self.file ≡ l.fn.self.file;
      last : l.self.last ≡ l.fn.self.last;
      floor : l.self.floor ≡ l.fn.self.floor;
      trees : TreesStay (sources_of l.fn.self) (sources_of l.self);
      reads_each : ReadsEach (view l.fn.host) l.fn.self.file (sources_of l.fn.self) (sources_of l.self);
      keeps : KeepsLeft l.fn.self.last l.fn.self.floor (held_of l.fn.self) (held_of l.self);
      pays : Pays (view l.fn.host) (view l.host) (unread_of (sources_of l.fn.self)) (unread_of (sources_of l.self));
      each : (bytes : Bytes) (lists : List (List Pair)) → contents (view l.fn.host) l.fn.self.file ≡ Some bytes → All (IsSourceIn bytes lists) (sources_of l.fn.self) → All (IsSourceIn bytes lists) (sources_of l.self);
      gives : (bytes : Bytes) (lists : List (List Pair)) → contents (view l.fn.host) l.fn.self.file ≡ Some bytes → Gives bytes lists l.fn.self.last l.fn.self.floor (parts_of l.fn.self)
          → Gives bytes lists l.fn.self.last l.fn.self.floor (parts_of l.self);
    }

abbrev pub decreases-loop-pair : goal.decreases-loop-pair
decreases-loop-pair g l = left_in_parts (parts_of l.self)
