use Rattle.std.proofs.Common.{◌≡◌, ℕ, ◌+◌, ◌-◌, ◌≤◌, List, Ok}
use Rattle.sasi_types.specs.declared.tree.Pair.{Pair}
use Rattle.sasi_host.specs.PageReading.{CanReadOn, HasReadOn}
use Rattle.sasi_tokentree.specs.Damages.{ShowsPairs}
use Rattle.sasi_tokentree.specs.Scans.{IsAtLast}
use Rattle.sasi_ranges.specs.StreamCalls.{StreamFaults}
use Rattle.sasi_hits.specs.Calls.{ShowsIn}
use Rattle.sasi_hits.specs.KeyTrees.{ScanLeaves, ScanPays}
use Rattle.sasi_hits.proofs.KeyLaws.{Passed}
use Rattle.sasi_hits.proofs.next_key.next_key.Given as goal

abbrev pub invariant-keys : goal.invariant-keys
invariant-keys g l =
    let view = g.H.Host.view in
    record {
      can : CanReadOn (g.P.PageReader.agrees l.pages) (view l.host) l.tree.buffered;
      read : HasReadOn (g.P.PageReader.agrees l.pages) (g.P.PageReader.covers l.fn.pages) (g.P.PageReader.covers l.pages) (view l.fn.host) (view l.host) l.fn.tree.buffered l.tree.buffered;
      at_last : IsAtLast l.tree (view l.host).files;
      tree_is : l.tree.tree ≡ l.fn.tree.tree;
      gives : (left : List Pair) → ScanLeaves l.fn.tree (view l.fn.host).files left → (now : List Pair) × Passed l.floor left now × ScanLeaves l.tree (view l.host).files now;
      pays : (most : ℕ) → ScanPays l.fn.tree (view l.fn.host).files most → (rest : ℕ) × ScanPays l.tree (view l.host).files rest × ((view l.host).reads + rest ≤ (view l.fn.host).reads + most);
      faults : StreamFaults {T = ℕ} (ShowsIn l.fn.tree.buffered.file (ShowsPairs l.fn.tree.buffered.file l.fn.tree.tree) (view l.fn.host).files) (ShowsIn l.fn.tree.buffered.file (ShowsPairs l.fn.tree.buffered.file l.fn.tree.tree) (view l.host).files) (ScanLeaves l.fn.tree (view l.fn.host).files) (view l.fn.host) (view l.host) (Ok 0);
    }

abbrev pub decreases-keys : goal.decreases-keys
decreases-keys g l = l.tree.tree.pairs - l.tree.passed
