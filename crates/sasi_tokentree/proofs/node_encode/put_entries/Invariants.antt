use Rattle.std.proofs.Common.{◌≡◌, ◌++◌, take}
use Rattle.std.specs.List.{flat_map}
use Rattle.sasi_tokentree.specs.Format.{entry}
use Rattle.sasi_tokentree.proofs.Fitting.{FirstFit}
use Rattle.sasi_tokentree.proofs.node_encode.put_entries.Given as goal

abbrev pub invariant-loop-pair : goal.invariant-loop-pair
invariant-loop-pair l = record {
  written : l.bytes.items ≡ l.fn.bytes.items ++ flat_map entry (take l.pair-index l.entries);
  fit : FirstFit l.entries l.pair-index;
}
