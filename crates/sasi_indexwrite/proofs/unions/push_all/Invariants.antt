use Rattle.std.proofs.Common.{◌≡◌, ◌++◌, take}
use Rattle.sasi_tokentree.proofs.Fitting.{FirstFit}
use Rattle.sasi_indexwrite.proofs.unions.push_all.Given as goal

abbrev pub invariant-loop-pair : goal.invariant-loop-pair
invariant-loop-pair l = record {
  pushed : l.list ≡ l.fn.list ++ take l.pair-index l.pairs;
  fit : FirstFit l.pairs l.pair-index;
}
