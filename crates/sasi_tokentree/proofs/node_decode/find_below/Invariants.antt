use Rattle.std.proofs.Common.{◌≡◌, ℕ, ◌+◌, ◌-◌, ◌*◌, ◌^◌, ◌<◌, List}
use Rattle.sasi_types.specs.declared.tree.Pair.{Pair}
use Rattle.sasi_host.specs.Damages.{HasAt}
use Rattle.sasi_tokentree.specs.Format.{pair_at, entry, node, AreFit}
use Rattle.sasi_tokentree.proofs.NodeCounts.{IsSmaller, IsAfterLast}
use Rattle.sasi_tokentree.proofs.node_decode.find_below.Given as goal

abbrev pub invariant-loop-index : goal.invariant-loop-index
invariant-loop-index l = record {
  fits : (l.last.token < 2 ^ 64) × (l.last.place < 2 ^ 64);
  stands : 0 < l.index → HasAt l.bytes (8 + 16 * (l.index - 1)) (entry l.last);
  last : (level : ℕ) (entries : List Pair) → AreFit entries → l.bytes ≡ node level entries → 0 < l.index → l.last ≡ pair_at entries (l.index - 1);
  below : (level : ℕ) (entries : List Pair) → AreFit entries → l.bytes ≡ node level entries → (k : ℕ) → k < l.index → (pair_at entries k).token < l.token;
  smaller : (k : ℕ) → k < l.index → IsSmaller l.bytes l.count l.token k;
  rising : (k : ℕ) → k < l.index → IsAfterLast l.bytes l.count k;
}
