use Rattle.std.proofs.Common.{◌≡◌, ◌++◌, [], take}
use Rattle.sasi_formats.specs.Formats.{encoded, encoded_items}
use Rattle.sasi_sparse.specs.Inline.{pair}
use Rattle.sasi_sparse.proofs.inline.put_pairs.Given as goal

abbrev pub invariant-loop-each : goal.invariant-loop-each
invariant-loop-each l = l.out.items ≡ l.fn.out.items ++ encoded_items (λ _. encoded pair) [] (take l.each-index l.pairs)
