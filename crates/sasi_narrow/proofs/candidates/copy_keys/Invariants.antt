use Rattle.std.proofs.Common.{◌≡◌, ◌++◌, drop, map}
use Rattle.sasi_narrow.proofs.candidates.copy_keys.Given as goal

abbrev pub invariant-loop-key : goal.invariant-loop-key
invariant-loop-key l = l.copies.items ++ map (λ key. key.now) (drop l.key-index l.keys) ≡ map (λ key. key.now) l.keys
