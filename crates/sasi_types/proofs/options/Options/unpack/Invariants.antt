use Rattle.std.proofs.Common.{◌≡◌, ◌++◌, length}
use Rattle.std.specs.List.{zip}
use Rattle.sasi_types.proofs.options.Options.unpack.Given as goal

-- the options so far, and those that are left
abbrev pub invariant-options : goal.invariant-options
invariant-options l = (l.fn.self ≡ l.all.items ++ zip l.options l.values) × (length l.options ≡ length l.values)

abbrev pub decreases-options : goal.decreases-options
decreases-options l = length l.options
