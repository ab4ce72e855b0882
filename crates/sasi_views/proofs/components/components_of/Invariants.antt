use Rattle.std.proofs.Common.{◌≡◌, ◌++◌, drop}
use Rattle.sasi_views.specs.Parts.{components_of}
use Rattle.sasi_views.proofs.components.components_of.Given as goal

abbrev pub invariant-loop-part : goal.invariant-loop-part
invariant-loop-part l = l.components.items ++ components_of (drop l.part-index l.parts) ≡ components_of l.parts
