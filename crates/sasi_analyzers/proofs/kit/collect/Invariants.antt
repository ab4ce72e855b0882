use Rattle.std.proofs.Common.{◌≡◌, ◌++◌, length}
use Rattle.sasi_terms.specs.Terms.{terms}
use Rattle.sasi_analyzers.proofs.kit.collect.Given as goal

abbrev pub invariant-terms : goal.invariant-terms
invariant-terms g l =
    (terms l.fn.rule l.fn.text ≡ l.out ++ (goal.Analyzer-dyn g (l.object.vtable, l.object.value)).left l.object.value)
    × ((goal.Analyzer-dyn g (l.object.vtable, l.object.value)).kind l.object.value ≡ (goal.Analyzer-dyn g (l.fn.object.vtable, l.fn.object.value)).kind l.fn.object.value)

abbrev pub decreases-terms : goal.decreases-terms
decreases-terms g l = length ((goal.Analyzer-dyn g (l.object.vtable, l.object.value)).left l.object.value)
