use Rattle.std.proofs.Common.{◌∙◌, sym}
use Rattle.sasi_analyzers.proofs.Classes.{found_first}
use Rattle.sasi_analyzers.proofs.kit.position_of.Goals as goal

pub returns-then-is_of : goal.returns-then-is_of
returns-then-is_of g c =
    found_first (λ b. (goal.Analyzer-dyn g (b.vtable, b.value)).kind b.value) c.args.class c.args.objects.now c.objects.position c.index-objects-position.result
    c.objects-test.true c.index-objects-position.is (sym c.is_of.ensures ∙ c.if-is_of.true) c.objects.invariant.1
