use Rattle.std.proofs.Common.{◌∙◌, map}
use Rattle.sasi_analyzers.proofs.Classes.{finds_has}
use Rattle.sasi_analyzers.proofs.kit.Kit.has.Goals as goal

pub returns : goal.returns
returns g c =
    c.is_some.ensures
    ∙ finds_has c.args.class (map (λ b. (goal.Analyzer-dyn g (b.vtable, b.value)).kind b.value) c.args.self.now.objects.items) c.position_of.result (rw c.deref.ensures.value at c.position_of.ensures)
