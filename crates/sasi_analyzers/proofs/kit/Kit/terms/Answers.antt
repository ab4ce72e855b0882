use Rattle.std.proofs.Common.{◌∙◌, map, ap}
use Rattle.sasi_analyzers.proofs.Classes.{found_is_there, kept, others_kept}
use Rattle.sasi_analyzers.proofs.kit.Kit.terms.Goals as goal

pub returns-in-Ok-clause-terms : goal.returns-in-Ok-clause-terms
returns-in-Ok-clause-terms g c =
    (rw c.class-class.ensures at (found_is_there c.class-class.result (map (λ b. (goal.Analyzer-dyn g (b.vtable, b.value)).kind b.value) c.args.self.now.objects.items) c.in-Some.position (rw c.deref.ensures.value at c.in-Some.ensures).0), c.in-Ok.ensures.terms)

pub returns-in-Ok-clause-classes : goal.returns-in-Ok-clause-classes
returns-in-Ok-clause-classes g c =
    kept (λ b. (goal.Analyzer-dyn g (b.vtable, b.value)).kind b.value) c.args.self.now.objects.items c.in-Some.position c.collect.new.object c.index_mut.result.now
    (c.in-Ok.ensures.class ∙ ap (λ b. (goal.Analyzer-dyn g (b.vtable, b.value)).kind b.value) c.index_mut.ensures.value)

pub returns-in-Ok-clause-others : goal.returns-in-Ok-clause-others
returns-in-Ok-clause-others g c =
    rw c.class-class.ensures at
    (others_kept c.class-class.result (map (λ b. (goal.Analyzer-dyn g (b.vtable, b.value)).kind b.value) c.args.self.now.objects.items)
    c.args.self.now.objects.items c.in-Some.position c.collect.new.object (rw c.deref.ensures.value at c.in-Some.ensures))

pub returns-in-Err-clause-terms : goal.returns-in-Err-clause-terms
returns-in-Err-clause-terms g c =
    (rw c.class-class.ensures at (found_is_there c.class-class.result (map (λ b. (goal.Analyzer-dyn g (b.vtable, b.value)).kind b.value) c.args.self.now.objects.items) c.in-Some.position (rw c.deref.ensures.value at c.in-Some.ensures).0), c.clear.ensures)

pub returns-in-Err-clause-classes : goal.returns-in-Err-clause-classes
returns-in-Err-clause-classes g c =
    kept (λ b. (goal.Analyzer-dyn g (b.vtable, b.value)).kind b.value) c.args.self.now.objects.items c.in-Some.position c.collect.new.object c.index_mut.result.now
    (c.in-Err.ensures.class ∙ ap (λ b. (goal.Analyzer-dyn g (b.vtable, b.value)).kind b.value) c.index_mut.ensures.value)

pub returns-in-Err-clause-others : goal.returns-in-Err-clause-others
returns-in-Err-clause-others g c =
    rw c.class-class.ensures at
    (others_kept c.class-class.result (map (λ b. (goal.Analyzer-dyn g (b.vtable, b.value)).kind b.value) c.args.self.now.objects.items)
    c.args.self.now.objects.items c.in-Some.position c.collect.new.object (rw c.deref.ensures.value at c.in-Some.ensures))
