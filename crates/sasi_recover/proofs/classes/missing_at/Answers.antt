use Rattle.std.proofs.Common.{◌≡◌, ◌++◌, ◌∷◌, [], map, subst, sym, true, ◌∙◌}
use Rattle.sasi_types.specs.declared.class.Class.{Class}
use Rattle.sasi_analyzers.specs.Kits.{has_class}
use Rattle.sasi_recover.specs.Missing.{IsMissingOf}
use Rattle.sasi_recover.proofs.MissingLaws.{analyzed, lacking}
use Rattle.sasi_recover.proofs.classes.missing_at.Goals as goal

pub returns-then-has : goal.returns-then-has
returns-then-has g c = λ needed missing.
    let kinds = map (λ b. (goal.Analyzer-dyn g (b.vtable, b.value)).kind b.value) c.args.kit.now.objects.items in
    analyzed kinds needed c.args.def.now c.in-Some.rule c.args.before c.in-Some.is (subst (λ (k : Class). has_class k kinds ≡ true) c.class-class.ensures (sym c.has.ensures ∙ c.if-has.true)) missing

pub returns : goal.returns
returns g c = λ needed missing.
    let kinds = map (λ b. (goal.Analyzer-dyn g (b.vtable, b.value)).kind b.value) c.args.kit.now.objects.items in
    lacking kinds needed c.args.def.now c.in-Some.rule c.lesser.result c.in-Some.is
    (subst (λ (k : Class). IsMissingOf kinds (needed ++ (c.args.def.now.number, k) ∷ []) c.lesser.result) c.class-class.ensures (c.lesser.ensures kinds needed (sym c.has.ensures ∙ c.if-has.false) missing))
