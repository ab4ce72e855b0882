use Rattle.std.proofs.Common.{map, arith, take, ◌++◌}
use Rattle.sasi_recover.specs.Missing.{needed_by_all}
use Rattle.sasi_recover.proofs.MissingLaws.{def_passed, defs_passed, none_yet}
use Rattle.sasi_recover.proofs.classes.missing_in.Goals as goal

pub loop-def-init : goal.loop-def-init
loop-def-init g c = λ needed missing. none_yet (map (λ b. (goal.Analyzer-dyn g (b.vtable, b.value)).kind b.value) c.args.kit.now.objects.items) needed c.args.before missing

pub loop-def-preserved : goal.loop-def-preserved
loop-def-preserved g c = λ needed missing.
    def_passed (map (λ b. (goal.Analyzer-dyn g (b.vtable, b.value)).kind b.value) c.args.kit.now.objects.items) needed c.args.defs.now c.loop-def.def-index c.def-item.result c.missing_at-found.result
    (omega (arith, c.loop-def-test.true)) c.def-item.is (c.missing_at-found.ensures (needed ++ needed_by_all (take c.loop-def.def-index c.args.defs.now)) (c.loop-def.invariant needed missing))

pub returns : goal.returns
returns g c = λ needed missing.
    defs_passed (map (λ b. (goal.Analyzer-dyn g (b.vtable, b.value)).kind b.value) c.args.kit.now.objects.items) needed c.args.defs.now c.loop-def.def-index c.loop-def.found c.loop-def-test.false (c.loop-def.invariant needed missing)
