use Rattle.std.proofs.Common.{◌≡◌, map}
use Rattle.sasi_tasks.proofs.PassingAll.{IsPassing}
use Rattle.sasi_tasks.proofs.units.pass_all.Given as goal

-- some steps are done
abbrev pub invariant-loop-turn : goal.invariant-loop-turn
invariant-loop-turn g l = record {
  on : IsPassing (g.H.Host.view l.fn.host) (g.H.Host.view l.host) l.fn.task l.task;
  kinds : map (λ b. (goal.Analyzer-dyn g (b.vtable, b.value)).kind b.value) l.kit.objects.items ≡ map (λ b. (goal.Analyzer-dyn g (b.vtable, b.value)).kind b.value) l.fn.kit.objects.items;
}
