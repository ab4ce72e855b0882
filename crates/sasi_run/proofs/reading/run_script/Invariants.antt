use Rattle.std.proofs.Common.{◌≡◌, map, ◌≤◌, ◌-◌, ◌^◌}
use Rattle.sasi_store.specs.StoreView.{KnowsStore}
use Rattle.sasi_run.specs.Crashing.{ReadsCrashSafe}
use Rattle.sasi_run.specs.StatusCauses.{NothingFailed}
use Rattle.sasi_run.proofs.reading.run_script.Given as goal

abbrev pub invariant-reads : goal.invariant-reads
invariant-reads g l = record {
  crash_safe : ReadsCrashSafe (map (λ b. (goal.Analyzer-dyn g (b.vtable, b.value)).kind b.value) l.fn.kit.objects.items) l.fn.session l.session (g.S.Source.view l.fn.script).left (g.S.Source.view l.script).left (g.H.Host.view l.fn.host)
      (g.H.Host.view l.host) l.taken;
  few : l.taken ≤ 2 ^ 40;
  unfailed : NothingFailed (g.S.Source.view l.fn.script) (g.S.Source.view l.script) (g.H.Host.view l.fn.host) (g.H.Host.view l.host);
  known : KnowsStore (map (λ b. (goal.Analyzer-dyn g (b.vtable, b.value)).kind b.value) l.kit.objects.items) l.session.store;
  kinds : map (λ b. (goal.Analyzer-dyn g (b.vtable, b.value)).kind b.value) l.kit.objects.items
      ≡ map (λ b. (goal.Analyzer-dyn g (b.vtable, b.value)).kind b.value) l.fn.kit.objects.items;
}

abbrev pub decreases-reads : goal.decreases-reads
decreases-reads g l = 2 ^ 40 - l.taken
