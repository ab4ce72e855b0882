use Rattle.std.proofs.Common.{◌≡◌, map, take}
use Rattle.sasi_host.specs.View.{FailsOnlyAsTold}
use Rattle.sasi_store.specs.StoreView.{KnowsStore}
use Rattle.sasi_run.specs.Crashing.{FeedsCrashSafe}
use Rattle.sasi_run.specs.Session.{NoneFailed}
use Rattle.sasi_run.proofs.session.feed.Given as goal

abbrev pub invariant-loop-byte : goal.invariant-loop-byte
invariant-loop-byte g l = record {
  taken : FeedsCrashSafe (map (λ b. (goal.Analyzer-dyn g (b.vtable, b.value)).kind b.value) l.fn.kit.objects.items) l.fn.session l.session
      (g.H.Host.view l.fn.host) (g.H.Host.view l.host) (take l.byte-index l.bytes);
  none : NoneFailed (g.H.Host.view l.fn.host) (g.H.Host.view l.host);
  told : FailsOnlyAsTold (g.H.Host.view l.fn.host) (g.H.Host.view l.host);
  known : KnowsStore (map (λ b. (goal.Analyzer-dyn g (b.vtable, b.value)).kind b.value) l.kit.objects.items) l.session.store;
  kinds : map (λ b. (goal.Analyzer-dyn g (b.vtable, b.value)).kind b.value) l.kit.objects.items
      ≡ map (λ b. (goal.Analyzer-dyn g (b.vtable, b.value)).kind b.value) l.fn.kit.objects.items;
}
