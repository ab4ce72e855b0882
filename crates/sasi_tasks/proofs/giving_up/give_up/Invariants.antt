use Rattle.std.proofs.Common.{◌≡◌, [], length}
use Rattle.std.specs.Vec.Iter.{into_iter_items, into_iter_len}
use Rattle.sasi_tasks.proofs.GivingUp.{HasGivenUp}
use Rattle.sasi_tasks.proofs.giving_up.give_up.Given as goal

-- those so far are given up, and the others are left
abbrev pub invariant-loop-running : goal.invariant-loop-running
invariant-loop-running g l = record {
  on : HasGivenUp (into_iter_items l.initial.running-iterator) (into_iter_items l.running-iterator) (g.H.Host.view l.fn.host) (g.H.Host.view l.host);
  idle : into_iter_items l.initial.running-iterator ≡ [] → (l.host ≡ l.fn.host) × (into_iter_items l.running-iterator ≡ []);
  count : into_iter_len l.running-iterator ≡ length (into_iter_items l.running-iterator);
}
