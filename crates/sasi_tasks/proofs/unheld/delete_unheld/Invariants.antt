use Rattle.std.proofs.Common.{◌≡◌, drop, false}
use Rattle.sasi_tasks.specs.Unheld.{AreUnchosen, is_counted}
use Rattle.sasi_tasks.proofs.Deleting.{HasDeleted}
use Rattle.sasi_tasks.proofs.unheld.delete_unheld.Given as goal

-- those so far are deleted, and nothing is done where none is chosen
abbrev pub invariant-loop-name : goal.invariant-loop-name
invariant-loop-name g l = record {
  so_far : HasDeleted (is_counted l.views 0) l.names (drop l.name-index l.names) (g.H.Host.view l.fn.host) (g.H.Host.view l.host);
  idle : AreUnchosen (is_counted l.views 0) l.names → (l.host ≡ l.fn.host) × (l.deleted ≡ false);
  none : l.deleted ≡ false → l.host ≡ l.fn.host;
}
