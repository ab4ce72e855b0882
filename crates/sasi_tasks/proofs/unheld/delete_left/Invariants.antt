use Rattle.std.proofs.Common.{◌≡◌, drop, false}
use Rattle.sasi_tasks.specs.Unheld.{AreUnchosen, is_left}
use Rattle.sasi_views.specs.Parts.{view_names}
use Rattle.sasi_tasks.proofs.Deleting.{HasDeleted}
use Rattle.sasi_tasks.proofs.unheld.delete_left.Given as goal

-- those so far are deleted, and nothing is done where none is chosen
abbrev pub invariant-loop-part : goal.invariant-loop-part
invariant-loop-part g l = record {
  so_far : HasDeleted (is_left l.views l.files) (view_names l.view) (view_names (drop l.part-index l.view)) (g.H.Host.view l.fn.host) (g.H.Host.view l.host);
  idle : AreUnchosen (is_left l.views l.files) (view_names l.view) → (l.host ≡ l.fn.host) × (l.deleted ≡ false);
  none : l.deleted ≡ false → l.host ≡ l.fn.host;
}
