use Rattle.std.proofs.Common.{◌≡◌, drop, false, map}
use Rattle.sasi_manifest.specs.ListedFiles.{index_name}
use Rattle.sasi_tasks.specs.Unheld.{AreUnchosen, is_counted}
use Rattle.sasi_tasks.proofs.Deleting.{HasDeleted}
use Rattle.sasi_tasks.proofs.unheld.delete_indexes.Given as goal

-- those so far are deleted, and nothing is done where none is chosen
abbrev pub invariant-loop-part : goal.invariant-loop-part
invariant-loop-part g l = record {
  so_far : HasDeleted (is_counted l.views 1) (map (index_name l.number) l.parts) (map (index_name l.number) (drop l.part-index l.parts)) (g.H.Host.view l.fn.host) (g.H.Host.view l.host);
  idle : AreUnchosen (is_counted l.views 1) (map (index_name l.number) l.parts) → (l.host ≡ l.fn.host) × (l.deleted ≡ false);
  none : l.deleted ≡ false → l.host ≡ l.fn.host;
}
