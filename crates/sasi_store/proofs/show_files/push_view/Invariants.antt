use Rattle.std.proofs.Common.{◌≡◌, ◌++◌, drop}
use Rattle.sasi_views.specs.Parts.{view_names}
use Rattle.sasi_store.proofs.show_files.push_view.Given as goal

-- with those that are left
abbrev pub invariant-loop-part : goal.invariant-loop-part
invariant-loop-part l = l.names.items ++ view_names (drop l.part-index l.view) ≡ l.fn.names.items ++ view_names l.view
