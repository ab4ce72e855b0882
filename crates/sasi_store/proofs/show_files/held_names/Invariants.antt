use Rattle.std.proofs.Common.{◌≡◌, ◌++◌}
use Rattle.std.specs.List.{flat_map}
use Rattle.std.specs.Map.{values_of}
use Rattle.sasi_fetch.specs.Cursors.{view_of}
use Rattle.sasi_views.specs.Parts.{view_names}
use Rattle.sasi_store.specs.declared.session_state.OpenCursor.{OpenCursor}
use Rattle.sasi_store.proofs.show_files.held_names.Given as goal

-- with those that are left
abbrev pub invariant-loop-cursor : goal.invariant-loop-cursor
invariant-loop-cursor l = l.names.items ++ flat_map (λ (c : OpenCursor). view_names (view_of c.rows)) l.cursor-iterator ≡ flat_map (λ (c : OpenCursor). view_names (view_of c.rows)) (values_of l.session.cursors)
