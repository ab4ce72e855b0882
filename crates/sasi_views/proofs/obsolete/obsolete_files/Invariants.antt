use Rattle.std.proofs.Common.{◌≡◌, ◌++◌}
use Rattle.sasi_views.specs.inside.Listed.{obsolete_files}
use Rattle.sasi_views.proofs.obsolete.obsolete_files.Given as goal

abbrev pub invariant-loop-component : goal.invariant-loop-component
invariant-loop-component l = obsolete_files l.known.entries ≡ l.files ++ obsolete_files l.component-iterator
