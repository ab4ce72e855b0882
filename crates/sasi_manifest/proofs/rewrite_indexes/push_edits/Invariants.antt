use Rattle.std.proofs.Common.{◌≡◌, ◌++◌, map}
use Rattle.sasi_manifest.specs.Listings.{index_edit}
use Rattle.sasi_manifest.proofs.rewrite_indexes.push_edits.Given as goal

abbrev pub invariant-loop-def : goal.invariant-loop-def
invariant-loop-def l = l.edits.items ≡ l.fn.edits.items ++ map index_edit l.yielded
