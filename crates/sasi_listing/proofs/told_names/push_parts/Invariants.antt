use Rattle.std.proofs.Common.{◌≡◌, ◌++◌, drop, map}
use Rattle.sasi_manifest.specs.ListedFiles.{index_name}
use Rattle.sasi_listing.proofs.told_names.push_parts.Given as goal

-- with those that are left
abbrev pub invariant-loop-part : goal.invariant-loop-part
invariant-loop-part l = l.names.items ++ map (index_name l.number) (drop l.part-index l.parts) ≡ l.fn.names.items ++ map (index_name l.number) l.parts
