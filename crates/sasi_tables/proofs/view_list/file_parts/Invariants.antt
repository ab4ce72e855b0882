use Rattle.std.proofs.Common.{◌≡◌, ◌++◌, drop, map}
use Rattle.sasi_tables.specs.ViewParts.{file_part}
use Rattle.sasi_tables.proofs.view_list.file_parts.Given as goal

abbrev pub invariant-loop-file : goal.invariant-loop-file
invariant-loop-file l = l.listed ++ map file_part (drop l.file-index l.files) ≡ map file_part l.files
