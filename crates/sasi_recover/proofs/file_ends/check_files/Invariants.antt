use Rattle.std.proofs.Common.{All, Contains, take}
use Rattle.sasi_recover.proofs.file_ends.check_files.Given as goal

-- those so far are there
abbrev pub invariant-loop-file : goal.invariant-loop-file
invariant-loop-file l = All (Contains l.names) (take l.file-index l.files)
