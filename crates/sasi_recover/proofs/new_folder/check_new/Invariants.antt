use Rattle.std.proofs.Common.{◌≡◌, All, take, true}
use Rattle.sasi_recover.specs.NewFolder.{is_initial}
use Rattle.sasi_recover.proofs.new_folder.check_new.Given as goal

-- none so far is another one
abbrev pub invariant-loop-name : goal.invariant-loop-name
invariant-loop-name l = All (λ name. is_initial name ≡ true) (take l.name-index l.names)
