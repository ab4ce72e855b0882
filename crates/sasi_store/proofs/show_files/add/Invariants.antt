use Rattle.std.proofs.Common.{◌≡◌, ◌++◌, drop}
use Rattle.sasi_store.specs.ToldFiles.{in_state}
use Rattle.sasi_store.proofs.show_files.add.Given as goal

-- with those that are left
abbrev pub invariant-loop-name : goal.invariant-loop-name
invariant-loop-name l = l.told.items ++ in_state l.state (drop l.name-index l.names) ≡ l.fn.told.items ++ in_state l.state l.names
