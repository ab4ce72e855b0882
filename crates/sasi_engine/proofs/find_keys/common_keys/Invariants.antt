use Rattle.std.proofs.Common.{◌≡◌, ◌++◌, drop}
use Rattle.std.specs.List.{filter}
use Rattle.sasi_engine.specs.inside.Found.{is_in_all}
use Rattle.sasi_engine.proofs.find_keys.common_keys.Given as goal

abbrev pub invariant-loop-key : goal.invariant-loop-key
invariant-loop-key l = l.common.items ++ filter (is_in_all l.lists) (drop l.key-index l.keys) ≡ filter (is_in_all l.lists) l.keys
