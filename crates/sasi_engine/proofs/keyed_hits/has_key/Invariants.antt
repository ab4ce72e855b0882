use Rattle.std.proofs.Common.{◌≡◌, drop}
use Rattle.std.specs.List.{list_any}
use Rattle.sasi_model.specs.Tokens.{same}
use Rattle.sasi_engine.proofs.keyed_hits.has_key.Given as goal

-- none of the keys before was the one
abbrev pub invariant-loop-other : goal.invariant-loop-other
invariant-loop-other l = list_any (same l.key) (drop l.other-index l.keys) ≡ list_any (same l.key) l.keys
