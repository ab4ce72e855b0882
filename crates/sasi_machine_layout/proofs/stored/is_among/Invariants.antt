use Rattle.std.proofs.Common.{◌≡◌, drop}
use Rattle.std.specs.List.{list_any}
use Rattle.sasi_model.specs.Tokens.{same}
use Rattle.sasi_machine_layout.proofs.stored.is_among.Given as goal

abbrev pub invariant-loop-other : goal.invariant-loop-other
invariant-loop-other l = list_any (same l.term) l.terms ≡ list_any (same l.term) (drop l.other-index l.terms)
