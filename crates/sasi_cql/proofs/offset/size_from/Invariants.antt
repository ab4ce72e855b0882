use Rattle.sasi_cql.proofs.Placing.{Placed}
use Rattle.sasi_cql.proofs.offset.size_from.Given as goal

abbrev pub invariant-tokens : goal.invariant-tokens
invariant-tokens l = Placed l.text l.count l.before l.left l.unclosed
