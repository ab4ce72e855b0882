use Rattle.sasi_cql.proofs.Placing.{Counted}
use Rattle.sasi_cql.proofs.offset.count_tokens.Given as goal

abbrev pub invariant-tokens : goal.invariant-tokens
invariant-tokens l = Counted l.text l.count l.left l.unclosed
