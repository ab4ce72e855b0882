use Rattle.std.proofs.Common.{rules}
use Rattle.sasi_cql.proofs.Placing.{next_is, next_kept}
use Rattle.sasi_cql.proofs.lexer.next_token.Goals as goal

pub returns-in-Some-clause-next : goal.returns-in-Some-clause-next
returns-in-Some-clause-next c =
    next_is c.args.text.now c.skip_separators-left.result.now c.in-Some.first.now c.in-Some.behind.now _ c.first_token.result.1.now
    (search rules) c.skip_separators-left.ensures.skips c.first_token.ensures

pub returns-in-Some-clause-kept : goal.returns-in-Some-clause-kept
returns-in-Some-clause-kept c =
    next_kept c.skip_separators-left.result.now c.in-Some.first.now c.in-Some.behind.now _ c.first_token.result.1.now c.skip_separators-left.new.unclosed
    (search rules) c.first_token.ensures c.skip_separators-left.ensures.kept
