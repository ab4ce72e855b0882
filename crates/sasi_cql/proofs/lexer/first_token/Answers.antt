use Rattle.sasi_cql.proofs.Lexing.{uuid_size}
use Rattle.sasi_cql.proofs.lexer.first_token.Goals as goal

pub split_at-requires : goal.split_at-requires
split_at-requires c = uuid_size c.args.bytes.now c.in-Some.uuid c.in-Some.ensures
