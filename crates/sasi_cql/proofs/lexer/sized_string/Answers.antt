use Rattle.std.proofs.Common.{refl, arith}
use Rattle.sasi_cql.proofs.Lexing.{string_first, string_size}
use Rattle.sasi_cql.proofs.lexer.sized_string.Goals as goal

pub overflow_sub-size : goal.overflow_sub-size
overflow_sub-size c = (string_size c.args.behind.now c.args.size c.requires).0

pub split_at-requires : goal.split_at-requires
split_at-requires c =
    let sizes = string_size c.args.behind.now c.args.size c.requires in
    omega (arith, sizes.1)

pub split_at-requires-2 : goal.split_at-requires-2
split_at-requires-2 c = (string_size c.args.behind.now c.args.size c.requires).1

pub returns : goal.returns
returns c =
    let first = string_first c.args.behind.now c.args.size c.requires in
    record { token_is = rw (first, c.split_at.ensures.front) refl; left_is = rw (first, c.split_at-2.ensures.back) refl }
