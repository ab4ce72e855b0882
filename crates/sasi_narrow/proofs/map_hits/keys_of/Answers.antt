use Rattle.std.proofs.Common.{◌-◌, rules, drop, length, take}
use Rattle.std.specs.Prelude.{nat_le, nat_lt}
use Rattle.std.proofs.lemmas.List.{take_rest}
use Rattle.std.proofs.lemmas.List.Sorted.{IsPartitionPoint-from_clause, IsPartitionedBy-leb, IsPartitionedBy-ltb}
use Rattle.sasi_types.specs.declared.decorated_key.DecoratedKey.{DecoratedKey}
use Rattle.sasi_narrow.proofs.MapKeys.{rest_rises, token_span, tokens_rise}
use Rattle.sasi_narrow.proofs.map_hits.keys_of.Goals as goal

pub returns : goal.returns
returns c = λ rise.
    let token = c.args.token in
    let keys = c.args.keys.now in
    let first = c.partition_point-first.result in
    let end = c.partition_point-end.result in
    let tokens = tokens_rise keys rise in
    token_span token keys (take (length keys - first) (drop first keys)) first end c.partition_point-first.ensures.bound c.partition_point-end.ensures.bound (take_rest keys first)
    (IsPartitionPoint-from_clause (λ (k : DecoratedKey). nat_lt k.token token) keys first c.partition_point-first.ensures.partitioned
    (IsPartitionedBy-ltb (λ (k : DecoratedKey). k.token) keys token tokens) (λ a r f called. search rules))
    (IsPartitionPoint-from_clause (λ (k : DecoratedKey). nat_le k.token token) (take (length keys - first) (drop first keys)) end c.partition_point-end.ensures.partitioned
    (IsPartitionedBy-leb (λ (k : DecoratedKey). k.token) (take (length keys - first) (drop first keys)) token (rest_rises first keys tokens)) (λ a r f called. search rules))
