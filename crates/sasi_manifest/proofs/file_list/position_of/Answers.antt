use Rattle.std.proofs.Common.{rules}
use Rattle.std.specs.Prelude.{nat_lt}
use Rattle.std.proofs.lemmas.List.Sorted.{IsPartitionPoint-from_clause, IsPartitionedBy-ltb}
use Rattle.sasi_manifest.proofs.FileOrder.{numbers_rise, place_is}
use Rattle.sasi_manifest.proofs.file_list.position_of.Goals as goal

pub returns-clause-place : goal.returns-clause-place
returns-clause-place c =
    place_is c.args.number c.args.files.now c.partition_point.result c.partition_point.ensures.bound
    (IsPartitionPoint-from_clause (λ f. nat_lt f.number c.args.number) c.args.files.now c.partition_point.result c.partition_point.ensures.partitioned
    (IsPartitionedBy-ltb (λ f. f.number) c.args.files.now c.args.number (numbers_rise 0 c.args.files.now c.requires)) (λ a r f called. search rules))
