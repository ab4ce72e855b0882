use Rattle.std.proofs.lemmas.Result.{on_err_weaker}
use Rattle.sasi_memtable.proofs.Merged.{same_write, new_write}
use Rattle.sasi_memtable.proofs.merging.merge_at.Goals as goal

pub returns-in-Some-clause-err : goal.returns-in-Some-clause-err
returns-in-Some-clause-err c =
    let h = c.get_mut.follows.holds c.merge_sized.new.partition in
    on_err_weaker c.merge_sized.result
    (λ same. same_write c.args.partitions.now (c.get_mut.follows.lender c.merge_sized.new.partition) c.args.key c.in-Some.partition.now c.merge_sized.new.partition c.in-Some.ensures.value same h.0)
    c.merge_sized.ensures.err

pub returns-clause-ok : goal.returns-clause-ok
returns-clause-ok c =
    new_write c.args.partitions.now c.get_mut.follows.lender-at-none c.insert.new.self c.args.key c.args.change c.in_ok-partition.partition
    c.in_default.ensures.value c.get_mut.follows.holds-at-none c.in_ok-partition.ensures c.in_ok-insert.ensures.updates.0
