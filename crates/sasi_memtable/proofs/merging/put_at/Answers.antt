use Rattle.std.proofs.Common.{sym, subst}
use Rattle.std.proofs.lemmas.Result.{err_from_is_err_and}
use Rattle.std.specs.FinMap as fin
use Rattle.sasi_model.specs.Abbreviations.{Partitions}
use Rattle.sasi_memtable.specs.Sized.{IsResized, IsTotal}
use Rattle.sasi_memtable.proofs.Counts.{growth_is, is_resized}
use Rattle.sasi_memtable.proofs.Ordered.{alike_are, put_is}
use Rattle.sasi_memtable.proofs.merging.put_at.Goals as goal

pub returns-in_err-growth-clause-err : goal.returns-in_err-growth-clause-err
returns-in_err-growth-clause-err c =
    let p = err_from_is_err_and c.from_residual.result c.from_residual.ensures.1 in
    rw p.1 (alike_are c.args.partitions.now.entries c.merge_at.new.partitions.entries c.in_err-growth.ensures.err)

pub returns-in_err-growth-clause-total : goal.returns-in_err-growth-clause-total
returns-in_err-growth-clause-total c =
    subst (λ (m : Partitions). IsTotal m c.args.size.now) (sym (alike_are c.args.partitions.now.entries c.merge_at.new.partitions.entries c.in_err-growth.ensures.err)) c.requires

pub resized-requires : goal.resized-requires
resized-requires c =
    let old = c.args.partitions.now.entries in
    subst (λ (m : Partitions). IsResized m c.args.size.now c.in_ok-growth.growth) (sym (put_is old c.merge_at.new.partitions.entries c.args.key c.args.change c.in_ok-growth.ensures.ok))
    (is_resized (fin.from_entries old) c.args.key c.args.change c.args.size.now c.in_ok-growth.growth c.requires
    (growth_is old c.args.key c.args.change c.in_ok-growth.growth c.in_ok-growth.ensures.before c.in_ok-growth.ensures.after))

pub returns-clause-ok : goal.returns-clause-ok
returns-clause-ok c = put_is c.args.partitions.now.entries c.merge_at.new.partitions.entries c.args.key c.args.change c.in_ok-growth.ensures.ok
