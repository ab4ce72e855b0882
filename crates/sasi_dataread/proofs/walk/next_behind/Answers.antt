use Rattle.std.proofs.Common.{arith, subst, sym, Option}
use Rattle.std.proofs.lemmas.Result.{err_from_is_err_and}
use Rattle.sasi_types.specs.declared.decorated_key.DecoratedKey.{DecoratedKey}
use Rattle.sasi_host.proofs.CauseLaws.{fault_reads}
use Rattle.sasi_dataread.specs.KeyOrder.{IsLastKey}
use Rattle.sasi_dataread.specs.ReadCosts.{once_within, scan_of}
use Rattle.sasi_dataread.proofs.KeyOrder.{passes_err}
use Rattle.sasi_dataread.proofs.walk.next_behind.Goals as goal

pub returns-in_err-found-clause-err : goal.returns-in_err-found-clause-err
returns-in_err-found-clause-err g c =
    let p = err_from_is_err_and c.from_residual.result c.from_residual.ensures.1 in
    rw p.1 c.in_err-found.ensures.err

pub returns-in_err-found-clause-damaged : goal.returns-in_err-found-clause-damaged
returns-in_err-found-clause-damaged g c =
    let p = err_from_is_err_and c.from_residual.result c.from_residual.ensures.1 in
    rw (p.1, p.2) c.in_err-found.ensures.damaged

pub returns-in_err-found-clause-undamaged : goal.returns-in_err-found-clause-undamaged
returns-in_err-found-clause-undamaged g c =
    let p = err_from_is_err_and c.from_residual.result c.from_residual.ensures.1 in
    rw (p.1, p.2) c.in_err-found.ensures.undamaged

pub returns-in_err-found-clause-causes : goal.returns-in_err-found-clause-causes
returns-in_err-found-clause-causes g c =
    let p = err_from_is_err_and c.from_residual.result c.from_residual.ensures.1 in
    rw (p.1, p.2) (fault_reads _ _ 2052 2052 c.in_err-found.field-0.0 (omega arith) c.in_err-found.ensures.causes)

pub returns-in_err-found-clause-reads : goal.returns-in_err-found-clause-reads
returns-in_err-found-clause-reads g c partitioner content is have sequential =
    let p = err_from_is_err_and c.from_residual.result c.from_residual.ensures.1 in
    rw p.1 (c.in_err-found.ensures.reads partitioner content is have sequential)

pub returns-in_err-keep-clause-err : goal.returns-in_err-keep-clause-err
returns-in_err-keep-clause-err g c =
    let p = err_from_is_err_and c.from_residual-in_err-keep.result c.from_residual-in_err-keep.ensures.1 in
    rw p.1 (passes_err (g.H.Host.view c.args.host.now) c.args.opened.now c.args.tokens c.args.tree.now.passed c.next_partition.new.tree.passed c.in_ok-found.found c.in_ok-found.ensures.passes)

pub returns-in_err-keep-clause-reads : goal.returns-in_err-keep-clause-reads
returns-in_err-keep-clause-reads g c partitioner content is have sequential =
    let p = err_from_is_err_and c.from_residual-in_err-keep.result c.from_residual-in_err-keep.ensures.1 in
    rw p.1 (once_within is.bytes content (g.H.Host.view c.args.host.now).reads (g.H.Host.view c.next_partition.new.host).reads (scan_of c.args.opened.now c.args.tree.now c.args.buffered.now)
    (scan_of c.args.opened.now c.next_partition.new.tree c.next_partition.new.buffered) (c.in_ok-found.ensures.reads partitioner content is have sequential))

pub returns-clause-last : goal.returns-clause-last
returns-clause-last g c = c.in_ok-keep.ensures

pub returns-clause-last_key : goal.returns-clause-last_key
returns-clause-last_key g c =
    subst (λ (o : Option DecoratedKey). IsLastKey (g.H.Host.view c.next_partition.new.host).files c.args.opened.now c.args.tokens c.next_partition.new.tree.passed o) (sym c.in_ok-keep.ensures) c.in_ok-found.ensures.last
