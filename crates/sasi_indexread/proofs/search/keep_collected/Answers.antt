use Rattle.std.proofs.Common.{◌≡◌, arith, false, inl, rules}
use Rattle.std.proofs.lemmas.Result.{err_from_is_err_and}
use Rattle.sasi_host.proofs.ChangeLaws.{stays}
use Rattle.sasi_indexread.proofs.Counting.{left_first}
use Rattle.sasi_indexread.proofs.Searching.{now_collected}
use Rattle.sasi_indexread.proofs.search.keep_collected.Goals as goal

pub returns-then-is_collected-clause-read : goal.returns-then-is_collected-clause-read
returns-then-is_collected-clause-read g c = record { agrees = c.requires.read.agrees; covers = λ name at. inl at; changes = stays (g.H.Host.view c.args.host.now) }

pub returns-clause-ok : goal.returns-clause-ok
returns-clause-ok g c content was =
    now_collected (g.H.Host.view c.args.host.now) (g.H.Host.view c.collect.new.host) c.args.index.now c.args.op.now c.args.body.now c.args.is_collected.now c.args.merge.now c.collect.new.merge content c.collect.ensures.read.changes c.in_ok-collect.ensures.ok was

pub returns-then-is_collected-clause-reads : goal.returns-then-is_collected-clause-reads
returns-then-is_collected-clause-reads g c content was = omega arith

pub returns-clause-reads : goal.returns-clause-reads
returns-clause-reads g c content was =
    let first : c.args.is_collected.now ≡ false = search (rules, c.if-is_collected.false) in
    omega (arith, c.in_ok-collect.ensures.reads content was.is_open, left_first c.args.index.now c.args.op.now c.args.body.now c.args.is_collected.now c.args.merge.now content first)

pub returns-in_err-collect-clause-reads : goal.returns-in_err-collect-clause-reads
returns-in_err-collect-clause-reads g c content was =
    let p = err_from_is_err_and c.from_residual.result c.from_residual.ensures.1 in
    let first : c.args.is_collected.now ≡ false = search (rules, c.if-is_collected.false) in
    rw p.1 (omega (arith, c.in_err-collect.ensures.reads content was.is_open, left_first c.args.index.now c.args.op.now c.args.body.now c.args.is_collected.now c.args.merge.now content first))
