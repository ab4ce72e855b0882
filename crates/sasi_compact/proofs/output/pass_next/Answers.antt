use Rattle.std.proofs.Common.{◌≡◌, ◌∙◌, None, Some, refl, sym, arith}
use Rattle.std.proofs.lemmas.Result.{err_from_is_err_and}
use Rattle.sasi_host.proofs.ChangeLaws.{untouched}
use Rattle.sasi_compact.proofs.Faults.{all_well, handed_on}
use Rattle.sasi_compact.proofs.Passing.{can_as, output_there, passes_none, written_as}
use Rattle.sasi_compact.proofs.output.pass_next.Goals as goal

-- ---- none is left

pub returns-in-None-clause-passes : goal.returns-in-None-clause-passes
returns-in-None-clause-passes g c =
    let none : c.args.output.now.next ≡ None = sym c.take-ahead.ensures.value ∙ c.in-None.is in
    passes_none (g.H.Host.view c.args.host.now) c.args.compaction.now c.args.output.now c.take-ahead.new.self (none ∙ sym c.take-ahead.ensures.after) c.take-ahead.ensures.after

pub returns-in-None-clause-can : goal.returns-in-None-clause-can
returns-in-None-clause-can g c =
    let none : c.args.output.now.next ≡ None = sym c.take-ahead.ensures.value ∙ c.in-None.is in
    can_as (g.H.Host.view c.args.host.now) c.args.compaction.now c.args.output.now c.take-ahead.new.self (none ∙ sym c.take-ahead.ensures.after) c.requires.can

pub returns-in-None-clause-none : goal.returns-in-None-clause-none
returns-in-None-clause-none g c is = c.take-ahead.ensures.after

pub returns-in-None-clause-there : goal.returns-in-None-clause-there
returns-in-None-clause-there g c = output_there (g.H.Host.view c.args.host.now) c.args.compaction.now c.args.output.now _ refl c.requires.can

pub returns-in-None-clause-reads : goal.returns-in-None-clause-reads
returns-in-None-clause-reads g c most may = record { left = most; may = may; reads = omega arith }

pub returns-in-None-clause-changes : goal.returns-in-None-clause-changes
returns-in-None-clause-changes g c = untouched _ _

pub returns-in-None-clause-causes : goal.returns-in-None-clause-causes
returns-in-None-clause-causes g c = all_well _ _ _ _ refl refl

-- ---- the one that was looked ahead

pub pass_one-requires-clause-can : goal.pass_one-requires-clause-can
pass_one-requires-clause-can g c =
    can_as (g.H.Host.view c.args.host.now) c.args.compaction.now c.args.output.now (Some c.in-Some.one) (sym c.take-ahead.ensures.value ∙ c.in-Some.is) c.requires.can

pub returns-in_err-next-in-Some-clause-there : goal.returns-in_err-next-in-Some-clause-there
returns-in_err-next-in-Some-clause-there g c = record { file = c.in_err-next-in-Some.ensures.file; there = c.in_err-next-in-Some.ensures.there }

pub returns-in_err-next-in-Some-clause-reads : goal.returns-in_err-next-in-Some-clause-reads
returns-in_err-next-in-Some-clause-reads g c most may =
    let q = err_from_is_err_and c.from_residual.result c.from_residual.ensures.1 in
    rw q.1 (c.in_err-next-in-Some.ensures.reads most may)

pub returns-in_err-next-in-Some-clause-damaged : goal.returns-in_err-next-in-Some-clause-damaged
returns-in_err-next-in-Some-clause-damaged g c =
    let q = err_from_is_err_and c.from_residual.result c.from_residual.ensures.1 in
    rw (q.1, q.2) c.in_err-next-in-Some.ensures.damaged

pub returns-in_err-next-in-Some-clause-undamaged : goal.returns-in_err-next-in-Some-clause-undamaged
returns-in_err-next-in-Some-clause-undamaged g c passed left is =
    let q = err_from_is_err_and c.from_residual.result c.from_residual.ensures.1 in
    rw (q.1, q.2)
    (c.in_err-next-in-Some.ensures.undamaged passed left
    (written_as (g.H.Host.view c.args.host.now) c.args.compaction.now c.args.output.now (Some c.in-Some.one) (sym c.take-ahead.ensures.value ∙ c.in-Some.is) passed left is))

pub returns-in_err-next-in-Some-clause-changes : goal.returns-in_err-next-in-Some-clause-changes
returns-in_err-next-in-Some-clause-changes g c = c.pass_one.ensures.changes

pub returns-in_err-next-in-Some-clause-causes : goal.returns-in_err-next-in-Some-clause-causes
returns-in_err-next-in-Some-clause-causes g c =
    let q = err_from_is_err_and c.from_residual.result c.from_residual.ensures.1 in
    rw (q.1, q.2) (handed_on _ _ _ c.in_err-next-in-Some.field-0.0 c.in_err-next-in-Some.ensures.causes)

pub returns-in_ok-next-in-Some-clause-passes : goal.returns-in_ok-next-in-Some-clause-passes
returns-in_ok-next-in-Some-clause-passes g c passed left is =
    c.in_ok-next-in-Some.ensures.passes passed left
    (written_as (g.H.Host.view c.args.host.now) c.args.compaction.now c.args.output.now (Some c.in-Some.one) (sym c.take-ahead.ensures.value ∙ c.in-Some.is) passed left is)

pub returns-in_ok-next-in-Some-clause-can : goal.returns-in_ok-next-in-Some-clause-can
returns-in_ok-next-in-Some-clause-can g c = c.in_ok-next-in-Some.ensures.can

pub returns-in_ok-next-in-Some-clause-there : goal.returns-in_ok-next-in-Some-clause-there
returns-in_ok-next-in-Some-clause-there g c = record { file = c.in_ok-next-in-Some.ensures.file; there = c.in_ok-next-in-Some.ensures.there }

pub returns-in_ok-next-in-Some-clause-reads : goal.returns-in_ok-next-in-Some-clause-reads
returns-in_ok-next-in-Some-clause-reads g c most may =
    let has = c.in_ok-next-in-Some.ensures.reads most may in
    record { left = has.left; may = has.may; reads = has.reads }

pub returns-in_ok-next-in-Some-clause-changes : goal.returns-in_ok-next-in-Some-clause-changes
returns-in_ok-next-in-Some-clause-changes g c = c.pass_one.ensures.changes

pub returns-in_ok-next-in-Some-clause-causes : goal.returns-in_ok-next-in-Some-clause-causes
returns-in_ok-next-in-Some-clause-causes g c = all_well _ _ _ _ c.in_ok-next-in-Some.ensures.causes.ok c.in_ok-next-in-Some.ensures.causes.out
