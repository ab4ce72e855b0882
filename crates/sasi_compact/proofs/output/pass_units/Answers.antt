use Rattle.std.proofs.Common.{◌≡◌, ◌∙◌, ℕ, Bool, List, Err, refl, subst, arith}
use Rattle.std.proofs.lemmas.Result.{err_from_is_err_and}
use Rattle.sasi_types.specs.declared.class.Class.{Class}
use Rattle.sasi_host.specs.Disk.{AnyChange}
use Rattle.sasi_host.specs.Names.{data_name}
use Rattle.sasi_host.proofs.ChangeLaws.{touches_on}
use Rattle.sasi_pairs.specs.Gathered.{LacksClass}
use Rattle.sasi_compact.specs.Tasks.{CompactCauses, PassesNext}
use Rattle.sasi_compact.specs.declared.progress.Progress.{Progress}
use Rattle.sasi_compact.proofs.Faults.{all_well, damage_as, handed_on, well_before}
use Rattle.sasi_compact.proofs.Passing.{output_there}
use Rattle.sasi_compact.proofs.TaskLaws.{shown_before}
use Rattle.sasi_compact.proofs.Units.{HasRun, ran_all, ran_out, ready_at, run_none, run_one}
use Rattle.sasi_compact.proofs.output.pass_units.Goals as goal

pub loop-unit-init : goal.loop-unit-init
loop-unit-init g c = record { run = run_none (g.H.Host.view c.args.host.now) c.args.compaction.now c.args.output.now c.requires.can; kinds = refl }

pub pass_next-requires-clause-can : goal.pass_next-requires-clause-can
pass_next-requires-clause-can g c = c.loop-unit.invariant.run.can

-- ---- a unit that fails

pub returns-in_err-some-clause-reads : goal.returns-in_err-some-clause-reads
returns-in_err-some-clause-reads g c most may =
    let so_far = c.loop-unit.invariant.run.reads most may in
    let q = err_from_is_err_and c.from_residual.result c.from_residual.ensures.1 in
    rw q.1 (omega (arith, c.in_err-some.ensures.reads so_far.0 so_far.1, so_far.2))

pub returns-in_err-some-clause-damaged : goal.returns-in_err-some-clause-damaged
returns-in_err-some-clause-damaged g c =
    let view = g.H.Host.view in
    let q = err_from_is_err_and c.from_residual.result c.from_residual.ensures.1 in
    rw (q.1, q.2)
    (damage_as _ _ c.in_err-some.field-0.0 (λ damage shows. shown_before (view c.args.host.now) (view c.loop-unit.host) AnyChange c.args.compaction.now c.requires.compaction c.loop-unit.invariant.run.changes damage shows) c.in_err-some.ensures.damaged)

pub returns-in_err-some-clause-undamaged : goal.returns-in_err-some-clause-undamaged
returns-in_err-some-clause-undamaged g c passed left is =
    let so_far = c.loop-unit.invariant.run.passes passed left is in
    let q = err_from_is_err_and c.from_residual.result c.from_residual.ensures.1 in
    rw (q.1, q.2) (c.in_err-some.ensures.undamaged _ _ so_far.0)

pub returns-in_err-some-clause-changes : goal.returns-in_err-some-clause-changes
returns-in_err-some-clause-changes g c =
    let view = g.H.Host.view in
    touches_on (view c.args.host.now) (view c.loop-unit.host) (view c.pass_next.new.host) (data_name c.args.compaction.now.number) c.loop-unit.invariant.run.changes c.pass_next.ensures.changes

pub returns-in_err-some-clause-causes : goal.returns-in_err-some-clause-causes
returns-in_err-some-clause-causes g c =
    let view = g.H.Host.view in
    let run = c.loop-unit.invariant.run in
    let q = err_from_is_err_and c.from_residual.result c.from_residual.ensures.1 in
    rw (q.1, q.2)
    (well_before _ (view c.args.host.now) (view c.loop-unit.host) (view c.pass_next.new.host) (Err c.in_err-some.field-0.0) run.disk run.out
    (subst (λ (kinds : List Class). CompactCauses {T = Progress} (LacksClass kinds c.args.compaction.now.indexes) (view c.loop-unit.host) (view c.pass_next.new.host) (Err c.in_err-some.field-0.0)) c.loop-unit.invariant.kinds
    (handed_on _ (view c.loop-unit.host) (view c.pass_next.new.host) c.in_err-some.field-0.0 c.in_err-some.ensures.causes)))

pub returns-in_err-some-clause-classes : goal.returns-in_err-some-clause-classes
returns-in_err-some-clause-classes g c = c.pass_next.ensures.classes ∙ c.loop-unit.invariant.kinds

-- ---- none is left

pub returns-then-not-some-clause-passed : goal.returns-then-not-some-clause-passed
returns-then-not-some-clause-passed g c =
    let view = g.H.Host.view in
    ran_out (view c.args.host.now) (view c.loop-unit.host) (view c.pass_next.new.host) c.args.compaction.now c.args.output.now c.loop-unit.output c.pass_next.new.output c.loop-unit.unit c.loop-unit.invariant.run c.args.units (omega (arith, c.loop-unit-test.true))
    (λ passed left is. subst (λ (b : Bool). PassesNext (view c.pass_next.new.host) c.args.compaction.now c.pass_next.new.output passed left b) c.if-not-some.true (c.in_ok-some.ensures.passes passed left is))

pub returns-then-not-some-clause-ready : goal.returns-then-not-some-clause-ready
returns-then-not-some-clause-ready g c =
    let none = c.in_ok-some.ensures.none c.if-not-some.true in
    record { none_next = none; some = c.in_ok-some.ensures.can.some none }

pub returns-then-not-some-clause-reads : goal.returns-then-not-some-clause-reads
returns-then-not-some-clause-reads g c most may =
    let so_far = c.loop-unit.invariant.run.reads most may in
    let more = c.in_ok-some.ensures.reads so_far.0 so_far.1 in
    record { left = more.left; may = more.may; reads = omega (arith, more.reads, so_far.2) }

pub returns-then-not-some-clause-changes : goal.returns-then-not-some-clause-changes
returns-then-not-some-clause-changes g c =
    let view = g.H.Host.view in
    touches_on (view c.args.host.now) (view c.loop-unit.host) (view c.pass_next.new.host) (data_name c.args.compaction.now.number) c.loop-unit.invariant.run.changes c.pass_next.ensures.changes

pub returns-then-not-some-clause-causes : goal.returns-then-not-some-clause-causes
returns-then-not-some-clause-causes g c =
    all_well _ _ _ _ (c.in_ok-some.ensures.causes.ok ∙ c.loop-unit.invariant.run.disk) (c.in_ok-some.ensures.causes.out ∙ c.loop-unit.invariant.run.out)

pub returns-then-not-some-clause-classes : goal.returns-then-not-some-clause-classes
returns-then-not-some-clause-classes g c = c.pass_next.ensures.classes ∙ c.loop-unit.invariant.kinds

-- ---- one more unit

pub loop-unit-preserved : goal.loop-unit-preserved
loop-unit-preserved g c =
    let view = g.H.Host.view in
    record {
      run = run_one (view c.args.host.now) (view c.loop-unit.host) (view c.pass_next.new.host) c.args.compaction.now c.args.output.now c.loop-unit.output c.pass_next.new.output c.loop-unit.unit c.loop-unit.invariant.run c.in_ok-some.ensures.can
          c.pass_next.ensures.changes
          (λ passed left is. subst (λ (b : Bool). PassesNext (view c.pass_next.new.host) c.args.compaction.now c.pass_next.new.output passed left b) c.if-not-some.false (c.in_ok-some.ensures.passes passed left is))
          (λ most may. c.in_ok-some.ensures.reads most may) c.in_ok-some.ensures.causes.ok c.in_ok-some.ensures.causes.out;
      kinds = c.pass_next.ensures.classes ∙ c.loop-unit.invariant.kinds;
    }

-- ---- all units are done

pub returns-clause-passed : goal.returns-clause-passed
returns-clause-passed g c =
    let view = g.H.Host.view in
    let all : c.loop-unit.unit ≡ c.args.units = omega (arith, c.loop-unit-test.false, c.loop-unit.auto.unit-end) in
    ran_all (view c.args.host.now) (view c.loop-unit.host) c.args.compaction.now c.args.output.now c.loop-unit.output c.args.units c.progress_of.result
    (subst (λ (n : ℕ). HasRun (view c.args.host.now) (view c.loop-unit.host) c.args.compaction.now c.args.output.now c.loop-unit.output n) all c.loop-unit.invariant.run) c.progress_of.ensures

pub returns-clause-can : goal.returns-clause-can
returns-clause-can g c = c.loop-unit.invariant.run.can

pub returns-clause-ready : goal.returns-clause-ready
returns-clause-ready g c = ready_at (g.H.Host.view c.loop-unit.host) c.args.compaction.now c.loop-unit.output c.progress_of.result c.loop-unit.invariant.run.can c.progress_of.ensures

pub returns-clause-there : goal.returns-clause-there
returns-clause-there g c = output_there (g.H.Host.view c.loop-unit.host) c.args.compaction.now c.loop-unit.output c.loop-unit.output refl c.loop-unit.invariant.run.can

pub returns-clause-reads : goal.returns-clause-reads
returns-clause-reads g c most may =
    let so_far = c.loop-unit.invariant.run.reads most may in
    record { left = so_far.0; may = so_far.1; reads = so_far.2 }

pub returns-clause-changes : goal.returns-clause-changes
returns-clause-changes g c = c.loop-unit.invariant.run.changes

pub returns-clause-causes : goal.returns-clause-causes
returns-clause-causes g c = all_well _ _ _ _ c.loop-unit.invariant.run.disk c.loop-unit.invariant.run.out
