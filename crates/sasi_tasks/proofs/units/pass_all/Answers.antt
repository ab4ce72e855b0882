use Rattle.std.proofs.Common.{◌-◌, ◌^◌, ◌∙◌, List, Err, map, refl, subst, arith}
use Rattle.std.proofs.lemmas.Result.{err_from_is_err_and}
use Rattle.sasi_types.specs.declared.class.Class.{Class}
use Rattle.sasi_pairs.specs.Gathered.{LacksClass}
use Rattle.sasi_compact.specs.Tasks.{CompactCauses, HasPassed}
use Rattle.sasi_compact.specs.declared.compaction.Compaction.{Compaction}
use Rattle.sasi_compact.specs.declared.progress.Progress.{Progress}
use Rattle.sasi_compact.proofs.Faults.{handed_on, well_before}
use Rattle.sasi_tasks.proofs.PassingAll.{all_passed, changes_after, damage_before, passes_none, passing_on, undamaged_on}
use Rattle.sasi_tasks.proofs.units.pass_all.Goals as goal

pub loop-turn-init : goal.loop-turn-init
loop-turn-init g c = record { on = passes_none (g.H.Host.view c.args.host.now) c.args.task.now c.requires.can; kinds = refl }

pub step-requires : goal.step-requires
step-requires g c = c.loop-turn.invariant.on.can

-- ---- a step that fails

pub returns-in_err-step-clause-same : goal.returns-in_err-step-clause-same
returns-in_err-step-clause-same g c = c.step.ensures.same ∙ c.loop-turn.invariant.on.same

pub returns-in_err-step-clause-reads : goal.returns-in_err-step-clause-reads
returns-in_err-step-clause-reads g c most may =
    let so_far = c.loop-turn.invariant.on.reads most may in
    omega (arith, c.in_err-step.ensures.reads so_far.left so_far.may, so_far.reads)

pub returns-in_err-step-clause-damaged : goal.returns-in_err-step-clause-damaged
returns-in_err-step-clause-damaged g c =
    let view = g.H.Host.view in
    let q = err_from_is_err_and c.from_residual.result c.from_residual.ensures.1 in
    rw (q.1, q.2)
    (damage_before (view c.args.host.now) (view c.loop-turn.host) c.args.task.now c.loop-turn.task c.loop-turn.invariant.on (view c.step.new.host) c.step.new.self c.in_err-step.field-0.0 c.in_err-step.ensures.damaged)

pub returns-in_err-step-clause-undamaged : goal.returns-in_err-step-clause-undamaged
returns-in_err-step-clause-undamaged g c passed left is =
    let view = g.H.Host.view in
    let q = err_from_is_err_and c.from_residual.result c.from_residual.ensures.1 in
    rw (q.1, q.2)
    (undamaged_on (view c.args.host.now) (view c.loop-turn.host) c.args.task.now c.loop-turn.task c.loop-turn.invariant.on (view c.step.new.host) c.step.new.self c.in_err-step.field-0.0 c.in_err-step.ensures.undamaged passed left is)

pub returns-in_err-step-clause-changes : goal.returns-in_err-step-clause-changes
returns-in_err-step-clause-changes g c =
    let view = g.H.Host.view in
    changes_after (view c.args.host.now) (view c.loop-turn.host) c.args.task.now c.loop-turn.task c.loop-turn.invariant.on (view c.step.new.host) c.step.new.self c.step.ensures.changes

pub returns-in_err-step-clause-causes : goal.returns-in_err-step-clause-causes
returns-in_err-step-clause-causes g c =
    let view = g.H.Host.view in
    let on = c.loop-turn.invariant.on in
    let q = err_from_is_err_and c.from_residual.result c.from_residual.ensures.1 in
    rw (q.1, q.2)
    (well_before _ (view c.args.host.now) (view c.loop-turn.host) (view c.step.new.host) (Err c.in_err-step.field-0.0) on.disk on.out
    (subst (λ (kinds : List Class). CompactCauses {T = Unit {0}} (LacksClass kinds c.args.task.now.compaction.indexes) (view c.loop-turn.host) (view c.step.new.host) (Err c.in_err-step.field-0.0)) c.loop-turn.invariant.kinds
    (subst (λ (k : Compaction). CompactCauses {T = Unit {0}} (LacksClass (map (λ b. (goal.Analyzer-dyn g (b.vtable, b.value)).kind b.value) c.loop-turn.kit.objects.items) k.indexes) (view c.loop-turn.host) (view c.step.new.host) (Err c.in_err-step.field-0.0)) on.same
    (handed_on _ (view c.loop-turn.host) (view c.step.new.host) c.in_err-step.field-0.0 c.in_err-step.ensures.causes))))

pub returns-in_err-step-clause-classes : goal.returns-in_err-step-clause-classes
returns-in_err-step-clause-classes g c = c.step.ensures.classes ∙ c.loop-turn.invariant.kinds

-- ---- one more step

pub loop-turn-preserved : goal.loop-turn-preserved
loop-turn-preserved g c =
    let view = g.H.Host.view in
    record {
      on = passing_on (view c.args.host.now) (view c.loop-turn.host) c.args.task.now c.loop-turn.task c.loop-turn.invariant.on (view c.step.new.host) c.step.new.self (2 ^ 32 - 1) _ c.in_ok-step.ensures.passed
          c.in_ok-step.ensures.can c.step.ensures.same (λ most may. c.in_ok-step.ensures.reads most may) c.step.ensures.changes c.in_ok-step.ensures.causes.ok c.in_ok-step.ensures.causes.out;
      kinds = c.step.ensures.classes ∙ c.loop-turn.invariant.kinds;
    }

-- ---- all are passed

pub returns-in-Ready-clause-passed : goal.returns-in-Ready-clause-passed
returns-in-Ready-clause-passed g c =
    let view = g.H.Host.view in
    all_passed (view c.args.host.now) (view c.loop-turn.host) c.args.task.now c.loop-turn.task c.loop-turn.invariant.on (view c.step.new.host) c.step.new.self (2 ^ 32 - 1) c.in-Ready.left
    (λ passed left is. subst (λ (progress : Progress). HasPassed (view c.step.new.host) c.step.new.self.compaction c.step.new.self.output (2 ^ 32 - 1) passed left progress) c.in-Ready.is (c.in_ok-step.ensures.passed passed left is))

pub returns-in-Ready-clause-changes : goal.returns-in-Ready-clause-changes
returns-in-Ready-clause-changes g c =
    let view = g.H.Host.view in
    changes_after (view c.args.host.now) (view c.loop-turn.host) c.args.task.now c.loop-turn.task c.loop-turn.invariant.on (view c.step.new.host) c.step.new.self c.step.ensures.changes
