use Rattle.std.proofs.Common.{◌≡◌, ◌∙◌, true, false, Err, Option, refl, subst, sym, arith}
use Rattle.std.proofs.lemmas.Result.{err_from_is_err_and}
use Rattle.sasi_host.specs.Names.{data_name}
use Rattle.sasi_host.proofs.ChangeLaws.{touches_on, untouched}
use Rattle.sasi_compact.specs.Tasks.{CanGoOnTo, IsCompactingTo, MayReadTo}
use Rattle.sasi_compact.specs.declared.output.Output.{Output}
use Rattle.sasi_compact.proofs.Faults.{all_well, handed_on, lacking_more, well_before}
use Rattle.sasi_compact.proofs.Stepping.{damaged_on, idle_passed, none_there, passed_on, reads_on}
use Rattle.sasi_compact.proofs.output.do_units.Goals as goal

-- ---- nothing to be done

pub returns-then-is_idle-clause-passed : goal.returns-then-is_idle-clause-passed
returns-then-is_idle-clause-passed g c =
    idle_passed (g.H.Host.view c.args.host.now) c.args.compaction.now c.requires.compaction c.args.output.now c.args.units (c.is_idle.ensures.none c.if-is_idle.true) (c.is_idle.ensures.no_units c.if-is_idle.true)

pub returns-then-is_idle-clause-give_up : goal.returns-then-is_idle-clause-give_up
returns-then-is_idle-clause-give_up g c = none_there _ _ c.args.output.now (c.is_idle.ensures.none c.if-is_idle.true)

pub returns-then-is_idle-clause-idle : goal.returns-then-is_idle-clause-idle
returns-then-is_idle-clause-idle g c none few = (none, refl)

pub returns-then-is_idle-clause-reads : goal.returns-then-is_idle-clause-reads
returns-then-is_idle-clause-reads g c most may = record { left = most; may = may; reads = omega arith }

pub returns-then-is_idle-clause-changes : goal.returns-then-is_idle-clause-changes
returns-then-is_idle-clause-changes g c = untouched _ _

pub returns-then-is_idle-clause-causes : goal.returns-then-is_idle-clause-causes
returns-then-is_idle-clause-causes g c = all_well _ _ _ _ refl refl

-- ---- the output can't be begun

pub begun-requires-clause-can : goal.begun-requires-clause-can
begun-requires-clause-can g c = subst (λ (o : Option Output). CanGoOnTo (g.H.Host.view c.args.host.now) c.args.compaction.now o) (sym c.take.ensures.value) c.requires.can

pub returns-in_err-made-clause-give_up : goal.returns-in_err-made-clause-give_up
returns-in_err-made-clause-give_up g c = none_there _ _ c.take.new.self c.take.ensures.after

pub returns-in_err-made-clause-idle : goal.returns-in_err-made-clause-idle
returns-in_err-made-clause-idle g c none few = absurd (let idle : true ≡ false = sym (c.is_idle.ensures.only none few) ∙ c.if-is_idle.false in cc)

pub returns-in_err-made-clause-reads : goal.returns-in_err-made-clause-reads
returns-in_err-made-clause-reads g c most may =
    let q = err_from_is_err_and c.from_residual.result c.from_residual.ensures.1 in
    rw q.1 (c.in_err-made.ensures.reads most (subst (λ (o : Option Output). MayReadTo (g.H.Host.view c.args.host.now).files c.args.compaction.now o most) (sym c.take.ensures.value) may))

pub returns-in_err-made-clause-damaged : goal.returns-in_err-made-clause-damaged
returns-in_err-made-clause-damaged g c =
    let q = err_from_is_err_and c.from_residual.result c.from_residual.ensures.1 in
    rw (q.1, q.2) c.in_err-made.ensures.damaged

pub returns-in_err-made-clause-undamaged : goal.returns-in_err-made-clause-undamaged
returns-in_err-made-clause-undamaged g c passed left is =
    let q = err_from_is_err_and c.from_residual.result c.from_residual.ensures.1 in
    rw (q.1, q.2) (c.in_err-made.ensures.undamaged passed left (subst (λ (o : Option Output). IsCompactingTo (g.H.Host.view c.args.host.now) c.args.compaction.now o passed left) (sym c.take.ensures.value) is))

pub returns-in_err-made-clause-changes : goal.returns-in_err-made-clause-changes
returns-in_err-made-clause-changes g c = c.begun.ensures.changes

pub returns-in_err-made-clause-causes : goal.returns-in_err-made-clause-causes
returns-in_err-made-clause-causes g c =
    let view = g.H.Host.view in
    let q = err_from_is_err_and c.from_residual.result c.from_residual.ensures.1 in
    rw (q.1, q.2)
    (lacking_more (λ _. ⊥) _ (view c.args.host.now) (view c.begun.new.host) (Err c.in_err-made.field-0.0) (λ class lacks. absurd lacks) (handed_on _ (view c.args.host.now) (view c.begun.new.host) c.in_err-made.field-0.0 c.in_err-made.ensures.causes))

-- ---- units

pub pass_units-passed-requires-clause-can : goal.pass_units-passed-requires-clause-can
pass_units-passed-requires-clause-can g c = c.in_ok-made.ensures.can

pub returns-clause-passed : goal.returns-clause-passed
returns-clause-passed g c =
    let view = g.H.Host.view in
    passed_on (view c.args.host.now) (view c.begun.new.host) (view c.pass_units-passed.new.host) c.args.compaction.now c.args.output.now c.in_ok-made.made c.pass_units-passed.new.output c.args.units c.pass_units-passed.result
    (λ passed left is. c.in_ok-made.ensures.begun passed left (subst (λ (o : Option Output). IsCompactingTo (view c.args.host.now) c.args.compaction.now o passed left) (sym c.take.ensures.value) is)) c.pass_units-passed.ensures.passed

pub returns-clause-can : goal.returns-clause-can
returns-clause-can g c = c.pass_units-passed.ensures.can

pub returns-clause-ready : goal.returns-clause-ready
returns-clause-ready g c = c.pass_units-passed.ensures.ready

pub returns-clause-give_up : goal.returns-clause-give_up
returns-clause-give_up g c = c.pass_units-passed.ensures.there

pub returns-clause-idle : goal.returns-clause-idle
returns-clause-idle g c none few = absurd (let idle : true ≡ false = sym (c.is_idle.ensures.only none few) ∙ c.if-is_idle.false in cc)

pub returns-clause-reads : goal.returns-clause-reads
returns-clause-reads g c most may =
    let view = g.H.Host.view in
    let so_far = c.in_ok-made.ensures.reads most (subst (λ (o : Option Output). MayReadTo (view c.args.host.now).files c.args.compaction.now o most) (sym c.take.ensures.value) may) in
    reads_on (view c.args.host.now) (view c.begun.new.host) (view c.pass_units-passed.new.host) c.args.compaction.now c.args.output.now c.in_ok-made.made c.pass_units-passed.new.output c.args.units c.pass_units-passed.result most may so_far (c.pass_units-passed.ensures.reads so_far.left so_far.may)

pub returns-clause-damaged : goal.returns-clause-damaged
returns-clause-damaged g c =
    let view = g.H.Host.view in
    damaged_on (view c.args.host.now) (view c.begun.new.host) (view c.pass_units-passed.new.host) c.args.compaction.now c.args.output.now c.in_ok-made.made c.pass_units-passed.new.output c.args.units c.pass_units-passed.result c.requires.compaction c.begun.ensures.changes c.pass_units-passed.ensures.damaged

pub returns-clause-undamaged : goal.returns-clause-undamaged
returns-clause-undamaged g c passed left is =
    c.pass_units-passed.ensures.undamaged passed left
    (c.in_ok-made.ensures.begun passed left (subst (λ (o : Option Output). IsCompactingTo (g.H.Host.view c.args.host.now) c.args.compaction.now o passed left) (sym c.take.ensures.value) is))

pub returns-clause-changes : goal.returns-clause-changes
returns-clause-changes g c = touches_on _ _ _ (data_name c.args.compaction.now.number) c.begun.ensures.changes c.pass_units-passed.ensures.changes

pub returns-clause-causes : goal.returns-clause-causes
returns-clause-causes g c =
    let view = g.H.Host.view in
    well_before _ (view c.args.host.now) (view c.begun.new.host) (view c.pass_units-passed.new.host) c.pass_units-passed.result c.in_ok-made.ensures.causes.ok c.in_ok-made.ensures.causes.out c.pass_units-passed.ensures.causes

pub returns-clause-classes : goal.returns-clause-classes
returns-clause-classes g c = c.pass_units-passed.ensures.classes
