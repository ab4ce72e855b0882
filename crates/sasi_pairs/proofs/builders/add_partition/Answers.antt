use Rattle.std.proofs.Common.{map, ◌∙◌, arith}
use Rattle.sasi_memindex.proofs.ChangedIndexes.{handed_on}
use Rattle.sasi_pairs.proofs.Replaced.{can_take, defs_set, filled_all, filled_more, lacks}
use Rattle.sasi_pairs.proofs.builders.add_partition.Goals as goal

pub add-requires : goal.add-requires
add-requires g c =
    let on = c.builders in
    can_take c.args.pair c.args.part.now c.args.builders.now on.builders on.at on.invariant.filled c.index-builders-at.result (omega (arith, c.builders-test.true, on.auto.builders)) c.requires

pub returns-in_err-add-clause-defs : goal.returns-in_err-add-clause-defs
returns-in_err-add-clause-defs g c =
    let on = c.builders in
    defs_set on.builders on.at c.add.new.self c.index-builders-at.result c.add.ensures.def ∙ on.invariant.defs

pub returns-in_err-add-clause-missing : goal.returns-in_err-add-clause-missing
returns-in_err-add-clause-missing g c class e =
    let on = c.builders in
    lacks c.args.pair c.args.part.now c.args.builders.now on.builders on.at on.invariant.filled c.index-builders-at.result (omega (arith, c.builders-test.true, on.auto.builders))
    (map (λ b. (goal.Analyzer-dyn g (b.vtable, b.value)).kind b.value) c.args.kit.now.objects.items) (map (λ b. (goal.Analyzer-dyn g (b.vtable, b.value)).kind b.value) on.kit.objects.items) class on.invariant.classes
    (c.add.ensures.missing class (handed_on c.add.result c.from_residual.result c.in_err-add.field-0.0 class c.in_err-add.was c.from_residual.ensures.1 e))

pub returns-in_err-add-clause-classes : goal.returns-in_err-add-clause-classes
returns-in_err-add-clause-classes g c = c.add.ensures.classes ∙ c.builders.invariant.classes

pub builders-preserved : goal.builders-preserved
builders-preserved g c =
    let on = c.builders in
    record {
      filled = filled_more c.args.pair c.args.part.now c.args.builders.now on.builders on.at on.invariant.filled c.index-builders-at.result (omega (arith, c.builders-test.true, on.auto.builders)) c.add.new.self c.in_ok-add.ensures.ok;
      defs = defs_set on.builders on.at c.add.new.self c.index-builders-at.result c.add.ensures.def ∙ on.invariant.defs;
      classes = c.add.ensures.classes ∙ on.invariant.classes;
    }

pub returns-clause-ok : goal.returns-clause-ok
returns-clause-ok g c = filled_all c.args.pair c.args.part.now c.args.builders.now c.builders.builders c.builders.at c.builders.invariant.filled (omega (arith, c.builders-test.false, c.builders.auto.builders))
