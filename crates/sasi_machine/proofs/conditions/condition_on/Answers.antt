use Rattle.std.proofs.Common.{List, Option, map, ap, subst, ◌∙◌}
use Rattle.std.specs.Option.{option_and_then}
use Rattle.sasi_types.specs.declared.rule.Rule.{Rule}
use Rattle.sasi_types.specs.declared.index_def.IndexDef.{IndexDef}
use Rattle.sasi_model.specs.Indexes.{index_of, index_on}
use Rattle.sasi_model.specs.State.{Index}
use Rattle.sasi_schema.specs.Defined.{definition}
use Rattle.sasi_machine.specs.Classes.{RuleLacks, TableLacks}
use Rattle.sasi_machine.proofs.Lacking.{missing_as, missing_exit, rule_lacks}
use Rattle.sasi_machine.proofs.conditions.condition_on.Goals as goal

pub returns-in_err-search-in-Some-clause-missing : goal.returns-in_err-search-in-Some-clause-missing
returns-in_err-search-in-Some-clause-missing g c =
    let kinds = (map (λ b. (goal.Analyzer-dyn g (b.vtable, b.value)).kind b.value) c.args.kit.now.objects.items) in
    let d = definition c.args.table.now in
    let fault = c.in_err-search-in-Some.field-0.0 in
    missing_exit (TableLacks kinds d) c.from_residual.result fault c.from_residual.ensures.1
    (missing_as (RuleLacks kinds c.in-Some.index.now.rule) (TableLacks kinds d) fault
    (λ class lacks. rule_lacks d c.args.number kinds class (subst (λ (r : Option Rule). RuleLacks kinds r class) (ap (option_and_then (λ (i : Index). i.rule)) (c.in-Some.ensures ∙ ap (λ (l : List IndexDef). index_on c.args.number (map index_of l)) c.as_slice.ensures)) lacks))
    c.in_err-search-in-Some.ensures.missing)
