use Rattle.std.proofs.Common.{◌≡◌, List, IfOk, map, ap, subst, ◌∙◌}
use Rattle.sasi_model.specs.Conditions.{Condition}
use Rattle.sasi_model.specs.Filters.{accepts, where_of}
use Rattle.sasi_machine.specs.Where.{model_condition}
use Rattle.sasi_machine.proofs.row_filter.RowFilter.accepts.Goals as goal

pub returns-clause-accepts : goal.returns-clause-accepts
returns-clause-accepts g c =
    subst (λ (cs : List Condition). IfOk c.meet_all.result (λ accepted. accepted ≡ accepts (where_of cs) c.args.key.now c.args.part.now)) (ap (map model_condition) c.deref.ensures.value ∙ c.self.view_is) c.meet_all.ensures.accepts
