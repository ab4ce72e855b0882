use Rattle.std.proofs.Common.{◌≡◌, List, true, subst, sym}
use Rattle.sasi_cells.specs.declared.picked.Picked.{Picked}
use Rattle.sasi_views.specs.declared.part.Part.{Part}
use Rattle.sasi_sources.specs.Maps.{IsOneOf}
use Rattle.sasi_engine.specs.Plans.{is_file_of, map_numbers}
use Rattle.sasi_plan.specs.Reading.{PendingShows}
use Rattle.sasi_plan.specs.contracts.plan_candidates.PlanCandidatesCandidates.TheImpl as source
use Rattle.sasi_fetch.proofs.cursor.Cursor.new.Goals as goal

pub returns-clause-readable : goal.returns-clause-readable
returns-clause-readable c files book ready keyed =
    let begun = c.new.ensures in
    let candidates = c.new.result.rows.candidates in
    record {
      ready = begun.ready files book ready;
      prints = subst (λ (k : Picked). source.prints-value.it candidates files book k.key) (sym begun.picked) (begun.prints files book c.args.plan.picked.key keyed);
      opens = λ name at. subst (λ (ps : List Part). is_file_of ps name ≡ true) (sym begun.view) (begun.opens name at);
      uses = λ number at. subst (λ (ps : List Part). IsOneOf (map_numbers ps) number) (sym begun.view) (begun.uses number at);
      shows = λ seen damage at. subst (λ (ps : List Part). PendingShows c.args.plan.types ps seen damage) (sym begun.view) (begun.shows seen damage at);
    }
