use Rattle.std.proofs.Common.{◌≡◌, IfErr, IfOk, List, map, subst}
use Rattle.sasi_candidates.specs.Candidates.{is_candidate}
use Rattle.sasi_machine.specs.Classes.{OnMissing, WhereLacks}
use Rattle.sasi_model.specs.Conditions.{Condition}
use Rattle.sasi_model.specs.Filters.{where_of}
use Rattle.sasi_machine_layout.specs.Hits.{parts_in}
use Rattle.sasi_machine_layout.proofs.count.is_left.Goals as goal

pub returns-clause-candidate : goal.returns-clause-candidate
returns-clause-candidate g c =
    subst (λ (cs : List Condition). IfOk c.is_candidate.result (λ candidate. candidate ≡ is_candidate (parts_in c.args.table.now c.args.parts.now) (where_of cs) c.args.key.now)) c.conditions.ensures c.is_candidate.ensures.candidate

pub returns-clause-missing : goal.returns-clause-missing
returns-clause-missing g c =
    subst (λ (cs : List Condition). IfErr c.is_candidate.result (OnMissing (WhereLacks (map (λ b. (goal.Analyzer-dyn g (b.vtable, b.value)).kind b.value) c.args.kit.now.objects.items) cs))) c.conditions.ensures c.is_candidate.ensures.missing
