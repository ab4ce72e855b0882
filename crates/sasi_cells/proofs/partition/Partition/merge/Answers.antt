use Rattle.std.proofs.Common.{ap, ◌∙◌}
use Rattle.std.proofs.lemmas.Result.{on_ok_weaker}
use Rattle.sasi_model.specs.Cells.{Partition as Written, merge}
use Rattle.sasi_cells.proofs.Laws.Merged.{merge_associates, merge_with_itself}
use Rattle.sasi_cells.proofs.Laws.Typed.{typed_merge_commutes}
use Rattle.sasi_cells.proofs.partition.Partition.merge.Goals as goal

pub returns-clause-commutes : goal.returns-clause-commutes
returns-clause-commutes c types mine theirs =
    on_ok_weaker c.merge_from.result (λ e. e ∙ ap (merge c.args.self.now) c.in_ok-copy.ensures.ok ∙ typed_merge_commutes types _ _ mine theirs) c.merge_from.ensures.ok

pub returns-clause-associates : goal.returns-clause-associates
returns-clause-associates c third =
    on_ok_weaker c.merge_from.result (λ e. ap (λ (p : Written). merge p third) (e ∙ ap (merge c.args.self.now) c.in_ok-copy.ensures.ok) ∙ merge_associates _ _ third) c.merge_from.ensures.ok

pub returns-clause-idempotent : goal.returns-clause-idempotent
returns-clause-idempotent c = merge_with_itself c.args.other.now c.copy.ensures.normal

pub returns-in_err-copy-clause-idempotent : goal.returns-in_err-copy-clause-idempotent
returns-in_err-copy-clause-idempotent c = merge_with_itself c.args.other.now c.copy.ensures.normal
