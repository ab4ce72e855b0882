use Rattle.std.proofs.Common.{◌++◌, List, ℕ, Option, None, Some, append-nil, refl, sym, ap, subst, ◌∙◌, arith}
use Rattle.std.proofs.lemmas.Result.{err_from_is_err_and}
use Rattle.sasi_cells.specs.declared.picked.Picked.{Picked}
use Rattle.sasi_model.specs.Abbreviations.{row_line}
use Rattle.sasi_model.specs.Cells.{Partition}
use Rattle.sasi_plan.specs.Answers.{GivesNext, RowsLeft}
use Rattle.sasi_plan.specs.contracts.plan_candidates.PlanCandidatesCandidates.TheImpl as source
use Rattle.sasi_fetch.specs.Printing.{row_picked}
use Rattle.sasi_fetch.proofs.rows.print_next.Goals as goal

pub returns-in_err-key-clause-reads : goal.returns-in_err-key-clause-reads
returns-in_err-key-clause-reads g c most left =
    let p = err_from_is_err_and c.from_residual.result c.from_residual.ensures.1 in
    rw p.1 (c.in_err-key.ensures.reads most left)

pub returns-in_err-key-clause-reads_up_to : goal.returns-in_err-key-clause-reads_up_to
returns-in_err-key-clause-reads_up_to g c n most left =
    let p = err_from_is_err_and c.from_residual.result c.from_residual.ensures.1 in
    rw p.1 (c.in_err-key.ensures.reads_up_to n most left)

pub returns-in_default-clause-row : goal.returns-in_default-clause-row
returns-in_default-clause-row g c = record {
  found = None;
  printed_is = refl;
  reply_is = sym (append-nil c.args.reply.now);
  gives = λ rows left. subst (λ (o : Option (List ℕ × Partition)). GivesNext (RowsLeft source.leaves-value.it c.next_partition.new.self.rows (g.H.Host.view c.next_partition.new.host).files c.args.maps.now) rows o) c.in_default.is (c.in_ok-key.ensures.row rows left);
}

pub returns-in_err-picked_row-clause-reads : goal.returns-in_err-picked_row-clause-reads
returns-in_err-picked_row-clause-reads g c most left =
    let p = err_from_is_err_and c.from_residual-in_err-picked_row.result c.from_residual-in_err-picked_row.ensures.1 in
    let one = c.in_ok-key.ensures.reads most left in
    rw p.1 (omega (arith, one.2))

pub returns-in_err-picked_row-clause-reads_up_to : goal.returns-in_err-picked_row-clause-reads_up_to
returns-in_err-picked_row-clause-reads_up_to g c n most left =
    let p = err_from_is_err_and c.from_residual-in_err-picked_row.result c.from_residual-in_err-picked_row.ensures.1 in
    let one = c.in_ok-key.ensures.reads_up_to n most left in
    rw p.1 (omega (arith, one.2))

pub returns-clause-row : goal.returns-clause-row
returns-clause-row g c =
    let key = c.in-Some.key in
    let part = c.in-Some.part in
    record {
      found = Some (key, part);
      printed_is = refl;
      reply_is =
          c.in_ok-picked_row.ensures.ok
          ∙ ap (λ (k : Picked). c.args.reply.now ++ row_line (row_picked k (key, part))) (c.picked.ensures ∙ c.next_partition.ensures.picked)
          ∙ ap (λ (x : List ℕ). c.args.reply.now ++ x) (sym (append-nil (row_line (row_picked c.args.reader.now.picked (key, part)))));
      gives = λ rows left. subst (λ (o : Option (List ℕ × Partition)). GivesNext (RowsLeft source.leaves-value.it c.next_partition.new.self.rows (g.H.Host.view c.next_partition.new.host).files c.args.maps.now) rows o) c.in-Some.is (c.in_ok-key.ensures.row rows left);
    }

pub returns-in_default-clause-counted : goal.returns-in_default-clause-counted
returns-in_default-clause-counted g c count is none = c.in_ok-key.ensures.counted count is c.in_default.is

pub returns-clause-counted : goal.returns-clause-counted
returns-clause-counted g c count is none = cc
