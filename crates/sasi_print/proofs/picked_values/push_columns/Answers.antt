use Rattle.std.proofs.Common.{arith}
use Rattle.std.proofs.lemmas.Result.{on_ok_weaker}
use Rattle.sasi_cells.specs.Rows.{picked_value}
use Rattle.sasi_print.proofs.RowPrints.{columns_text, first_and_others}
use Rattle.sasi_print.proofs.picked_values.push_columns.Goals as goal

pub returns : goal.returns
returns c = record { ok = on_ok_weaker c.push_others.result (λ e. columns_text (picked_value c.args.kind c.args.key.now c.args.part.now) c.args.columns.now _ _ _ _ _ (first_and_others c.args.columns.now _ (omega (arith, c.in-len1-up.len_at_least))) c.in_ok-push_column.ensures.ok e) c.push_others.ensures.ok }
