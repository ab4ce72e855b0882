use Rattle.std.proofs.Common.{◌∙◌, ap, sym}
use Rattle.sasi_types.specs.declared.column.ColumnType.{ColumnType}
use Rattle.sasi_body.specs.Body.{is_value}
use Rattle.sasi_body.proofs.Values.{utf8_test}
use Rattle.sasi_body.proofs.value.is_value.Goals as goal

pub returns-in-Text : goal.returns-in-Text
returns-in-Text c = utf8_test c.args.bytes.now c.is_text.result c.is_text.ensures ∙ ap (λ (k : ColumnType). is_value k c.args.bytes.now) (sym c.in-Text.is)
