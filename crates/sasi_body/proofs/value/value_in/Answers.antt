use Rattle.std.proofs.Common.{◌∙◌, ap, sym, Option, Some}
use Rattle.sasi_types.specs.declared.column.ColumnType.{ColumnType}
use Rattle.sasi_types.specs.declared.value.Value.{Value}
use Rattle.sasi_body.specs.Body.{value_in}
use Rattle.sasi_body.proofs.Values.{is_stored, value_again}
use Rattle.sasi_body.proofs.value.value_in.Goals as goal

pub decode_value-requires : goal.decode_value-requires
decode_value-requires c = is_stored c.in-Some.kind c.args.bytes.now (sym c.if-not-is_value.ensures)

pub returns : goal.returns
returns c =
    ap (λ (v : Value). Some v) c.in_ok-decode_value.ensures ∙ value_again c.in-Some.kind c.args.bytes.now (λ i. (c.type_inv.bytes i).fits) (sym c.if-not-is_value.ensures) ∙ ap (λ (k : Option ColumnType). value_in k c.args.bytes.now) (sym c.in-Some.is)
