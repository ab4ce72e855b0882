use Rattle.std.proofs.Common.{ℕ, Some, sym, ap, subst, ◌∙◌}
use Rattle.sasi_schema.specs.Defined.{definition}
use Rattle.sasi_machine.specs.KeyLiteral.{IsKeyLiteral}
use Rattle.sasi_machine.proofs.Asking.{key_operand}
use Rattle.sasi_machine.proofs.conditions.condition_of.Goals as goal

pub key_given-requires : goal.key_given-requires
key_given-requires g c =
    let kind = c.in-Some-eq0-default.kind in
    let t = c.args.table.now in
    subst (IsKeyLiteral kind) (sym c.in_ok-value-in-Some-eq0-default.ensures)
    (key_operand (definition t) c.args.relation.now kind t.key_is_there c.requires (sym c.in-Some-eq0-default.ensures.number ∙ ap (λ (n : ℕ). Some n) c.in-Some-eq0-default.field-0-0-test) (sym c.in-Some-eq0-default.ensures.kind))
