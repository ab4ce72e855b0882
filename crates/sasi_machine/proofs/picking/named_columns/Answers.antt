use Rattle.std.proofs.Common.{ℕ, [], ◌++◌, map, Option, ap, ◌∙◌}
use Rattle.std.specs.List.{cons_option}
use Rattle.sasi_model.specs.Abbreviations.{numbers_of}
use Rattle.sasi_schema.specs.Defined.{definition}
use Rattle.sasi_machine.specs.Picks.{pick}
use Rattle.sasi_machine.proofs.Picked.{picked_found}
use Rattle.sasi_machine.proofs.picking.named_columns.Goals as goal

pub loop-name-preserved : goal.loop-name-preserved
loop-name-preserved c =
    let d = definition c.args.table.now in
    picked_found d c.args.names.now c.loop-name.name-index c.name-item.result c.loop-name.list c.push_numbered.new.list (map pick (numbers_of d c.args.names.now))
    c.loop-name-test.true c.name-item.is c.loop-name.invariant
    (c.in_ok-push_numbered.ensures.ok ∙ ap (λ (o : Option ℕ). c.loop-name.list ++ map pick (cons_option o [])) c.number_of.ensures)
