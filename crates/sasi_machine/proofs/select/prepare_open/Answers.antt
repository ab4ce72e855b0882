use Rattle.std.proofs.Common.{map, sym}
use Rattle.sasi_schema.specs.Defined.{definition}
use Rattle.sasi_machine.specs.Classes.{TableLacks, TablesLack}
use Rattle.sasi_machine.specs.Prepares.{known_by}
use Rattle.sasi_machine.proofs.SelectPreparing.{cursor_absent, cursor_any}
use Rattle.sasi_machine.proofs.Lacking.{definition_there, memory_alone, missing_result}
use Rattle.sasi_machine.proofs.select.prepare_open.Goals as goal

pub returns-in-None-clause-prepares : goal.returns-in-None-clause-prepares
returns-in-None-clause-prepares g c =
    cursor_absent (known_by c.args.schema.now 0) c.args.cursor c.args.select c.args.reply.now c.refuse_table.new.reply c.refuse_table.result c.in-None.ensures.definition c.refuse_table.ensures.prepares

pub returns-in-None-clause-missing : goal.returns-in-None-clause-missing
returns-in-None-clause-missing g c = memory_alone (TablesLack (map (λ b. (goal.Analyzer-dyn g (b.vtable, b.value)).kind b.value) c.args.kit.now.objects.items) c.args.schema.now.definitions) c.refuse_table.result c.refuse_table.ensures.err

pub returns-in-Some-clause-prepares : goal.returns-in-Some-clause-prepares
returns-in-Some-clause-prepares g c =
    cursor_any (known_by c.args.schema.now 0) c.args.cursor c.args.select c.in-Some.table.now c.args.reply.now c.prepare_cursor.new.reply c.prepare_cursor.result c.requires c.in-Some.ensures.definition c.in-Some.ensures.number c.prepare_cursor.ensures.prepares

pub returns-in-Some-clause-missing : goal.returns-in-Some-clause-missing
returns-in-Some-clause-missing g c =
    let kinds = (map (λ b. (goal.Analyzer-dyn g (b.vtable, b.value)).kind b.value) c.args.kit.now.objects.items) in
    let t = c.in-Some.table.now in
    let ds = c.args.schema.now.definitions in
    missing_result (TableLacks kinds (definition t)) (TablesLack kinds ds) c.prepare_cursor.result
    (λ class lacks. record { definition = definition t; defined = definition_there c.args.select.table ds (definition t) (sym c.in-Some.ensures.definition); lacks = lacks }) c.prepare_cursor.ensures.missing
