use Rattle.std.proofs.Common.{◌≡◌, ◌-◌, ◌<◌, ℕ, IfOk, Some, arith, length, map, refl, subst, sym}
use Rattle.sasi_machine.specs.Classes.{TableLacks, TablesLack}
use Rattle.sasi_machine.proofs.Lacking.{missing_result}
use Rattle.sasi_layout.specs.Statements.{definitions_of}
use Rattle.sasi_schema.specs.Defined.{definition}
use Rattle.sasi_schema.specs.Numbers.{number_of_table}
use Rattle.sasi_machine_layout.specs.Contents.{AreKept, IsUnder, layout_of}
use Rattle.sasi_machine_layout.proofs.AnsweredChecks.{answered_at, as_many_tables, held_at, lacking_at, none_at}
use Rattle.sasi_machine_layout.proofs.TableLists.{all_at, index_got}
use Rattle.sasi_machine_layout.proofs.candidates.candidates.Goals as goal

pub returns-in_default-clause-checks : goal.returns-in_default-clause-checks
returns-in_default-clause-checks g c = none_at c.args.contents.now c.args.select.now c.requires.contents (sym c.in_default.ensures.number)

pub overflow_sub-at : goal.overflow_sub-at
overflow_sub-at g c = (held_at c.args.contents.now c.args.select.now.table c.in-Some.named.now.number c.requires.contents (sym c.in-Some.ensures.number)).some

pub bounds-tables-at : goal.bounds-tables-at
bounds-tables-at g c =
    let held = held_at c.args.contents.now c.args.select.now.table c.in-Some.named.now.number c.requires.contents (sym c.in-Some.ensures.number) in
    omega (arith, held.defined, as_many_tables c.tables.result.now c.args.contents.now.schema.definitions c.tables.ensures.definitions)

pub index-parts-requires : goal.index-parts-requires
index-parts-requires g c =
    let held = held_at c.args.contents.now c.args.select.now.table c.in-Some.named.now.number c.requires.contents (sym c.in-Some.ensures.number) in
    omega (arith, held.held, c.args.contents.now.tables.ok.0)

pub count_in-requires-clause-under : goal.count_in-requires-clause-under
count_in-requires-clause-under g c =
    let k = c.args.contents.now in
    let at = c.in-Some.named.now.number - 1 in
    let held = held_at k c.args.select.now.table c.in-Some.named.now.number c.requires.contents (sym c.in-Some.ensures.number) in
    all_at (IsUnder k.partitioner) at k.tables.items c.index-parts.result.now c.requires.contents.under (index_got k.tables.items at c.index-parts.result.now held.held c.index-parts.ensures)

pub count_in-requires-clause-kept : goal.count_in-requires-clause-kept
count_in-requires-clause-kept g c =
    let k = c.args.contents.now in
    let at = c.in-Some.named.now.number - 1 in
    let held = held_at k c.args.select.now.table c.in-Some.named.now.number c.requires.contents (sym c.in-Some.ensures.number) in
    all_at AreKept at k.tables.items c.index-parts.result.now c.requires.contents.kept (index_got k.tables.items at c.index-parts.result.now held.held c.index-parts.ensures)

pub returns-clause-checks : goal.returns-clause-checks
returns-clause-checks g c =
    let k = c.args.contents.now in
    let number = c.in-Some.named.now.number in
    let is : number_of_table c.args.select.now.table k.schema.definitions ≡ Some number = sym c.in-Some.ensures.number in
    let held = held_at k c.args.select.now.table number c.requires.contents is in
    let within : number - 1 < length c.tables.result.now = omega (arith, held.defined, as_many_tables c.tables.result.now k.schema.definitions c.tables.ensures.definitions) in
    subst (λ (n : ℕ). IfOk c.count_in.result (λ count. count ≡ n))
    (answered_at k c.args.select.now.table c.tables.result.now number c.index-tables-at.result c.requires.contents is c.tables.ensures.definitions (index_got c.tables.result.now (number - 1) c.index-tables-at.result within c.index-tables-at.is)
    c.args.select.now c.index-parts.result.now refl c.tables.ensures.numbers (index_got k.tables.items (number - 1) c.index-parts.result.now held.held c.index-parts.ensures))
    c.count_in.ensures.checks

pub returns-clause-missing : goal.returns-clause-missing
returns-clause-missing g c =
    let k = c.args.contents.now in
    let number = c.in-Some.named.now.number in
    let is : number_of_table c.args.select.now.table k.schema.definitions ≡ Some number = sym c.in-Some.ensures.number in
    let held = held_at k c.args.select.now.table number c.requires.contents is in
    let within : number - 1 < length c.tables.result.now = omega (arith, held.defined, as_many_tables c.tables.result.now k.schema.definitions c.tables.ensures.definitions) in
    let kinds = (map (λ b. (goal.Analyzer-dyn g (b.vtable, b.value)).kind b.value) c.args.kit.now.objects.items) in
    missing_result (TableLacks kinds (definition c.index-tables-at.result)) (TablesLack kinds (definitions_of (layout_of k))) c.count_in.result
    (lacking_at k c.args.select.now.table c.tables.result.now number c.index-tables-at.result c.requires.contents is c.tables.ensures.definitions (index_got c.tables.result.now (number - 1) c.index-tables-at.result within c.index-tables-at.is) kinds)
    c.count_in.ensures.missing
