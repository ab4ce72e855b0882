use Rattle.std.proofs.Common.{◌≡◌, ◌-◌, map, None, Some, ap, arith, subst, sym, ◌∙◌}
use Rattle.std.proofs.lemmas.Result.{IfOk-weaker}
use Rattle.std.specs.FinMap as fin
use Rattle.sasi_types.specs.declared.column.ColumnType.{ColumnType}
use Rattle.sasi_memtable.specs.MemtableView.{MemtableView}
use Rattle.sasi_model.specs.Abbreviations.{key_type, row_line}
use Rattle.sasi_model.specs.State.{Definition}
use Rattle.sasi_model.specs.Step.{select_rows}
use Rattle.sasi_schema.specs.Defined.{definition}
use Rattle.sasi_machine.specs.Operands.{CanSelect}
use Rattle.sasi_machine.specs.TableRows.{KeysStored, TextsStored}
use Rattle.sasi_machine.proofs.PreparedPieces.{one_definition, read_at, rows_at}
use Rattle.sasi_machine.proofs.database.Database.lines.Goals as goal

nothing_there : (d : Definition) → None ≡ Some d → ⊥
nothing_there d is = cc

pub unreachable-requires : goal.unreachable-requires
unreachable-requires g c =
    let s = c.self.inside in
    let h = rows_at s.partitioner s.schema.definitions s.memtables.items s.max_timestamp c.args.self.now c.args.rows.now c.self.view_is c.self.invariant c.requires in
    nothing_there h.definition (c.in_default.ensures.definition ∙ h.defined)

pub new-requires : goal.new-requires
new-requires g c =
    let s = c.self.inside in
    let h = rows_at s.partitioner s.schema.definitions s.memtables.items s.max_timestamp c.args.self.now c.args.rows.now c.self.view_is c.self.invariant c.requires in
    let t = definition c.in-Some.table.now in
    subst (λ (d : Definition). CanSelect d c.args.rows.now.select) (sym (one_definition t h.definition (c.in-Some.ensures.definition ∙ h.defined))) h.can

pub index-memtable-requires : goal.index-memtable-requires
index-memtable-requires g c =
    let s = c.self.inside in
    let h = rows_at s.partitioner s.schema.definitions s.memtables.items s.max_timestamp c.args.self.now c.args.rows.now c.self.view_is c.self.invariant c.requires in
    omega (arith, h.some, h.inside, s.memtables.ok.0)

pub row_lines-requires-clause-keys : goal.row_lines-requires-clause-keys
row_lines-requires-clause-keys g c =
    let s = c.self.inside in
    let h = rows_at s.partitioner s.schema.definitions s.memtables.items s.max_timestamp c.args.self.now c.args.rows.now c.self.view_is c.self.invariant c.requires in
    let t = definition c.in-Some.table.now in
    let kind_is = c.in_ok-query.ensures.key ∙ ap key_type (one_definition t h.definition (c.in-Some.ensures.definition ∙ h.defined)) in
    subst (λ (kind : ColumnType). KeysStored kind c.index-memtable.result.now.partitions) (sym kind_is)
    (subst (λ (x : MemtableView). KeysStored (key_type h.definition) x.partitions) (sym (read_at s.memtables.items (c.args.rows.now.table - 1) c.index-memtable.result.now h.memtable h.got c.index-memtable.ensures)) h.stored.keys)

pub row_lines-requires-clause-texts : goal.row_lines-requires-clause-texts
row_lines-requires-clause-texts g c =
    let s = c.self.inside in
    let h = rows_at s.partitioner s.schema.definitions s.memtables.items s.max_timestamp c.args.self.now c.args.rows.now c.self.view_is c.self.invariant c.requires in
    subst (λ (x : MemtableView). TextsStored x.partitions) (sym (read_at s.memtables.items (c.args.rows.now.table - 1) c.index-memtable.result.now h.memtable h.got c.index-memtable.ensures)) h.stored.texts

pub returns-clause-lines : goal.returns-clause-lines
returns-clause-lines g c =
    let s = c.self.inside in
    let h = rows_at s.partitioner s.schema.definitions s.memtables.items s.max_timestamp c.args.self.now c.args.rows.now c.self.view_is c.self.invariant c.requires in
    let t = definition c.in-Some.table.now in
    let q = c.args.rows.now.select in
    let same = read_at s.memtables.items (c.args.rows.now.table - 1) c.index-memtable.result.now h.memtable h.got c.index-memtable.ensures in
    IfOk-weaker c.row_lines.result _ _ (λ lines is. is
    ∙ ap (map row_line)
    (c.in_ok-query.ensures.rows (fin.entries c.index-memtable.result.now.partitions)
    ∙ ap (λ (d : Definition). select_rows d q (fin.entries c.index-memtable.result.now.partitions)) (one_definition t h.definition (c.in-Some.ensures.definition ∙ h.defined))
    ∙ ap (λ (x : MemtableView). select_rows h.definition q (fin.entries x.partitions)) same
    ∙ sym h.rows_are)) c.row_lines.ensures.lines
