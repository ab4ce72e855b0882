use Rattle.std.proofs.Common.{◌≡◌, ◌⊎◌, ◌++◌, List, ℕ, Some, false, ap, inl, inr, map, refl, subst, sym, ◌∙◌}
use Rattle.std.proofs.lemmas.Result.{err_from_is_err_and}
use Rattle.sasi_cells.specs.Mutations.{state_with_mutation}
use Rattle.sasi_layout.proofs.ClassLaws.{known_created, known_defined}
use Rattle.sasi_layout.specs.Classes.{HasNeeded, KnowsClasses, LacksNeeded}
use Rattle.sasi_layout.specs.Layout.{state_of}
use Rattle.sasi_machine.specs.Prepares.{Prepares, answer_rows}
use Rattle.sasi_machine.proofs.SessionTurns.{created_leaves, defined_leaves, flushed_leaves, selected_turns, written_leaves}
use Rattle.sasi_model.specs.Asked as ask
use Rattle.sasi_model.specs.Asked.{class_needed}
use Rattle.sasi_model.specs.Changes.{state_with_index, with_new_table}
use Rattle.sasi_model.specs.Pieces.{piece_of}
use Rattle.sasi_schema.specs.Defined.{definition}
use Rattle.sasi_schema.specs.SchemaViews.{index_of_new}
use Rattle.sasi_types.specs.declared.class.Class.{Class}
use Rattle.sasi_tables.specs.TablesView.{memory_of}
use Rattle.sasi_folder.specs.Damages.{FolderShows}
use Rattle.sasi_cursors.specs.Cursors.{cursor_of, is_open}
use Rattle.sasi_tasks.specs.Running.{KnowsTasks}
use Rattle.sasi_store.specs.CursorCalls.{HasAllListed}
use Rattle.sasi_store.specs.Cursors.{views_out}
use Rattle.sasi_store.specs.HeldDamage.{StepShows}
use Rattle.sasi_store.specs.declared.session_state.OpenCursor.{OpenCursor}
use Rattle.sasi_store.specs.StoreView.{KnowsAll}
use Rattle.sasi_store.specs.Worlds.{rows_tail, selection_checks}
use Rattle.sasi_store.proofs.Known.{created_state, defined_state, known_after, known_as, written_state}
use Rattle.sasi_store.proofs.Prepared.{HasPrepared, blank, blank_definitions, creatable, definable, has_table_for, new_unindexed, openable, selectable, writable}
use Rattle.sasi_store.proofs.NoFile.{UsesHost, close_free, compact_free, fetch_free, needs_host}
use Rattle.sasi_store.proofs.StepFiles.{step_listed}
use Rattle.sasi_store.proofs.KeptCursors.{few_out}
use Rattle.sasi_store.proofs.KeptTypes.{types_left, types_with_index, types_with_table}
use Rattle.sasi_store.proofs.StepChanges.{step_failed, step_made}
use Rattle.sasi_store.proofs.StepClosed.{step_close}
use Rattle.sasi_store.proofs.StepCompacts.{asks_some, compact_failed, step_compacted}
use Rattle.sasi_store.proofs.StepFetched.{reads_fetch, step_fetch}
use Rattle.sasi_store.proofs.StepOpened.{step_open}
use Rattle.sasi_store.proofs.StepSelects.{select_answered, select_turns, select_within}
use Rattle.sasi_store.proofs.Stepping.{by_damage, read_failed, state_is, step_answered, step_full, step_missing, step_traced, step_unprepared}
use Rattle.sasi_store.proofs.step.step.Goals as goal

pub returns-in_err-outcome-clause-steps : goal.returns-in_err-outcome-clause-steps
returns-in_err-outcome-clause-steps g c =
    let p = err_from_is_err_and c.from_residual.result c.from_residual.ensures.1 in
    rw (p.1, p.2) (step_unprepared (map (λ b. (goal.Analyzer-dyn g (b.vtable, b.value)).kind b.value) c.args.kit.now.objects.items) (g.H.Host.view c.args.host.now) (g.met.H.Host.sound c.args.host.now) c.args.parts.now (piece_of c.args.end c.args.piece.now) c.prepare.new.reply c.in_err-outcome.field-0.0 c.requires.classes.tables c.in_err-outcome.ensures.missing)

pub returns-in-Answered-clause-steps : goal.returns-in-Answered-clause-steps
returns-in-Answered-clause-steps g c =
    let v = g.H.Host.view c.args.host.now in
    let parts = c.args.parts.now in
    let piece = piece_of c.args.end c.args.piece.now in
    let e = c.in_ok-outcome.ensures in
    let all : HasPrepared parts piece c.prepare.new.reply c.in_ok-outcome.field-0 = record { asked = e.asked; prepares = e.prepares; timeless = e.timeless; selects = e.selects } in
    let has = subst (HasPrepared parts piece c.prepare.new.reply) c.in-Answered.is all in
    step_answered (map (λ b. (goal.Analyzer-dyn g (b.vtable, b.value)).kind b.value) c.args.kit.now.objects.items) v (g.met.H.Host.sound c.args.host.now) parts piece c.prepare.new.reply _ c.requires.goes_on has.asked c.requires.cursors has.prepares

pub create-requires-clause-creatable : goal.create-requires-clause-creatable
create-requires-clause-creatable g c =
    let v = g.H.Host.view c.args.host.now in
    let parts = c.args.parts.now in
    let piece = piece_of c.args.end c.args.piece.now in
    let e = c.in_ok-outcome.ensures in
    let all : HasPrepared parts piece c.prepare.new.reply c.in_ok-outcome.field-0 = record { asked = e.asked; prepares = e.prepares; timeless = e.timeless; selects = e.selects } in
    let has = subst (HasPrepared parts piece c.prepare.new.reply) c.in-Create.is all in
    creatable v parts c.requires.goes_on.can c.in-Create.table piece c.prepare.new.reply (has.timeless tt (blank v parts c.requires.goes_on.can) (blank_definitions v parts c.requires.goes_on.can))

pub write-requires-clause-classes : goal.write-requires-clause-classes
write-requires-clause-classes g c = subst (λ (kinds : List Class). KnowsClasses kinds (memory_of c.args.parts.now)) (sym c.prepare.ensures.kinds) c.requires.classes.tables

pub write-requires-clause-writable : goal.write-requires-clause-writable
write-requires-clause-writable g c =
    let v = g.H.Host.view c.args.host.now in
    let parts = c.args.parts.now in
    let piece = piece_of c.args.end c.args.piece.now in
    let e = c.in_ok-outcome.ensures in
    let all : HasPrepared parts piece c.prepare.new.reply c.in_ok-outcome.field-0 = record { asked = e.asked; prepares = e.prepares; timeless = e.timeless; selects = e.selects } in
    let has = subst (HasPrepared parts piece c.prepare.new.reply) c.in-Write.is all in
    writable v parts c.requires.goes_on.can c.in-Write.mutation piece c.prepare.new.reply c.note_number-in-Write.ensures has.asked has.prepares

pub flush_unless_empty-requires-clause-classes : goal.flush_unless_empty-requires-clause-classes
flush_unless_empty-requires-clause-classes g c = subst (λ (kinds : List Class). KnowsClasses kinds (memory_of c.args.parts.now)) (sym c.prepare.ensures.kinds) c.requires.classes.tables

pub flush_unless_empty-requires-clause-there : goal.flush_unless_empty-requires-clause-there
flush_unless_empty-requires-clause-there g c =
    let v = g.H.Host.view c.args.host.now in
    let parts = c.args.parts.now in
    let piece = piece_of c.args.end c.args.piece.now in
    let e = c.in_ok-outcome.ensures in
    let all : HasPrepared parts piece c.prepare.new.reply c.in_ok-outcome.field-0 = record { asked = e.asked; prepares = e.prepares; timeless = e.timeless; selects = e.selects } in
    let has = subst (HasPrepared parts piece c.prepare.new.reply) c.in-Flush.is all in
    has_table_for v parts c.requires.goes_on.can c.in-Flush.table (has.timeless tt (blank v parts c.requires.goes_on.can) (blank_definitions v parts c.requires.goes_on.can)).2

pub select-requires-clause-classes : goal.select-requires-clause-classes
select-requires-clause-classes g c = subst (λ (kinds : List Class). KnowsClasses kinds (memory_of c.args.parts.now)) (sym c.prepare.ensures.kinds) c.requires.classes.tables

pub select-requires-clause-there : goal.select-requires-clause-there
select-requires-clause-there g c =
    let v = g.H.Host.view c.args.host.now in
    let parts = c.args.parts.now in
    let piece = piece_of c.args.end c.args.piece.now in
    let e = c.in_ok-outcome.ensures in
    let all : HasPrepared parts piece c.prepare.new.reply c.in_ok-outcome.field-0 = record { asked = e.asked; prepares = e.prepares; timeless = e.timeless; selects = e.selects } in
    let has = subst (HasPrepared parts piece c.prepare.new.reply) c.in-Select.is all in
    selectable v parts c.requires.goes_on.can c.in-Select.rows (has.timeless tt (blank v parts c.requires.goes_on.can) (blank_definitions v parts c.requires.goes_on.can)).2

pub returns-in_err-create-in-Create-clause-steps : goal.returns-in_err-create-in-Create-clause-steps
returns-in_err-create-in-Create-clause-steps g c =
    let v = g.H.Host.view c.args.host.now in
    let parts = c.args.parts.now in
    let piece = piece_of c.args.end c.args.piece.now in
    let e = c.in_ok-outcome.ensures in
    let all : HasPrepared parts piece c.prepare.new.reply c.in_ok-outcome.field-0 = record { asked = e.asked; prepares = e.prepares; timeless = e.timeless; selects = e.selects } in
    let has = subst (HasPrepared parts piece c.prepare.new.reply) c.in-Create.is all in
    let p = err_from_is_err_and c.from_residual-in_err-create-in-Create.result c.from_residual-in_err-create-in-Create.ensures.1 in
    rw (p.1, p.2) (step_failed (map (λ b. (goal.Analyzer-dyn g (b.vtable, b.value)).kind b.value) c.args.kit.now.objects.items) v (g.H.Host.view c.create.new.host) parts c.create.new.parts piece c.prepare.new.reply (ask.Creates (definition c.in-Create.table)) has.asked (λ none. cc) c.requires.goes_on _ c.in_err-create-in-Create.ensures.makes tt)

pub returns-in_ok-create-in-Create-clause-steps : goal.returns-in_ok-create-in-Create-clause-steps
returns-in_ok-create-in-Create-clause-steps g c =
    let v = g.H.Host.view c.args.host.now in
    let parts = c.args.parts.now in
    let piece = piece_of c.args.end c.args.piece.now in
    let e = c.in_ok-outcome.ensures in
    let all : HasPrepared parts piece c.prepare.new.reply c.in_ok-outcome.field-0 = record { asked = e.asked; prepares = e.prepares; timeless = e.timeless; selects = e.selects } in
    let has = subst (HasPrepared parts piece c.prepare.new.reply) c.in-Create.is all in
    step_made (map (λ b. (goal.Analyzer-dyn g (b.vtable, b.value)).kind b.value) c.args.kit.now.objects.items) v (g.H.Host.view c.create.new.host) parts c.create.new.parts piece c.prepare.new.reply (ask.Creates (definition c.in-Create.table)) has.asked (λ none. cc) c.requires.goes_on _
    (λ s. with_new_table s (definition c.in-Create.table)) c.in_ok-create-in-Create.ensures.makes c.in_ok-create-in-Create.ensures.parts
    c.requires.cursors (types_with_table v (g.H.Host.view c.create.new.host) parts c.create.new.parts c.requires.goes_on.can c.in_ok-create-in-Create.ensures.makes.ready _ (definition c.in-Create.table) c.in_ok-create-in-Create.ensures.knows) (c.in_ok-create-in-Create.ensures.pinned c.args.session.now.views)
    (λ s of. (has.prepares s of).0)
    (λ s of. known_as (memory_of c.create.new.parts) _ _ _ c.in_ok-create-in-Create.ensures.knows (created_state parts.schema.definitions parts.max_timestamp s (definition c.in-Create.table) of))
    (λ s of. created_leaves s piece c.in-Create.table (has.prepares s of).1)
    (λ known. known_after (map (λ b. (goal.Analyzer-dyn g (b.vtable, b.value)).kind b.value) c.args.kit.now.objects.items) (memory_of c.create.new.parts) _ _ c.in_ok-create-in-Create.ensures.knows (known_created (map (λ b. (goal.Analyzer-dyn g (b.vtable, b.value)).kind b.value) c.args.kit.now.objects.items) parts.schema.definitions (definition c.in-Create.table) (new_unindexed v parts c.requires.goes_on.can c.in-Create.table piece c.prepare.new.reply (has.timeless tt (blank v parts c.requires.goes_on.can) (blank_definitions v parts c.requires.goes_on.can))) known)) tt

pub returns-in_err-write-in-Write-clause-steps : goal.returns-in_err-write-in-Write-clause-steps
returns-in_err-write-in-Write-clause-steps g c =
    let v = g.H.Host.view c.args.host.now in
    let parts = c.args.parts.now in
    let piece = piece_of c.args.end c.args.piece.now in
    let e = c.in_ok-outcome.ensures in
    let all : HasPrepared parts piece c.prepare.new.reply c.in_ok-outcome.field-0 = record { asked = e.asked; prepares = e.prepares; timeless = e.timeless; selects = e.selects } in
    let has = subst (HasPrepared parts piece c.prepare.new.reply) c.in-Write.is all in
    let p = err_from_is_err_and c.from_residual-in_err-write-in-Write.result c.from_residual-in_err-write-in-Write.ensures.1 in
    rw (p.1, p.2) (step_failed (map (λ b. (goal.Analyzer-dyn g (b.vtable, b.value)).kind b.value) c.args.kit.now.objects.items) v (g.H.Host.view c.write.new.host) parts c.write.new.parts piece c.prepare.new.reply (ask.Writes c.in-Write.mutation.table c.in-Write.mutation.key c.in-Write.mutation.change) has.asked (λ none. cc) c.requires.goes_on _ c.in_err-write-in-Write.ensures.makes tt)

pub returns-in_ok-write-in-Write-clause-steps : goal.returns-in_ok-write-in-Write-clause-steps
returns-in_ok-write-in-Write-clause-steps g c =
    let v = g.H.Host.view c.args.host.now in
    let parts = c.args.parts.now in
    let piece = piece_of c.args.end c.args.piece.now in
    let e = c.in_ok-outcome.ensures in
    let all : HasPrepared parts piece c.prepare.new.reply c.in_ok-outcome.field-0 = record { asked = e.asked; prepares = e.prepares; timeless = e.timeless; selects = e.selects } in
    let has = subst (HasPrepared parts piece c.prepare.new.reply) c.in-Write.is all in
    step_made (map (λ b. (goal.Analyzer-dyn g (b.vtable, b.value)).kind b.value) c.args.kit.now.objects.items) v (g.H.Host.view c.write.new.host) parts c.write.new.parts piece c.prepare.new.reply (ask.Writes c.in-Write.mutation.table c.in-Write.mutation.key c.in-Write.mutation.change) has.asked (λ none. cc) c.requires.goes_on _
    (λ s. state_with_mutation s c.in-Write.mutation) c.in_ok-write-in-Write.ensures.makes c.in_ok-write-in-Write.ensures.parts
    c.requires.cursors (types_left v (g.H.Host.view c.write.new.host) parts c.write.new.parts c.requires.goes_on.can c.in_ok-write-in-Write.ensures.makes.ready _ c.in_ok-write-in-Write.ensures.knows) c.in_ok-write-in-Write.ensures.pinned
    (λ s of. (has.prepares s of).0)
    (λ s of. known_as (memory_of c.write.new.parts) _ _ _ c.in_ok-write-in-Write.ensures.knows (written_state parts.schema.definitions parts.max_timestamp s c.in-Write.mutation (has.prepares s of).2 of))
    (λ s of. written_leaves s piece c.in-Write.mutation (has.prepares s of).1)
    (λ known. known_after (map (λ b. (goal.Analyzer-dyn g (b.vtable, b.value)).kind b.value) c.args.kit.now.objects.items) (memory_of c.write.new.parts) _ _ c.in_ok-write-in-Write.ensures.knows known) tt

pub returns-in_err-flush_unless_empty-in-Flush-clause-steps : goal.returns-in_err-flush_unless_empty-in-Flush-clause-steps
returns-in_err-flush_unless_empty-in-Flush-clause-steps g c =
    let v = g.H.Host.view c.args.host.now in
    let parts = c.args.parts.now in
    let piece = piece_of c.args.end c.args.piece.now in
    let e = c.in_ok-outcome.ensures in
    let all : HasPrepared parts piece c.prepare.new.reply c.in_ok-outcome.field-0 = record { asked = e.asked; prepares = e.prepares; timeless = e.timeless; selects = e.selects } in
    let has = subst (HasPrepared parts piece c.prepare.new.reply) c.in-Flush.is all in
    let p = err_from_is_err_and c.from_residual-in_err-flush_unless_empty-in-Flush.result c.from_residual-in_err-flush_unless_empty-in-Flush.ensures.1 in
    rw (p.1, p.2) (step_failed (map (λ b. (goal.Analyzer-dyn g (b.vtable, b.value)).kind b.value) c.args.kit.now.objects.items) v (g.H.Host.view c.flush_unless_empty.new.host) parts c.flush_unless_empty.new.parts piece c.prepare.new.reply (ask.Flushes c.in-Flush.table) has.asked (λ none. cc) c.requires.goes_on _ c.in_err-flush_unless_empty-in-Flush.ensures.makes tt)

pub returns-in_ok-flush_unless_empty-in-Flush-clause-steps : goal.returns-in_ok-flush_unless_empty-in-Flush-clause-steps
returns-in_ok-flush_unless_empty-in-Flush-clause-steps g c =
    let v = g.H.Host.view c.args.host.now in
    let parts = c.args.parts.now in
    let piece = piece_of c.args.end c.args.piece.now in
    let e = c.in_ok-outcome.ensures in
    let all : HasPrepared parts piece c.prepare.new.reply c.in_ok-outcome.field-0 = record { asked = e.asked; prepares = e.prepares; timeless = e.timeless; selects = e.selects } in
    let has = subst (HasPrepared parts piece c.prepare.new.reply) c.in-Flush.is all in
    step_made (map (λ b. (goal.Analyzer-dyn g (b.vtable, b.value)).kind b.value) c.args.kit.now.objects.items) v (g.H.Host.view c.flush_unless_empty.new.host) parts c.flush_unless_empty.new.parts piece c.prepare.new.reply (ask.Flushes c.in-Flush.table) has.asked (λ none. cc) c.requires.goes_on _
    (λ s. s) c.in_ok-flush_unless_empty-in-Flush.ensures.makes c.in_ok-flush_unless_empty-in-Flush.ensures.parts
    c.requires.cursors (types_left v (g.H.Host.view c.flush_unless_empty.new.host) parts c.flush_unless_empty.new.parts c.requires.goes_on.can c.in_ok-flush_unless_empty-in-Flush.ensures.makes.ready _ c.in_ok-flush_unless_empty-in-Flush.ensures.knows) c.in_ok-flush_unless_empty-in-Flush.ensures.pinned
    (λ s of. (has.prepares s of).0)
    (λ s of. known_as (memory_of c.flush_unless_empty.new.parts) _ _ _ c.in_ok-flush_unless_empty-in-Flush.ensures.knows of)
    (λ s of. flushed_leaves s piece c.in-Flush.table (has.prepares s of).1)
    (λ known. known_after (map (λ b. (goal.Analyzer-dyn g (b.vtable, b.value)).kind b.value) c.args.kit.now.objects.items) (memory_of c.flush_unless_empty.new.parts) _ _ c.in_ok-flush_unless_empty-in-Flush.ensures.knows known) tt

pub select-requires-clause-few : goal.select-requires-clause-few
select-requires-clause-few g c = few_out (g.H.Host.view c.args.host.now).files c.args.parts.now c.args.session.now c.requires.cursors

pub returns-in_err-select-in-Select-clause-steps : goal.returns-in_err-select-in-Select-clause-steps
returns-in_err-select-in-Select-clause-steps g c =
    let v = g.H.Host.view c.args.host.now in
    let parts = c.args.parts.now in
    let piece = piece_of c.args.end c.args.piece.now in
    let e = c.in_ok-outcome.ensures in
    let all : HasPrepared parts piece c.prepare.new.reply c.in_ok-outcome.field-0 = record { asked = e.asked; prepares = e.prepares; timeless = e.timeless; selects = e.selects } in
    let has = subst (HasPrepared parts piece c.prepare.new.reply) c.in-Select.is all in
    let p = err_from_is_err_and c.from_residual-in_err-select-in-Select.result c.from_residual-in_err-select-in-Select.ensures.1 in
    let i = c.in_err-select-in-Select.ensures in
    let prepared = has.timeless tt (blank v parts c.requires.goes_on.can) (blank_definitions v parts c.requires.goes_on.can) in
    rw (p.1, p.2) (read_failed (map (λ b. (goal.Analyzer-dyn g (b.vtable, b.value)).kind b.value) c.args.kit.now.objects.items) v (g.H.Host.view c.select.new.host) (g.met.H.Host.sound c.args.host.now) parts piece c.select.new.reply _ c.select.ensures.changes (inl (has.selects tt)) (λ folder files. by_damage (FolderShows folder) (StepShows c.args.session.now.views folder) (λ damage shown. inl shown) _ (i.damaged folder files)) (λ w serves. i.undamaged w.layout serves.serves) i.unspent i.present
    (select_within v (g.H.Host.view c.select.new.host) parts (blank v parts c.requires.goes_on.can) piece c.in-Select.rows (blank_definitions v parts c.requires.goes_on.can) prepared.3 c.select.ensures.reads) i.causes)

pub returns-in_ok-select-in-Select-clause-steps : goal.returns-in_ok-select-in-Select-clause-steps
returns-in_ok-select-in-Select-clause-steps g c =
    let v = g.H.Host.view c.args.host.now in
    let parts = c.args.parts.now in
    let piece = piece_of c.args.end c.args.piece.now in
    let e = c.in_ok-outcome.ensures in
    let all : HasPrepared parts piece c.prepare.new.reply c.in_ok-outcome.field-0 = record { asked = e.asked; prepares = e.prepares; timeless = e.timeless; selects = e.selects } in
    let has = subst (HasPrepared parts piece c.prepare.new.reply) c.in-Select.is all in
    let i = c.in_ok-select-in-Select.ensures in
    let prepared = has.timeless tt (blank v parts c.requires.goes_on.can) (blank_definitions v parts c.requires.goes_on.can) in
    select_answered (map (λ b. (goal.Analyzer-dyn g (b.vtable, b.value)).kind b.value) c.args.kit.now.objects.items) v (g.H.Host.view c.select.new.host) (g.met.H.Host.sound c.args.host.now) parts piece c.select.ensures.changes has.asked (has.selects tt) _ c.select.new.reply c.select.ensures.trace c.select.ensures.cursors (ap (λ t. t.items) c.select.ensures.tasks)
    c.requires.cursors (c.select.ensures.back (views_out c.args.session.now.cursors) c.requires.cursors.counted) c.requires.goes_on
    (λ w serves.
    let all = has.prepares (state_of w.layout) (state_is v (memory_of parts) w.layout serves.serves) in
    select_turns w piece c.in-Select.rows c.args.session.now.trace c.select.new.reply all.0 all.3 serves.trace_is (i.ok w.layout serves.serves ∙ ap (λ (front : List ℕ). front ++ (answer_rows (state_of w.layout) c.in-Select.rows ++ rows_tail c.args.session.now.trace (selection_checks w.layout c.in-Select.rows))) prepared.1))
    (λ s of. let prepared = has.prepares s of in (prepared.0.state_is, prepared.0.outcome_is, selected_turns s piece c.in-Select.rows prepared.3))
    (select_within v (g.H.Host.view c.select.new.host) parts (blank v parts c.requires.goes_on.can) piece c.in-Select.rows (blank_definitions v parts c.requires.goes_on.can) prepared.3 c.select.ensures.reads) i.causes

-- ---- a new index

pub define-requires-clause-definable : goal.define-requires-clause-definable
define-requires-clause-definable g c =
    let v = g.H.Host.view c.args.host.now in
    let parts = c.args.parts.now in
    let piece = piece_of c.args.end c.args.piece.now in
    let e = c.in_ok-outcome.ensures in
    let all : HasPrepared parts piece c.prepare.new.reply c.in_ok-outcome.field-0 = record { asked = e.asked; prepares = e.prepares; timeless = e.timeless; selects = e.selects } in
    let has = subst (HasPrepared parts piece c.prepare.new.reply) c.in-Define.is all in
    definable v parts c.requires.goes_on.can c.in-Define.index piece c.prepare.new.reply c.note_number.ensures c.note_column.ensures (has.timeless tt (blank v parts c.requires.goes_on.can) (blank_definitions v parts c.requires.goes_on.can))

pub returns-in_err-check_class-in-Define-clause-steps : goal.returns-in_err-check_class-in-Define-clause-steps
returns-in_err-check_class-in-Define-clause-steps g c =
    let v = g.H.Host.view c.args.host.now in
    let parts = c.args.parts.now in
    let piece = piece_of c.args.end c.args.piece.now in
    let e = c.in_ok-outcome.ensures in
    let all : HasPrepared parts piece c.prepare.new.reply c.in_ok-outcome.field-0 = record { asked = e.asked; prepares = e.prepares; timeless = e.timeless; selects = e.selects } in
    let has = subst (HasPrepared parts piece c.prepare.new.reply) c.in-Define.is all in
    let p = err_from_is_err_and c.from_residual-in_err-check_class-in-Define.result c.from_residual-in_err-check_class-in-Define.ensures.1 in
    rw (p.1, p.2) (step_missing (map (λ b. (goal.Analyzer-dyn g (b.vtable, b.value)).kind b.value) c.args.kit.now.objects.items) v (g.met.H.Host.sound c.args.host.now) parts piece c.prepare.new.reply (ask.Defines c.in-Define.index.table (index_of_new c.in-Define.index)) c.in_err-check_class-in-Define.field-0.0 has.asked (subst (λ (kinds : List Class). LacksNeeded kinds (ask.Defines c.in-Define.index.table (index_of_new c.in-Define.index)) c.in_err-check_class-in-Define.field-0.0) c.prepare.ensures.kinds c.in_err-check_class-in-Define.ensures.missing))

pub returns-in_err-define-in-Define-clause-steps : goal.returns-in_err-define-in-Define-clause-steps
returns-in_err-define-in-Define-clause-steps g c =
    let v = g.H.Host.view c.args.host.now in
    let parts = c.args.parts.now in
    let piece = piece_of c.args.end c.args.piece.now in
    let e = c.in_ok-outcome.ensures in
    let all : HasPrepared parts piece c.prepare.new.reply c.in_ok-outcome.field-0 = record { asked = e.asked; prepares = e.prepares; timeless = e.timeless; selects = e.selects } in
    let has = subst (HasPrepared parts piece c.prepare.new.reply) c.in-Define.is all in
    let p = err_from_is_err_and c.from_residual-in_err-define-in-Define.result c.from_residual-in_err-define-in-Define.ensures.1 in
    rw (p.1, p.2) (step_failed (map (λ b. (goal.Analyzer-dyn g (b.vtable, b.value)).kind b.value) c.args.kit.now.objects.items) v (g.H.Host.view c.define.new.host) parts c.define.new.parts piece c.prepare.new.reply (ask.Defines c.in-Define.index.table (index_of_new c.in-Define.index)) has.asked (λ none. cc) c.requires.goes_on _ c.in_err-define-in-Define.ensures.makes (subst (λ (kinds : List Class). HasNeeded kinds (class_needed (ask.Defines c.in-Define.index.table (index_of_new c.in-Define.index)))) c.prepare.ensures.kinds c.in_ok-check_class-in-Define.ensures.there))

pub returns-in_ok-define-in-Define-clause-steps : goal.returns-in_ok-define-in-Define-clause-steps
returns-in_ok-define-in-Define-clause-steps g c =
    let v = g.H.Host.view c.args.host.now in
    let parts = c.args.parts.now in
    let piece = piece_of c.args.end c.args.piece.now in
    let e = c.in_ok-outcome.ensures in
    let all : HasPrepared parts piece c.prepare.new.reply c.in_ok-outcome.field-0 = record { asked = e.asked; prepares = e.prepares; timeless = e.timeless; selects = e.selects } in
    let has = subst (HasPrepared parts piece c.prepare.new.reply) c.in-Define.is all in
    step_made (map (λ b. (goal.Analyzer-dyn g (b.vtable, b.value)).kind b.value) c.args.kit.now.objects.items) v (g.H.Host.view c.define.new.host) parts c.define.new.parts piece c.prepare.new.reply (ask.Defines c.in-Define.index.table (index_of_new c.in-Define.index)) has.asked (λ none. cc) c.requires.goes_on _
    (λ s. state_with_index s c.in-Define.index.table (index_of_new c.in-Define.index)) c.in_ok-define-in-Define.ensures.makes c.in_ok-define-in-Define.ensures.parts
    c.requires.cursors (types_with_index v (g.H.Host.view c.define.new.host) parts c.define.new.parts c.requires.goes_on.can c.in_ok-define-in-Define.ensures.makes.ready _ c.in-Define.index.table (index_of_new c.in-Define.index) c.in_ok-define-in-Define.ensures.knows) (c.in_ok-define-in-Define.ensures.pinned c.args.session.now.views)
    (λ s of. (has.prepares s of).0)
    (λ s of. known_as (memory_of c.define.new.parts) _ _ _ c.in_ok-define-in-Define.ensures.knows (defined_state parts.schema.definitions parts.max_timestamp s c.in-Define.index.table (index_of_new c.in-Define.index) of))
    (λ s of. defined_leaves s piece c.in-Define.index (has.prepares s of).1)
    (λ known. known_after (map (λ b. (goal.Analyzer-dyn g (b.vtable, b.value)).kind b.value) c.args.kit.now.objects.items) (memory_of c.define.new.parts) _ _ c.in_ok-define-in-Define.ensures.knows (known_defined (map (λ b. (goal.Analyzer-dyn g (b.vtable, b.value)).kind b.value) c.args.kit.now.objects.items) parts.schema.definitions c.in-Define.index.table (index_of_new c.in-Define.index) (subst (λ (kinds : List Class). HasNeeded kinds (class_needed (ask.Defines c.in-Define.index.table (index_of_new c.in-Define.index)))) c.prepare.ensures.kinds c.in_ok-check_class-in-Define.ensures.there) known))
    (subst (λ (kinds : List Class). HasNeeded kinds (class_needed (ask.Defines c.in-Define.index.table (index_of_new c.in-Define.index)))) c.prepare.ensures.kinds c.in_ok-check_class-in-Define.ensures.there)

-- ---- pieces that need no file

pub returns-in_err-create-in-Create-clause-no_file_call : goal.returns-in_err-create-in-Create-clause-no_file_call
returns-in_err-create-in-Create-clause-no_file_call g c x s none of needs =
    let piece = piece_of c.args.end c.args.piece.now in
    absurd (needs_host c.args.parts.now c.args.session.now x s piece c.prepare.new.reply c.in_ok-outcome.field-0 (c.in_ok-outcome.ensures.prepares s of) (subst UsesHost (sym c.in-Create.is) tt) needs)

pub returns-in_ok-create-in-Create-clause-no_file_call : goal.returns-in_ok-create-in-Create-clause-no_file_call
returns-in_ok-create-in-Create-clause-no_file_call g c x s none of needs =
    let piece = piece_of c.args.end c.args.piece.now in
    absurd (needs_host c.args.parts.now c.args.session.now x s piece c.prepare.new.reply c.in_ok-outcome.field-0 (c.in_ok-outcome.ensures.prepares s of) (subst UsesHost (sym c.in-Create.is) tt) needs)

pub returns-in_err-check_class-in-Define-clause-no_file_call : goal.returns-in_err-check_class-in-Define-clause-no_file_call
returns-in_err-check_class-in-Define-clause-no_file_call g c x s none of needs =
    let piece = piece_of c.args.end c.args.piece.now in
    absurd (needs_host c.args.parts.now c.args.session.now x s piece c.prepare.new.reply c.in_ok-outcome.field-0 (c.in_ok-outcome.ensures.prepares s of) (subst UsesHost (sym c.in-Define.is) tt) needs)

pub returns-in_err-define-in-Define-clause-no_file_call : goal.returns-in_err-define-in-Define-clause-no_file_call
returns-in_err-define-in-Define-clause-no_file_call g c x s none of needs =
    let piece = piece_of c.args.end c.args.piece.now in
    absurd (needs_host c.args.parts.now c.args.session.now x s piece c.prepare.new.reply c.in_ok-outcome.field-0 (c.in_ok-outcome.ensures.prepares s of) (subst UsesHost (sym c.in-Define.is) tt) needs)

pub returns-in_ok-define-in-Define-clause-no_file_call : goal.returns-in_ok-define-in-Define-clause-no_file_call
returns-in_ok-define-in-Define-clause-no_file_call g c x s none of needs =
    let piece = piece_of c.args.end c.args.piece.now in
    absurd (needs_host c.args.parts.now c.args.session.now x s piece c.prepare.new.reply c.in_ok-outcome.field-0 (c.in_ok-outcome.ensures.prepares s of) (subst UsesHost (sym c.in-Define.is) tt) needs)

pub returns-in_err-write-in-Write-clause-no_file_call : goal.returns-in_err-write-in-Write-clause-no_file_call
returns-in_err-write-in-Write-clause-no_file_call g c x s none of needs =
    let piece = piece_of c.args.end c.args.piece.now in
    absurd (needs_host c.args.parts.now c.args.session.now x s piece c.prepare.new.reply c.in_ok-outcome.field-0 (c.in_ok-outcome.ensures.prepares s of) (subst UsesHost (sym c.in-Write.is) tt) needs)

pub returns-in_ok-write-in-Write-clause-no_file_call : goal.returns-in_ok-write-in-Write-clause-no_file_call
returns-in_ok-write-in-Write-clause-no_file_call g c x s none of needs =
    let piece = piece_of c.args.end c.args.piece.now in
    absurd (needs_host c.args.parts.now c.args.session.now x s piece c.prepare.new.reply c.in_ok-outcome.field-0 (c.in_ok-outcome.ensures.prepares s of) (subst UsesHost (sym c.in-Write.is) tt) needs)

pub returns-in_err-flush_unless_empty-in-Flush-clause-no_file_call : goal.returns-in_err-flush_unless_empty-in-Flush-clause-no_file_call
returns-in_err-flush_unless_empty-in-Flush-clause-no_file_call g c x s none of needs =
    let piece = piece_of c.args.end c.args.piece.now in
    absurd (needs_host c.args.parts.now c.args.session.now x s piece c.prepare.new.reply c.in_ok-outcome.field-0 (c.in_ok-outcome.ensures.prepares s of) (subst UsesHost (sym c.in-Flush.is) tt) needs)

pub returns-in_ok-flush_unless_empty-in-Flush-clause-no_file_call : goal.returns-in_ok-flush_unless_empty-in-Flush-clause-no_file_call
returns-in_ok-flush_unless_empty-in-Flush-clause-no_file_call g c x s none of needs =
    let piece = piece_of c.args.end c.args.piece.now in
    absurd (needs_host c.args.parts.now c.args.session.now x s piece c.prepare.new.reply c.in_ok-outcome.field-0 (c.in_ok-outcome.ensures.prepares s of) (subst UsesHost (sym c.in-Flush.is) tt) needs)

pub returns-in_err-select-in-Select-clause-no_file_call : goal.returns-in_err-select-in-Select-clause-no_file_call
returns-in_err-select-in-Select-clause-no_file_call g c x s none of needs =
    let piece = piece_of c.args.end c.args.piece.now in
    absurd (needs_host c.args.parts.now c.args.session.now x s piece c.prepare.new.reply c.in_ok-outcome.field-0 (c.in_ok-outcome.ensures.prepares s of) (subst UsesHost (sym c.in-Select.is) tt) needs)

pub returns-in_ok-select-in-Select-clause-no_file_call : goal.returns-in_ok-select-in-Select-clause-no_file_call
returns-in_ok-select-in-Select-clause-no_file_call g c x s none of needs =
    let piece = piece_of c.args.end c.args.piece.now in
    absurd (needs_host c.args.parts.now c.args.session.now x s piece c.prepare.new.reply c.in_ok-outcome.field-0 (c.in_ok-outcome.ensures.prepares s of) (subst UsesHost (sym c.in-Select.is) tt) needs)

-- ---- TRACE

pub returns-in-Trace-clause-steps : goal.returns-in-Trace-clause-steps
returns-in-Trace-clause-steps g c =
    let v = g.H.Host.view c.args.host.now in
    let parts = c.args.parts.now in
    let piece = piece_of c.args.end c.args.piece.now in
    let e = c.in_ok-outcome.ensures in
    let all : HasPrepared parts piece c.prepare.new.reply c.in_ok-outcome.field-0 = record { asked = e.asked; prepares = e.prepares; timeless = e.timeless; selects = e.selects } in
    let has = subst (HasPrepared parts piece c.prepare.new.reply) c.in-Trace.is all in
    step_traced (map (λ b. (goal.Analyzer-dyn g (b.vtable, b.value)).kind b.value) c.args.kit.now.objects.items) v (g.met.H.Host.sound c.args.host.now) parts piece c.prepare.new.reply c.in-Trace.on refl refl refl refl c.requires.goes_on has.asked c.requires.cursors has.prepares

-- ---- SHOW FILES

pub returns-in_err-show_files-in-Files-clause-steps : goal.returns-in_err-show_files-in-Files-clause-steps
returns-in_err-show_files-in-Files-clause-steps g c =
    let p = err_from_is_err_and c.from_residual-in_err-show_files-in-Files.result c.from_residual-in_err-show_files-in-Files.ensures.1 in
    rw (p.1, p.2) (step_full (map (λ b. (goal.Analyzer-dyn g (b.vtable, b.value)).kind b.value) c.args.kit.now.objects.items) (g.H.Host.view c.args.host.now) (g.met.H.Host.sound c.args.host.now) c.args.parts.now (piece_of c.args.end c.args.piece.now) c.show_files.new.reply)

pub returns-in_ok-show_files-in-Files-clause-steps : goal.returns-in_ok-show_files-in-Files-clause-steps
returns-in_ok-show_files-in-Files-clause-steps g c =
    let parts = c.args.parts.now in
    let piece = piece_of c.args.end c.args.piece.now in
    let e = c.in_ok-outcome.ensures in
    let all : HasPrepared parts piece c.prepare.new.reply c.in_ok-outcome.field-0 = record { asked = e.asked; prepares = e.prepares; timeless = e.timeless; selects = e.selects } in
    let has = subst (HasPrepared parts piece c.prepare.new.reply) c.in-Files.is all in
    step_listed (map (λ b. (goal.Analyzer-dyn g (b.vtable, b.value)).kind b.value) c.args.kit.now.objects.items) (g.H.Host.view c.args.host.now) (g.met.H.Host.sound c.args.host.now) parts piece c.prepare.new.reply c.show_files.new.reply c.requires.goes_on has.asked c.requires.cursors has.prepares c.in_ok-show_files-in-Files.ensures

-- ---- OPEN

pub open-requires-clause-classes : goal.open-requires-clause-classes
open-requires-clause-classes g c = subst (λ (kinds : List Class). KnowsAll kinds c.args.parts.now c.args.session.now) (sym c.prepare.ensures.kinds) c.requires.classes

pub open-requires-clause-there : goal.open-requires-clause-there
open-requires-clause-there g c =
    let v = g.H.Host.view c.args.host.now in
    let parts = c.args.parts.now in
    let piece = piece_of c.args.end c.args.piece.now in
    let e = c.in_ok-outcome.ensures in
    let all : HasPrepared parts piece c.prepare.new.reply c.in_ok-outcome.field-0 = record { asked = e.asked; prepares = e.prepares; timeless = e.timeless; selects = e.selects } in
    let has = subst (HasPrepared parts piece c.prepare.new.reply) c.in-Open.is all in
    openable v parts c.requires.goes_on.can c.in-Open.asked piece (has.timeless tt (blank v parts c.requires.goes_on.can) (blank_definitions v parts c.requires.goes_on.can)).2

pub returns-in-Open-clause-steps : goal.returns-in-Open-clause-steps
returns-in-Open-clause-steps g c =
    let v = g.H.Host.view c.args.host.now in
    let parts = c.args.parts.now in
    let piece = piece_of c.args.end c.args.piece.now in
    let e = c.in_ok-outcome.ensures in
    let all : HasPrepared parts piece c.prepare.new.reply c.in_ok-outcome.field-0 = record { asked = e.asked; prepares = e.prepares; timeless = e.timeless; selects = e.selects } in
    let has = subst (HasPrepared parts piece c.prepare.new.reply) c.in-Open.is all in
    let prepared = has.timeless tt (blank v parts c.requires.goes_on.can) (blank_definitions v parts c.requires.goes_on.can) in
    step_open c.args.session.now c.open.new.session (map (λ b. (goal.Analyzer-dyn g (b.vtable, b.value)).kind b.value) c.args.kit.now.objects.items) v (g.met.H.Host.sound c.args.host.now) parts c.open.new.parts piece c.in-Open.asked c.prepare.new.reply c.open.new.reply
    c.open.result (map (λ b. (goal.Analyzer-dyn g (b.vtable, b.value)).kind b.value) c.prepare.new.kit.objects.items) c.prepare.ensures.kinds c.requires.goes_on has.asked c.requires.cursors prepared.1 has.prepares c.open.ensures.refused c.open.ensures.taken c.open.ensures.memory

-- ---- FETCH

pub fetch-requires-clause-classes : goal.fetch-requires-clause-classes
fetch-requires-clause-classes g c = subst (λ (kinds : List Class). KnowsAll kinds c.args.parts.now c.args.session.now) (sym c.prepare.ensures.kinds) c.requires.classes

pub returns-in-Fetch-clause-steps : goal.returns-in-Fetch-clause-steps
returns-in-Fetch-clause-steps g c =
    let v = g.H.Host.view c.args.host.now in
    let parts = c.args.parts.now in
    let piece = piece_of c.args.end c.args.piece.now in
    let e = c.in_ok-outcome.ensures in
    let all : HasPrepared parts piece c.prepare.new.reply c.in_ok-outcome.field-0 = record { asked = e.asked; prepares = e.prepares; timeless = e.timeless; selects = e.selects } in
    let has = subst (HasPrepared parts piece c.prepare.new.reply) c.in-Fetch.is all in
    let prepared = has.timeless tt (blank v parts c.requires.goes_on.can) (blank_definitions v parts c.requires.goes_on.can) in
    let i = c.fetch.ensures in
    step_fetch (map (λ b. (goal.Analyzer-dyn g (b.vtable, b.value)).kind b.value) c.args.kit.now.objects.items) v (g.H.Host.view c.fetch.new.host) (g.met.H.Host.sound c.args.host.now) parts piece c.in-Fetch.asked c.prepare.new.reply c.fetch.new.reply i.changes has.asked
    (reads_fetch (blank v parts c.requires.goes_on.can) piece c.in-Fetch.asked prepared.2) c.fetch.result (map (λ b. (goal.Analyzer-dyn g (b.vtable, b.value)).kind b.value) c.prepare.new.kit.objects.items) c.prepare.ensures.kinds c.requires.goes_on c.requires.cursors prepared.1 has.prepares i.refused i.taken
    (λ P free holds. subst (λ h. P (g.H.Host.view h)) (sym (i.no_call free)) holds) i.damaged i.undamaged i.unspent i.present i.causes

pub returns-in-Fetch-clause-no_file_call : goal.returns-in-Fetch-clause-no_file_call
returns-in-Fetch-clause-no_file_call g c x s named of needs =
    let piece = piece_of c.args.end c.args.piece.now in
    c.fetch.ensures.no_call (fetch_free c.args.parts.now c.args.session.now x s piece c.args.session.now.cursors c.prepare.new.reply c.in-Fetch.asked named (subst (Prepares s piece c.prepare.new.reply) c.in-Fetch.is (c.in_ok-outcome.ensures.prepares s of)) needs)

-- ---- CLOSE

pub returns-in-Close-clause-steps : goal.returns-in-Close-clause-steps
returns-in-Close-clause-steps g c =
    let v = g.H.Host.view c.args.host.now in
    let parts = c.args.parts.now in
    let piece = piece_of c.args.end c.args.piece.now in
    let e = c.in_ok-outcome.ensures in
    let all : HasPrepared parts piece c.prepare.new.reply c.in_ok-outcome.field-0 = record { asked = e.asked; prepares = e.prepares; timeless = e.timeless; selects = e.selects } in
    let has = subst (HasPrepared parts piece c.prepare.new.reply) c.in-Close.is all in
    let prepared = has.timeless tt (blank v parts c.requires.goes_on.can) (blank_definitions v parts c.requires.goes_on.can) in
    let i = c.close.ensures in
    step_close c.args.session.now c.close.new.session (map (λ b. (goal.Analyzer-dyn g (b.vtable, b.value)).kind b.value) c.args.kit.now.objects.items) v (g.H.Host.view c.close.new.host) (g.met.H.Host.sound c.args.host.now) parts c.close.new.parts piece c.in-Close.cursor c.prepare.new.reply c.close.new.reply
    has.asked prepared.1 has.prepares (blank v parts c.requires.goes_on.can) prepared.2 i.held i.changes i.any_moment i.reads c.close.result c.requires.goes_on c.requires.cursors i.refused i.taken
    (λ P free holds. subst (λ h. P (g.H.Host.view h)) (sym (i.free free)) holds) i.failed i.causes

pub returns-in-Close-clause-no_file_call : goal.returns-in-Close-clause-no_file_call
returns-in-Close-clause-no_file_call g c x s named of needs =
    let piece = piece_of c.args.end c.args.piece.now in
    by (close_free c.args.parts.now c.args.session.now x s piece c.prepare.new.reply c.in-Close.cursor named (subst (Prepares s piece c.prepare.new.reply) c.in-Close.is (c.in_ok-outcome.ensures.prepares s of)) needs)
  where
    by : (is_open c.in-Close.cursor c.args.session.now.cursors ≡ false) ⊎ ((o : OpenCursor) × (Some o ≡ cursor_of c.in-Close.cursor c.args.session.now.cursors) × HasAllListed c.args.parts.now o) → c.close.new.host ≡ c.args.host.now
    by (inl free) = c.close.ensures.free free
    by (inr open_one) = c.close.ensures.no_call open_one.0 open_one.1 open_one.2

-- ---- compactions

pub go_on-requires-clause-there : goal.go_on-requires-clause-there
go_on-requires-clause-there g c =
    let v = g.H.Host.view c.args.host.now in
    let parts = c.args.parts.now in
    let piece = piece_of c.args.end c.args.piece.now in
    let e = c.in_ok-outcome.ensures in
    let all : HasPrepared parts piece c.prepare.new.reply c.in_ok-outcome.field-0 = record { asked = e.asked; prepares = e.prepares; timeless = e.timeless; selects = e.selects } in
    let has = subst (HasPrepared parts piece c.prepare.new.reply) c.in-Compact.is all in
    has_table_for v parts c.requires.goes_on.can c.in-Compact.asked.table (has.timeless tt (blank v parts c.requires.goes_on.can) (blank_definitions v parts c.requires.goes_on.can)).2

pub go_on-requires-clause-asked : goal.go_on-requires-clause-asked
go_on-requires-clause-asked g c =
    let v = g.H.Host.view c.args.host.now in
    let parts = c.args.parts.now in
    let piece = piece_of c.args.end c.args.piece.now in
    let e = c.in_ok-outcome.ensures in
    let all : HasPrepared parts piece c.prepare.new.reply c.in_ok-outcome.field-0 = record { asked = e.asked; prepares = e.prepares; timeless = e.timeless; selects = e.selects } in
    let has = subst (HasPrepared parts piece c.prepare.new.reply) c.in-Compact.is all in
    asks_some (blank v parts c.requires.goes_on.can) piece c.in-Compact.asked (has.timeless tt (blank v parts c.requires.goes_on.can) (blank_definitions v parts c.requires.goes_on.can)).1

pub go_on-requires-clause-tables : goal.go_on-requires-clause-tables
go_on-requires-clause-tables g c = subst (λ (kinds : List Class). KnowsClasses kinds (memory_of c.args.parts.now)) (sym c.prepare.ensures.kinds) c.requires.classes.tables

pub go_on-requires-clause-classes : goal.go_on-requires-clause-classes
go_on-requires-clause-classes g c = subst (λ (kinds : List Class). KnowsTasks kinds c.args.session.now.tasks.items) (sym c.prepare.ensures.kinds) c.requires.classes.tasks

pub returns-in_err-go_on-in-Compact-clause-steps : goal.returns-in_err-go_on-in-Compact-clause-steps
returns-in_err-go_on-in-Compact-clause-steps g c =
    let v = g.H.Host.view c.args.host.now in
    let parts = c.args.parts.now in
    let piece = piece_of c.args.end c.args.piece.now in
    let e = c.in_ok-outcome.ensures in
    let all : HasPrepared parts piece c.prepare.new.reply c.in_ok-outcome.field-0 = record { asked = e.asked; prepares = e.prepares; timeless = e.timeless; selects = e.selects } in
    let has = subst (HasPrepared parts piece c.prepare.new.reply) c.in-Compact.is all in
    let p = err_from_is_err_and c.from_residual-in_err-go_on-in-Compact.result c.from_residual-in_err-go_on-in-Compact.ensures.1 in
    let i = c.go_on.ensures in
    rw (p.1, p.2) (compact_failed c.args.session.now c.go_on.new.session (map (λ b. (goal.Analyzer-dyn g (b.vtable, b.value)).kind b.value) c.args.kit.now.objects.items) v (g.H.Host.view c.go_on.new.host) parts c.go_on.new.parts piece c.prepare.new.reply c.in-Compact.asked has.asked
    i.trace i.views i.cursors c.requires.goes_on c.requires.cursors has.prepares (blank v parts c.requires.goes_on.can) (has.timeless tt (blank v parts c.requires.goes_on.can) (blank_definitions v parts c.requires.goes_on.can)).1
    (λ P begins holds. subst (λ h. P (g.H.Host.view h)) (sym (i.no_call begins)) holds) _ c.in_err-go_on-in-Compact.ensures.makes)

pub returns-in_ok-go_on-in-Compact-clause-steps : goal.returns-in_ok-go_on-in-Compact-clause-steps
returns-in_ok-go_on-in-Compact-clause-steps g c =
    let v = g.H.Host.view c.args.host.now in
    let parts = c.args.parts.now in
    let piece = piece_of c.args.end c.args.piece.now in
    let e = c.in_ok-outcome.ensures in
    let all : HasPrepared parts piece c.prepare.new.reply c.in_ok-outcome.field-0 = record { asked = e.asked; prepares = e.prepares; timeless = e.timeless; selects = e.selects } in
    let has = subst (HasPrepared parts piece c.prepare.new.reply) c.in-Compact.is all in
    let i = c.go_on.ensures in
    step_compacted c.args.session.now c.go_on.new.session (map (λ b. (goal.Analyzer-dyn g (b.vtable, b.value)).kind b.value) c.args.kit.now.objects.items) v (g.H.Host.view c.go_on.new.host) parts c.go_on.new.parts piece c.prepare.new.reply c.in-Compact.asked has.asked
    i.trace i.views i.cursors c.requires.goes_on c.requires.cursors has.prepares (blank v parts c.requires.goes_on.can) (has.timeless tt (blank v parts c.requires.goes_on.can) (blank_definitions v parts c.requires.goes_on.can)).1
    (λ P begins holds. subst (λ h. P (g.H.Host.view h)) (sym (i.no_call begins)) holds) _ c.in_ok-go_on-in-Compact.ensures.makes

pub returns-in_err-go_on-in-Compact-clause-no_file_call : goal.returns-in_err-go_on-in-Compact-clause-no_file_call
returns-in_err-go_on-in-Compact-clause-no_file_call g c x s named of needs =
    let piece = piece_of c.args.end c.args.piece.now in
    c.go_on.ensures.no_call (compact_free c.args.parts.now c.args.session.now x s piece c.prepare.new.reply c.in-Compact.asked (subst (Prepares s piece c.prepare.new.reply) c.in-Compact.is (c.in_ok-outcome.ensures.prepares s of)) needs)

pub returns-in_ok-go_on-in-Compact-clause-no_file_call : goal.returns-in_ok-go_on-in-Compact-clause-no_file_call
returns-in_ok-go_on-in-Compact-clause-no_file_call g c x s named of needs =
    let piece = piece_of c.args.end c.args.piece.now in
    c.go_on.ensures.no_call (compact_free c.args.parts.now c.args.session.now x s piece c.prepare.new.reply c.in-Compact.asked (subst (Prepares s piece c.prepare.new.reply) c.in-Compact.is (c.in_ok-outcome.ensures.prepares s of)) needs)
