use Rattle.std.proofs.Common.{◌-◌, ℕ, List, length, map, slice_get, ap, sym, subst, ◌∙◌, arith}
use Rattle.std.proofs.lemmas.List.{length-map}
use Rattle.std.proofs.lemmas.Result.{err_from_is_err_and}
use Rattle.sasi_fetch.specs.Cursors.{view_of}
use Rattle.sasi_layout.specs.Classes.{KnowsClasses}
use Rattle.sasi_model.specs.State.{Definition}
use Rattle.sasi_plan.specs.Reading.{IsReadIn, PendingReady}
use Rattle.sasi_recheck.specs.Rows.{KnowsWhere}
use Rattle.sasi_scan.specs.Numbered.{views_numbered}
use Rattle.sasi_sources.specs.KeyCandidates.{HasKeyType}
use Rattle.sasi_engine.specs.Plans.{map_numbers}
use Rattle.sasi_types.specs.declared.class.Class.{Class}
use Rattle.sasi_views.specs.Changes.{Taken}
use Rattle.sasi_views.specs.Parts.{ListsOnce, components_of}
use Rattle.sasi_views.specs.declared.part.Part.{Part}
use Rattle.sasi_tables.proofs.Putting.{has_table}
use Rattle.sasi_tables.proofs.FlushingParts.{table_at}
use Rattle.sasi_tables.proofs.TablesInMemory.{inside_there}
use Rattle.sasi_tables.specs.Faults.{fault_of_kit}
use Rattle.sasi_tables.specs.TablesView.{memory_of}
use Rattle.sasi_store.specs.CursorCalls.{IsOpened}
use Rattle.sasi_store.specs.Cursors.{Opened}
use Rattle.sasi_store.specs.declared.session_state.OpenCursor.{OpenCursor}
use Rattle.sasi_store.proofs.Known.{known_after}
use Rattle.sasi_store.proofs.OpenedCursors.{frozen_manifest, frozen_numbers_stay, is_opened}
use Rattle.sasi_store.proofs.OpenedViews.{aside_once}
use Rattle.sasi_store.proofs.ViewFiles.{view_once}
use Rattle.sasi_store.proofs.cursors.open_cursor.Goals as goal

pub freeze-requires-clause-listed : goal.freeze-requires-clause-listed
freeze-requires-clause-listed g c = c.requires.ready.can.definitions

pub freeze-requires-clause-there : goal.freeze-requires-clause-there
freeze-requires-clause-there g c =
    let there = c.requires.there in
    has_table (g.H.Host.view c.args.host.now) c.args.parts.now c.args.asked.now.rows.table there.definition c.requires.ready.can there.some there.there

pub plan_for-requires-clause-classes : goal.plan_for-requires-clause-classes
plan_for-requires-clause-classes g c =
    subst (λ (kinds : List Class). KnowsClasses kinds (memory_of c.freeze.new.parts)) (sym c.freeze.ensures.kinds)
    (known_after (map (λ b. (goal.Analyzer-dyn g (b.vtable, b.value)).kind b.value) c.args.kit.now.objects.items) (memory_of c.freeze.new.parts) c.args.parts.now.schema.definitions c.args.parts.now.max_timestamp c.in_ok-freeze.ensures.knows
    c.requires.classes.tables)

pub plan_for-requires-clause-there : goal.plan_for-requires-clause-there
plan_for-requires-clause-there g c =
    let there = c.requires.there in
    record {
      some = there.some;
      definition = there.definition;
      there = ap (λ (ds : List Definition). slice_get ds (c.args.asked.now.rows.table - 1)) c.in_ok-freeze.ensures.knows.definitions_are ∙ there.there;
      can = there.can;
    }

pub returns-in_err-plan-clause-memory : goal.returns-in_err-plan-clause-memory
returns-in_err-plan-clause-memory g c =
    let p = err_from_is_err_and c.from_residual-in_err-plan.result c.from_residual-in_err-plan.ensures.1 in
    rw (p.1, p.2) (ap fault_of_kit c.in_err-plan.ensures.memory)

pub returns-in_err-plan-clause-kinds : goal.returns-in_err-plan-clause-kinds
returns-in_err-plan-clause-kinds g c = c.plan_for.ensures.kinds ∙ c.freeze.ensures.kinds

pub aside_parts-requires-clause-some : goal.aside_parts-requires-clause-some
aside_parts-requires-clause-some g c = c.in_ok-plan.ensures.plan.some

pub aside_parts-requires-clause-within : goal.aside_parts-requires-clause-within
aside_parts-requires-clause-within g c = c.in_ok-plan.ensures.plan.within

pub returns-in_err-listed-clause-kinds : goal.returns-in_err-listed-clause-kinds
returns-in_err-listed-clause-kinds g c = c.plan_for.ensures.kinds ∙ c.freeze.ensures.kinds

pub take-requires-clause-room : goal.take-requires-clause-room
take-requires-clause-room g c =
    omega (arith, c.requires.cursors.counted.out, length-map c.args.session.now.cursors (λ (e : List ℕ × OpenCursor). view_of e.1.rows), c.requires.few)

pub take-requires-clause-once : goal.take-requires-clause-once
take-requires-clause-once g c =
    let v = g.H.Host.view c.args.host.now in
    let new = c.freeze.new.parts in
    let table = c.args.asked.now.rows.table in
    let is = c.in_ok-plan.ensures.plan in
    let own = inside_there new.tables.items (table - 1) (omega (arith, is.some, is.within)) in
    subst ListsOnce (sym c.in_ok-listed.ensures) (aside_once new table own.0 own.1 (view_once v new (c.in_ok-freeze.ensures.ready c.requires.ready.can) table c.in_ok-freeze.ensures.parts))

pub returns-in_err-view-clause-kinds : goal.returns-in_err-view-clause-kinds
returns-in_err-view-clause-kinds g c = c.plan_for.ensures.kinds ∙ c.freeze.ensures.kinds

pub returns-in_err-add_cursor-clause-kinds : goal.returns-in_err-add_cursor-clause-kinds
returns-in_err-add_cursor-clause-kinds g c = c.plan_for.ensures.kinds ∙ c.freeze.ensures.kinds

pub returns-clause-kinds : goal.returns-clause-kinds
returns-clause-kinds g c = c.plan_for.ensures.kinds ∙ c.freeze.ensures.kinds

pub returns-clause-opened : goal.returns-clause-opened
returns-clause-opened g c =
    let v = g.H.Host.view c.args.host.now in
    let kinds = map (λ b. (goal.Analyzer-dyn g (b.vtable, b.value)).kind b.value) c.args.kit.now.objects.items in
    let old = c.args.parts.now in
    let new = c.freeze.new.parts in
    let table = c.args.asked.now.rows.table in
    let plan = c.in_ok-plan.plan in
    let there = c.requires.there in
    let e = c.in_ok-freeze.ensures in
    let listed = c.in_ok-view.ensures.parts ∙ c.in_ok-listed.ensures in
    let held = table_at old table (has_table v old table there.definition c.requires.ready.can there.some there.there) in
    let was = c.args.session.now in
    subst (λ (es : Opened). IsOpened kinds v c.args.asked.now old new was (record was { views = c.take.new.self; cursors = es })) (sym c.in_ok-add_cursor.ensures)
    (is_opened kinds v (g.met.H.Host.sound c.args.host.now) c.args.asked.now old new c.args.session.now c.take.new.self c.new-rows.result c.requires.cursors c.requires.classes e.serves (e.ready c.requires.ready.can) e.parts c.requires.ready (frozen_numbers_stay table old new held.0 held.1 e.frozen) e.knows
    (frozen_manifest table old new held.0 held.1 e.frozen) (e.pinned c.args.session.now.views) e.empty plan c.in_ok-plan.ensures.plan
    (subst (λ (ks : List Class). KnowsWhere ks plan.conditions) c.freeze.ensures.kinds c.in_ok-plan.ensures.known)
    (subst (λ (ps : List Part). Taken c.args.session.now.views c.take.new.self (components_of ps)) c.in_ok-listed.ensures c.in_ok-view.ensures.taken) c.requires.few (c.new-rows.ensures.view ∙ listed) c.new-rows.ensures.picked c.new-rows.ensures.conditions
    (λ w book read. c.new-rows.ensures.rows w book (subst (λ (ps : List Part). IsReadIn w plan ps book) (sym listed) read))
    (λ files book ready keys. c.new-rows.ensures.readable files book (subst (λ (ps : List Part). PendingReady plan.source ps book) (sym listed) ready)
    (subst (λ (ps : List Part). HasKeyType plan.types (views_numbered book (map_numbers ps)) plan.picked.key) (sym listed) keys)))
