use Rattle.std.proofs.Common.{◌≡◌, ◌+◌, ◌++◌, List, [], ◌∷◌, ℕ, Option, true, map, ap, sym, subst, ◌∙◌, arith}
use Rattle.std.proofs.lemmas.List.{append-nil}
use Rattle.sasi_cells.specs.declared.picked.Picked.{Picked}
use Rattle.sasi_host.proofs.ChangeLaws.{stays}
use Rattle.sasi_host.proofs.ContentLaws.{told_files}
use Rattle.sasi_host.specs.Names.{Folder}
use Rattle.sasi_folder.specs.Damages.{FolderShows}
use Rattle.sasi_candidates.specs.Checks.{checked}
use Rattle.sasi_model.specs.Conditions.{Condition}
use Rattle.sasi_model.specs.Filters.{where_of}
use Rattle.sasi_recheck.specs.Rows.{KnowsWhere, counted_on}
use Rattle.sasi_scan.proofs.Costs.{damage_err, ok_as}
use Rattle.sasi_sources.specs.KeyCandidates.{HasKeyType}
use Rattle.sasi_views.specs.declared.part.Part.{Part}
use Rattle.sasi_views.specs.Books.{Book}
use Rattle.sasi_views.specs.Kept.{IsCounted}
use Rattle.sasi_views.proofs.BookLaws.{give_counted, kept_out, kept_view, take_counted}
use Rattle.sasi_views.specs.Parts.{ListsOnce}
use Rattle.sasi_engine.specs.Plans.{is_file_of, map_numbers}
use Rattle.sasi_scan.specs.Numbered.{views_numbered}
use Rattle.sasi_plan.specs.Answers.{CountsTo, ReadsLeft, RowsLeft}
use Rattle.sasi_plan.specs.Reading.{IsReadIn, PendingReady, PendingShows, plan_reads}
use Rattle.sasi_plan.specs.contracts.plan_candidates.PlanCandidatesCandidates.TheImpl as source
use Rattle.sasi_fetch.specs.Printing.{picked_lines}
use Rattle.sasi_store.proofs.Planned.{plan_prints, plan_ready}
use Rattle.sasi_store.proofs.SelectWorlds.{checks_are, if_ok, plan_bounded, reads_within, rows_are, rows_asked, world, world_read}
use Rattle.sasi_store.proofs.ViewDamage.{view_shows}
use Rattle.sasi_store.proofs.ViewFiles.{view_once, view_there}
use Rattle.sasi_store.proofs.select.read_view.Given.{Over}
use Rattle.sasi_store.proofs.select.read_view.Goals.{After-end}
use Rattle.sasi_store.proofs.select.read_view.Goals as goal

-- ---- before the view is taken

pub returns-in_err-current-clause-reads : goal.returns-in_err-current-clause-reads
returns-in_err-current-clause-reads g c l serves short = omega arith

pub returns-in_err-current-clause-changes : goal.returns-in_err-current-clause-changes
returns-in_err-current-clause-changes g c = stays (g.H.Host.view c.args.host.now)

pub take-requires-clause-room : goal.take-requires-clause-room
take-requires-clause-room g c = omega (arith, c.requires.few.1.out, c.requires.few.2)

pub take-requires-clause-once : goal.take-requires-clause-once
take-requires-clause-once g c =
    subst ListsOnce (sym c.in_ok-current.ensures) (view_once (g.H.Host.view c.args.host.now) c.args.parts.now c.requires.ready c.args.rows.now.table c.requires.parts)

pub returns-in_err-view-clause-reads : goal.returns-in_err-view-clause-reads
returns-in_err-view-clause-reads g c l serves short = omega arith

pub returns-in_err-view-clause-changes : goal.returns-in_err-view-clause-changes
returns-in_err-view-clause-changes g c = stays (g.H.Host.view c.args.host.now)

pub returns-in_err-view-clause-back : goal.returns-in_err-view-clause-back
returns-in_err-view-clause-back g c out counted = subst (λ (book : Book). IsCounted book out) (sym c.in_err-view.ensures.err) counted

-- ---- a reader of it

pub print_rows-printed-requires-clause-read : goal.print_rows-printed-requires-clause-read
print_rows-printed-requires-clause-read g c =
    let v = g.H.Host.view c.args.host.now in
    let listed = c.in_ok-view.ensures.parts ∙ c.in_ok-current.ensures in
    record {
      there = λ name opens. view_there v c.args.parts.now c.requires.ready c.args.rows.now.table name (subst (λ (ps : List Part). is_file_of ps name ≡ true) listed (c.new-reader.ensures.opens name opens));
      agrees = c.requires.agrees;
    }

pub print_rows-printed-requires-clause-ready : goal.print_rows-printed-requires-clause-ready
print_rows-printed-requires-clause-ready g c =
    let v = g.H.Host.view c.args.host.now in
    let p = c.args.parts.now in
    let listed = c.in_ok-view.ensures.parts ∙ c.in_ok-current.ensures in
    c.new-reader.ensures.ready v.files p.maps (subst (λ (ps : List Part). PendingReady c.args.plan.source ps p.maps) (sym listed) (plan_ready v p c.requires.parts c.requires.ready c.args.rows.now c.args.plan c.requires.plan))

pub print_rows-printed-requires-clause-prints : goal.print_rows-printed-requires-clause-prints
print_rows-printed-requires-clause-prints g c =
    let v = g.H.Host.view c.args.host.now in
    let p = c.args.parts.now in
    let listed = c.in_ok-view.ensures.parts ∙ c.in_ok-current.ensures in
    subst (λ (k : Picked). source.prints-value.it c.new-reader.result.rows.candidates v.files p.maps k.key) (sym c.new-reader.ensures.picked)
    (c.new-reader.ensures.prints v.files p.maps c.args.plan.picked.key
    (subst (λ (ps : List Part). HasKeyType c.args.plan.types (views_numbered p.maps (map_numbers ps)) c.args.plan.picked.key) (sym listed) (plan_prints v p c.requires.parts c.requires.ready c.args.rows.now c.args.plan c.requires.plan)))

pub print_rows-printed-requires-clause-known : goal.print_rows-printed-requires-clause-known
print_rows-printed-requires-clause-known g c = subst (λ (cs : List Condition). KnowsWhere (map (λ b. (goal.Analyzer-dyn g (b.vtable, b.value)).kind b.value) c.args.kit.now.objects.items) cs) (sym c.new-reader.ensures.conditions) c.requires.known

-- ---- the view is given back

-- it is the last of the views that are out
view_out : (g : Over) (c : After-end g) (out : List (List Part)) → IsCounted c.args.views.now out → IsCounted c.take.new.self (out ++ c.end.result ∷ [])
view_out g c out counted =
    subst (λ (ps : List Part). IsCounted c.take.new.self (out ++ ps ∷ [])) (sym (c.end.ensures ∙ c.print_rows-printed.ensures.view ∙ c.new-reader.ensures.view ∙ c.in_ok-view.ensures.parts))
    (take_counted c.args.views.now c.take.new.self out c.in_ok-current.current c.in_ok-view.ensures.taken counted)

pub give-requires-clause-counted : goal.give-requires-clause-counted
give-requires-clause-counted g c =
    let few = c.requires.few in
    kept_view c.take.new.self few.0 [] c.end.result (view_out g (goal.at.give-requires-clause-counted g c).After-end few.0 few.1)

pub give-requires-clause-out : goal.give-requires-clause-out
give-requires-clause-out g c =
    let few = c.requires.few in
    kept_out c.take.new.self few.0 [] c.end.result (view_out g (goal.at.give-requires-clause-out g c).After-end few.0 few.1)

pub returns-clause-back : goal.returns-clause-back
returns-clause-back g c out counted =
    subst (IsCounted c.give.new.self) (append-nil out)
    (give_counted c.take.new.self c.give.new.self out [] c.end.result c.give.ensures (view_out g (goal.at.returns-clause-back g c).After-end out counted))

-- ---- what was printed

pub returns-clause-ok : goal.returns-clause-ok
returns-clause-ok g c =
    let v = g.H.Host.view c.args.host.now in
    let sound = g.met.H.Host.sound c.args.host.now in
    let p = c.args.parts.now in
    let rows = c.args.rows.now in
    let plan = c.args.plan in
    let listed = c.in_ok-view.ensures.parts ∙ c.in_ok-current.ensures in
    ok_as _ _ c.print_rows-printed.result (λ prints l serves.
    let told = told_files v serves.told in
    let w = world v sound p c.requires.parts c.requires.ready rows plan c.requires.plan l serves told.0 told.1 in
    let all = rows_asked v sound p c.requires.parts c.requires.ready rows plan c.requires.plan l serves in
    let is = subst (λ (ps : List Part). IsReadIn w plan ps p.maps) (sym listed) (world_read v sound p c.requires.parts c.requires.ready rows plan c.requires.plan l serves told.0 told.1) in
    prints all (subst (λ (o : Option Folder). RowsLeft source.leaves-value.it c.new-reader.result.rows o p.maps all) (sym told.1) (c.new-reader.ensures.rows w p.maps is))
    ∙ ap (λ (text : List ℕ). c.args.reply.now ++ text)
    (ap (λ (k : Picked). picked_lines k all) c.new-reader.ensures.picked ∙ rows_are v sound p c.requires.parts c.requires.ready rows plan c.requires.plan l serves)) c.print_rows-printed.ensures.ok

pub returns-clause-counted : goal.returns-clause-counted
returns-clause-counted g c =
    let v = g.H.Host.view c.args.host.now in
    let sound = g.met.H.Host.sound c.args.host.now in
    let p = c.args.parts.now in
    let rows = c.args.rows.now in
    let plan = c.args.plan in
    let listed = c.in_ok-view.ensures.parts ∙ c.in_ok-current.ensures in
    if_ok _ _ c.print_rows-printed.result (λ count counts l serves.
    let told = told_files v serves.told in
    let w = world v sound p c.requires.parts c.requires.ready rows plan c.requires.plan l serves told.0 told.1 in
    let is = subst (λ (ps : List Part). IsReadIn w plan ps p.maps) (sym listed) (world_read v sound p c.requires.parts c.requires.ready rows plan c.requires.plan l serves told.0 told.1) in
    let count_is = counted_on 0 (checked plan.limit (where_of plan.conditions) w.parts) in
    counts count_is (subst (λ (o : Option Folder). CountsTo source.leaves-value.it c.new-reader.result.rows o p.maps count_is) (sym told.1) (c.new-reader.ensures.counts w p.maps is))
    ∙ checks_are v sound p c.requires.parts c.requires.ready rows plan c.requires.plan l serves) c.print_rows-printed.ensures.counted

pub returns-clause-reads : goal.returns-clause-reads
returns-clause-reads g c l serves short =
    let v = g.H.Host.view c.args.host.now in
    let sound = g.met.H.Host.sound c.args.host.now in
    let p = c.args.parts.now in
    let rows = c.args.rows.now in
    let plan = c.args.plan in
    let listed = c.in_ok-view.ensures.parts ∙ c.in_ok-current.ensures in
    let told = told_files v serves.told in
    let w = world v sound p c.requires.parts c.requires.ready rows plan c.requires.plan l serves told.0 told.1 in
    let is = subst (λ (ps : List Part). IsReadIn w plan ps p.maps) (sym listed) (world_read v sound p c.requires.parts c.requires.ready rows plan c.requires.plan l serves told.0 told.1) in
    let most = plan_reads w plan.source plan.limit in
    let bounded = plan_bounded v sound p c.requires.parts c.requires.ready rows plan c.requires.plan l serves told.0 told.1 short in
    let within = c.print_rows-printed.ensures.reads most (subst (λ (o : Option Folder). ReadsLeft source.leaves-value.it source.pays-value.it c.new-reader.result.rows o p.maps most) (sym told.1) (c.new-reader.ensures.reads w p.maps is bounded)) in
    omega (arith, within, reads_within v sound p c.requires.parts c.requires.ready rows plan c.requires.plan l serves told.0 told.1)

pub returns-clause-damaged : goal.returns-clause-damaged
returns-clause-damaged g c folder now =
    let v = g.H.Host.view c.args.host.now in
    let plan = c.args.plan in
    let listed = c.in_ok-view.ensures.parts ∙ c.in_ok-current.ensures in
    damage_err _ (FolderShows folder) c.print_rows-printed.result
    (λ damage shows. view_shows v (g.met.H.Host.sound c.args.host.now) c.args.parts.now c.requires.ready c.args.rows.now plan c.requires.plan folder now damage
    (subst (λ (ps : List Part). PendingShows plan.types ps v.files damage) listed (c.new-reader.ensures.shows v.files damage shows)))
    c.print_rows-printed.ensures.damaged

pub returns-clause-undamaged : goal.returns-clause-undamaged
returns-clause-undamaged g c l serves =
    let v = g.H.Host.view c.args.host.now in
    let sound = g.met.H.Host.sound c.args.host.now in
    let p = c.args.parts.now in
    let rows = c.args.rows.now in
    let plan = c.args.plan in
    let listed = c.in_ok-view.ensures.parts ∙ c.in_ok-current.ensures in
    let told = told_files v serves.told in
    let w = world v sound p c.requires.parts c.requires.ready rows plan c.requires.plan l serves told.0 told.1 in
    let all = rows_asked v sound p c.requires.parts c.requires.ready rows plan c.requires.plan l serves in
    let is = subst (λ (ps : List Part). IsReadIn w plan ps p.maps) (sym listed) (world_read v sound p c.requires.parts c.requires.ready rows plan c.requires.plan l serves told.0 told.1) in
    damage_err _ (λ _. ⊥) c.print_rows-printed.result
    (λ damage none. none all (subst (λ (o : Option Folder). RowsLeft source.leaves-value.it c.new-reader.result.rows o p.maps all) (sym told.1) (c.new-reader.ensures.rows w p.maps is)))
    c.print_rows-printed.ensures.undamaged
