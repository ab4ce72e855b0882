use Rattle.std.proofs.Common.{map, refl}
use Rattle.std.proofs.lemmas.Result.{err_from_is_err_and}
use Rattle.sasi_cursors.proofs.Agreement.{agree_some}
use Rattle.sasi_host.proofs.ChangeLaws.{stays}
use Rattle.sasi_model.specs.Abbreviations.{types_of}
use Rattle.sasi_model.specs.Sessions as model
use Rattle.sasi_recheck.specs.Rows.{KnowsWhere}
use Rattle.sasi_store.specs.Cursors.{GivesRows, IsKept}
use Rattle.sasi_store.specs.HeldDamage.{StepShows}
use Rattle.sasi_store.specs.declared.session_state.OpenCursor.{OpenCursor}
use Rattle.sasi_store.proofs.FetchedCursors.{fetched, found_all, not_free, not_open}
use Rattle.sasi_store.proofs.HeldDamage.{cursor_shows, cursor_there}
use Rattle.sasi_store.proofs.SameFiles.{files_before}
use Rattle.sasi_store.proofs.Selecting.{on_damage}
use Rattle.sasi_store.proofs.cursors.fetch.Goals as goal

-- ---- no cursor of the name

pub returns-in_default-clause-taken : goal.returns-in_default-clause-taken
returns-in_default-clause-taken g c there = not_free c.args.asked.cursor c.args.session.now.cursors c.in_default.ensures.value there

pub returns-in_default-clause-changes : goal.returns-in_default-clause-changes
returns-in_default-clause-changes g c = stays (g.H.Host.view c.args.host.now)

pub returns-in_err-reply_refusal-clause-changes : goal.returns-in_err-reply_refusal-clause-changes
returns-in_err-reply_refusal-clause-changes g c = stays (g.H.Host.view c.args.host.now)

-- ---- a cursor that is found

pub fetch-requires-clause-readable : goal.fetch-requires-clause-readable
fetch-requires-clause-readable g c =
    let own = found_all c.args.asked.cursor c.in-Some.cursor.now (IsKept (g.H.Host.view c.args.host.now).files c.args.parts.now) c.args.session.now.cursors c.requires.cursors.kept c.in-Some.ensures.value in
    (types_of own.row.definition, own.readable)

pub fetch-requires-clause-there : goal.fetch-requires-clause-there
fetch-requires-clause-there g c name is =
    cursor_there (g.H.Host.view c.args.host.now) c.args.parts.now c.args.session.now c.requires.ready c.requires.cursors c.args.asked.cursor c.in-Some.cursor.now c.in-Some.ensures.value name is

pub fetch-requires-clause-known : goal.fetch-requires-clause-known
fetch-requires-clause-known g c =
    found_all c.args.asked.cursor c.in-Some.cursor.now (λ (d : OpenCursor). KnowsWhere (map (λ b. (goal.Analyzer-dyn g (b.vtable, b.value)).kind b.value) c.args.kit.now.objects.items) d.rows.reader.rows.filter) c.args.session.now.cursors
    c.requires.classes.cursors c.in-Some.ensures.value

pub returns-in_err-fetch-clause-no_call : goal.returns-in_err-fetch-clause-no_call
returns-in_err-fetch-clause-no_call g c free = not_open c.args.asked.cursor c.args.session.now.cursors c.in-Some.cursor.now c.in-Some.ensures.value free

pub returns-in_err-fetch-clause-damaged : goal.returns-in_err-fetch-clause-damaged
returns-in_err-fetch-clause-damaged g c folder now =
    let f = err_from_is_err_and c.from_residual-in_err-fetch.result c.from_residual-in_err-fetch.ensures.1 in
    let v = g.H.Host.view c.args.host.now in
    let p = c.args.parts.now in
    let cursor = c.in-Some.cursor.now in
    let own = found_all c.args.asked.cursor cursor (IsKept v.files p) c.args.session.now.cursors c.requires.cursors.kept c.in-Some.ensures.value in
    rw (f.1, f.2) (on_damage _ (StepShows c.args.session.now.views folder)
    (cursor_shows v (g.met.H.Host.sound c.args.host.now) p c.args.session.now c.requires.ready c.requires.cursors c.args.asked.cursor cursor c.in-Some.ensures.value folder
    (files_before v (g.H.Host.view c.fetch.new.host) c.fetch.ensures.changes folder now) own.row own.there)
    c.in_err-fetch.field-0.0 (c.in_err-fetch.ensures.damaged (types_of own.row.definition) own.readable))

pub returns-in_err-fetch-clause-undamaged : goal.returns-in_err-fetch-clause-undamaged
returns-in_err-fetch-clause-undamaged g c w serves =
    let f = err_from_is_err_and c.from_residual-in_err-fetch.result c.from_residual-in_err-fetch.ensures.1 in
    let v = g.H.Host.view c.args.host.now in
    let d = agree_some (λ (x : model.Cursor). x.name) (GivesRows v.files c.args.parts.now.maps) c.args.asked.cursor c.args.session.now.cursors w.session.cursors c.in-Some.cursor.now c.in-Some.ensures.value serves.cursors_are in
    rw (f.1, f.2) (on_damage _ (λ _. ⊥) (λ damage none. none d.2.0 d.2.1) c.in_err-fetch.field-0.0 c.in_err-fetch.ensures.undamaged)

pub returns-clause-refused : goal.returns-clause-refused
returns-clause-refused g c free = not_open c.args.asked.cursor c.args.session.now.cursors c.in-Some.cursor.now c.in-Some.ensures.value free

pub returns-clause-no_call : goal.returns-clause-no_call
returns-clause-no_call g c free = not_open c.args.asked.cursor c.args.session.now.cursors c.in-Some.cursor.now c.in-Some.ensures.value free

pub returns-clause-taken : goal.returns-clause-taken
returns-clause-taken g c there = (
  refl,
  fetched (map (λ b. (goal.Analyzer-dyn g (b.vtable, b.value)).kind b.value) c.args.kit.now.objects.items) (g.H.Host.view c.args.host.now) (g.H.Host.view c.fetch.new.host) c.fetch.ensures.changes c.args.asked c.args.parts.now c.args.session.now
      c.in-Some.cursor.now c.fetch.new.self c.requires.ready c.requires.cursors c.in-Some.ensures.once c.in-Some.ensures.value c.fetch.ensures.view c.fetch.ensures.conditions c.fetch.ensures.picked
      (λ types is. c.in_ok-fetch.ensures.readable types is) c.args.reply.now c.fetch.new.reply c.in_ok-fetch.ensures.rows c.in_ok-fetch.ensures.few,
)
