use Rattle.std.proofs.Common.{ap, refl, subst, sym, ◌∙◌, List}
use Rattle.sasi_engine.specs.Plans.{map_numbers}
use Rattle.sasi_host.proofs.ChangeLaws.{changes_as, stays}
use Rattle.sasi_manifest.specs.Edits.{files_of}
use Rattle.sasi_tables.specs.Held.{AreForgottenBut, HaveRising}
use Rattle.sasi_tables.specs.declared.table_maps.TableMaps.{TableMaps}
use Rattle.sasi_host.specs.Disk.{Changes, Same, Within}
use Rattle.sasi_cursors.specs.Cursors.{cursor_of}
use Rattle.sasi_recover.specs.OpenedFolder.{AnyFolderChange}
use Rattle.sasi_tasks.specs.Unheld.{AreGone, is_left, is_one_of}
use Rattle.sasi_views.specs.Changes.{Given}
use Rattle.sasi_views.specs.Parts.{components_of, view_names}
use Rattle.sasi_views.specs.declared.part.Part.{Part}
use Rattle.sasi_store.specs.CursorCalls.{HasAllListed}
use Rattle.sasi_store.specs.Cursors.{Opened}
use Rattle.sasi_store.specs.declared.session_state.OpenCursor.{OpenCursor}
use Rattle.sasi_store.proofs.ClosedCursors.{closed, found_out, without_none}
use Rattle.sasi_store.proofs.Closing.{close_changes, close_counted, close_held, close_idle, close_moment, close_once, close_there, files_rising, none_closed}
use Rattle.sasi_store.proofs.FetchedCursors.{not_free, not_open, one_found}
use Rattle.sasi_store.proofs.SameFiles.{same_held}
use Rattle.sasi_store.proofs.cursors.close.Goals as goal

-- ---- no cursor of the name

pub returns-in_default-clause-refused : goal.returns-in_default-clause-refused
returns-in_default-clause-refused g c free =
    let session = c.args.session.now in
    (c.in_ok-reply_refusal.ensures.outcome, c.in_ok-reply_refusal.ensures.reply, refl, ap (λ (es : Opened). record session { cursors = es }) (c.remove.ensures.rest ∙ without_none c.args.name session.cursors free))

pub returns-in_default-clause-taken : goal.returns-in_default-clause-taken
returns-in_default-clause-taken g c there = not_free c.args.name c.args.session.now.cursors c.in_default.ensures.closed there

-- ---- a cursor that is found

pub give_back-requires-clause-rising : goal.give_back-requires-clause-rising
give_back-requires-clause-rising g c = files_rising (g.H.Host.view c.args.host.now) c.args.parts.now c.requires.ready.can c.in-Some.cursor.table

pub give_back-requires-clause-there : goal.give_back-requires-clause-there
give_back-requires-clause-there g c =
    close_there (g.H.Host.view c.args.host.now) c.args.parts.now c.args.session.now c.requires.ready c.requires.cursors c.args.name c.in-Some.cursor c.in-Some.ensures.closed c.end-view.result c.end-view.ensures

pub give_back-requires-clause-once : goal.give_back-requires-clause-once
give_back-requires-clause-once g c =
    close_once (g.H.Host.view c.args.host.now) c.args.parts.now c.args.session.now c.requires.ready c.requires.cursors c.args.name c.in-Some.cursor c.in-Some.ensures.closed c.end-view.result c.end-view.ensures

pub give_back-requires-clause-counted : goal.give_back-requires-clause-counted
give_back-requires-clause-counted g c =
    close_counted (g.H.Host.view c.args.host.now) c.args.parts.now c.args.session.now c.requires.ready c.requires.cursors c.args.name c.in-Some.cursor c.in-Some.ensures.closed c.end-view.result c.end-view.ensures

pub give_back-requires-clause-out : goal.give_back-requires-clause-out
give_back-requires-clause-out g c = found_out c.args.name (g.H.Host.view c.args.host.now).files c.args.parts.now c.args.session.now c.requires.cursors c.in-Some.cursor c.in-Some.ensures.closed

pub forget_unused-requires : goal.forget_unused-requires
forget_unused-requires g c = subst HaveRising (sym c.deref.ensures.value) c.requires.ready.parts.mapped.rising

pub returns-clause-refused : goal.returns-clause-refused
returns-clause-refused g c free = not_open c.args.name c.args.session.now.cursors c.in-Some.cursor c.in-Some.ensures.closed free

pub returns-clause-taken : goal.returns-clause-taken
returns-clause-taken g c there =
    let v = g.H.Host.view c.args.host.now in
    let w = g.H.Host.view c.give_back.new.host in
    let was = c.args.session.now in
    let files = files_of c.args.parts.now.manifest.listing.tables c.in-Some.cursor.table in (
      refl,
      c.in_ok-ok.ensures.ok,
      closed v w c.args.name c.args.parts.now c.forget_unused.new.maps _ was (record was { views = c.give_back.new.views; cursors = c.remove.new.self }) c.in-Some.cursor c.requires.ready c.requires.cursors c.remove.ensures.once c.in-Some.ensures.closed
          (subst (λ (view : List Part). Given was.views c.give_back.new.views (components_of view)) c.end-view.ensures c.give_back.ensures.given) c.remove.ensures.rest refl refl
          (subst (λ (tables : List TableMaps). AreForgottenBut tables c.give_back.new.views c.deref-2.result.now c.args.parts.now.maps c.forget_unused.new.maps) c.deref.ensures.value c.forget_unused.ensures)
          (c.deref-2.ensures.value ∙ c.in_ok-numbers.ensures ∙ ap map_numbers (c.as_slice.ensures ∙ c.parts.ensures ∙ c.end-view.ensures))
          (subst (λ (view : List Part). Changes (Within (is_one_of (is_left was.views files) (view_names view))) v w) c.end-view.ensures c.give_back.ensures.changes)
          (subst (λ (view : List Part). AreGone (is_left was.views files) w (view_names view)) c.end-view.ensures c.in_ok-give_back.ensures.gone),
    )

-- ---- each exit

pub returns-in_default-clause-held : goal.returns-in_default-clause-held
returns-in_default-clause-held g c = same_held (g.H.Host.view c.args.host.now) (g.H.Host.view c.args.host.now) (stays (g.H.Host.view c.args.host.now)) c.args.session.now.views

pub returns-in_default-clause-changes : goal.returns-in_default-clause-changes
returns-in_default-clause-changes g c = changes_as (g.H.Host.view c.args.host.now) (g.H.Host.view c.args.host.now) Same AnyFolderChange (stays (g.H.Host.view c.args.host.now)) (λ x y step. tt)

pub returns-in_default-clause-any_moment : goal.returns-in_default-clause-any_moment
returns-in_default-clause-any_moment g c = none_closed (g.H.Host.view c.args.host.now) (g.met.H.Host.sound c.args.host.now) c.args.parts.now c.args.session.now

pub returns-in_err-reply_refusal-clause-held : goal.returns-in_err-reply_refusal-clause-held
returns-in_err-reply_refusal-clause-held g c = same_held (g.H.Host.view c.args.host.now) (g.H.Host.view c.args.host.now) (stays (g.H.Host.view c.args.host.now)) c.args.session.now.views

pub returns-in_err-reply_refusal-clause-changes : goal.returns-in_err-reply_refusal-clause-changes
returns-in_err-reply_refusal-clause-changes g c = changes_as (g.H.Host.view c.args.host.now) (g.H.Host.view c.args.host.now) Same AnyFolderChange (stays (g.H.Host.view c.args.host.now)) (λ x y step. tt)

pub returns-in_err-reply_refusal-clause-any_moment : goal.returns-in_err-reply_refusal-clause-any_moment
returns-in_err-reply_refusal-clause-any_moment g c = none_closed (g.H.Host.view c.args.host.now) (g.met.H.Host.sound c.args.host.now) c.args.parts.now c.args.session.now

pub returns-in_err-numbers-clause-held : goal.returns-in_err-numbers-clause-held
returns-in_err-numbers-clause-held g c = same_held (g.H.Host.view c.args.host.now) (g.H.Host.view c.args.host.now) (stays (g.H.Host.view c.args.host.now)) c.args.session.now.views

pub returns-in_err-numbers-clause-changes : goal.returns-in_err-numbers-clause-changes
returns-in_err-numbers-clause-changes g c = changes_as (g.H.Host.view c.args.host.now) (g.H.Host.view c.args.host.now) Same AnyFolderChange (stays (g.H.Host.view c.args.host.now)) (λ x y step. tt)

pub returns-in_err-numbers-clause-any_moment : goal.returns-in_err-numbers-clause-any_moment
returns-in_err-numbers-clause-any_moment g c = none_closed (g.H.Host.view c.args.host.now) (g.met.H.Host.sound c.args.host.now) c.args.parts.now c.args.session.now

pub returns-in_err-give_back-clause-held : goal.returns-in_err-give_back-clause-held
returns-in_err-give_back-clause-held g c = close_held (g.H.Host.view c.args.host.now) c.args.parts.now c.args.session.now c.requires.ready c.requires.cursors c.args.name c.in-Some.cursor c.in-Some.ensures.closed c.end-view.result c.end-view.ensures (g.H.Host.view c.give_back.new.host) c.give_back.new.views c.give_back.ensures.given c.give_back.ensures.changes

pub returns-in_err-give_back-clause-changes : goal.returns-in_err-give_back-clause-changes
returns-in_err-give_back-clause-changes g c = close_changes (g.H.Host.view c.args.host.now) c.args.parts.now c.args.session.now c.requires.ready c.requires.cursors c.args.name c.in-Some.cursor c.in-Some.ensures.closed c.end-view.result c.end-view.ensures (g.H.Host.view c.give_back.new.host) c.give_back.new.views c.give_back.ensures.given c.give_back.ensures.changes

pub returns-in_err-give_back-clause-any_moment : goal.returns-in_err-give_back-clause-any_moment
returns-in_err-give_back-clause-any_moment g c = close_moment (g.H.Host.view c.args.host.now) c.args.parts.now c.args.session.now c.requires.ready c.requires.cursors c.args.name c.in-Some.cursor c.in-Some.ensures.closed c.end-view.result c.end-view.ensures (g.H.Host.view c.give_back.new.host) c.give_back.new.views c.give_back.ensures.given c.give_back.ensures.changes (g.met.H.Host.sound c.args.host.now)

pub returns-in_err-give_back-clause-no_call : goal.returns-in_err-give_back-clause-no_call
returns-in_err-give_back-clause-no_call g c d found listed =
    c.give_back.ensures.idle (close_idle (g.H.Host.view c.args.host.now) c.args.parts.now c.args.session.now c.requires.ready c.requires.cursors c.args.name c.in-Some.cursor c.in-Some.ensures.closed c.end-view.result c.end-view.ensures (g.H.Host.view c.give_back.new.host) c.give_back.new.views c.give_back.ensures.given (subst (λ (e : OpenCursor). HasAllListed c.args.parts.now e) (sym (one_found c.in-Some.cursor d (cursor_of c.args.name c.args.session.now.cursors) c.in-Some.ensures.closed found)) listed))

pub returns-in_err-give_back-clause-free : goal.returns-in_err-give_back-clause-free
returns-in_err-give_back-clause-free g c free = not_open c.args.name c.args.session.now.cursors c.in-Some.cursor c.in-Some.ensures.closed free

pub returns-in_err-ok-clause-held : goal.returns-in_err-ok-clause-held
returns-in_err-ok-clause-held g c = close_held (g.H.Host.view c.args.host.now) c.args.parts.now c.args.session.now c.requires.ready c.requires.cursors c.args.name c.in-Some.cursor c.in-Some.ensures.closed c.end-view.result c.end-view.ensures (g.H.Host.view c.give_back.new.host) c.give_back.new.views c.give_back.ensures.given c.give_back.ensures.changes

pub returns-in_err-ok-clause-changes : goal.returns-in_err-ok-clause-changes
returns-in_err-ok-clause-changes g c = close_changes (g.H.Host.view c.args.host.now) c.args.parts.now c.args.session.now c.requires.ready c.requires.cursors c.args.name c.in-Some.cursor c.in-Some.ensures.closed c.end-view.result c.end-view.ensures (g.H.Host.view c.give_back.new.host) c.give_back.new.views c.give_back.ensures.given c.give_back.ensures.changes

pub returns-in_err-ok-clause-any_moment : goal.returns-in_err-ok-clause-any_moment
returns-in_err-ok-clause-any_moment g c = close_moment (g.H.Host.view c.args.host.now) c.args.parts.now c.args.session.now c.requires.ready c.requires.cursors c.args.name c.in-Some.cursor c.in-Some.ensures.closed c.end-view.result c.end-view.ensures (g.H.Host.view c.give_back.new.host) c.give_back.new.views c.give_back.ensures.given c.give_back.ensures.changes (g.met.H.Host.sound c.args.host.now)

pub returns-in_err-ok-clause-no_call : goal.returns-in_err-ok-clause-no_call
returns-in_err-ok-clause-no_call g c d found listed =
    c.give_back.ensures.idle (close_idle (g.H.Host.view c.args.host.now) c.args.parts.now c.args.session.now c.requires.ready c.requires.cursors c.args.name c.in-Some.cursor c.in-Some.ensures.closed c.end-view.result c.end-view.ensures (g.H.Host.view c.give_back.new.host) c.give_back.new.views c.give_back.ensures.given (subst (λ (e : OpenCursor). HasAllListed c.args.parts.now e) (sym (one_found c.in-Some.cursor d (cursor_of c.args.name c.args.session.now.cursors) c.in-Some.ensures.closed found)) listed))

pub returns-in_err-ok-clause-free : goal.returns-in_err-ok-clause-free
returns-in_err-ok-clause-free g c free = not_open c.args.name c.args.session.now.cursors c.in-Some.cursor c.in-Some.ensures.closed free

pub returns-clause-held : goal.returns-clause-held
returns-clause-held g c = close_held (g.H.Host.view c.args.host.now) c.args.parts.now c.args.session.now c.requires.ready c.requires.cursors c.args.name c.in-Some.cursor c.in-Some.ensures.closed c.end-view.result c.end-view.ensures (g.H.Host.view c.give_back.new.host) c.give_back.new.views c.give_back.ensures.given c.give_back.ensures.changes

pub returns-clause-changes : goal.returns-clause-changes
returns-clause-changes g c = close_changes (g.H.Host.view c.args.host.now) c.args.parts.now c.args.session.now c.requires.ready c.requires.cursors c.args.name c.in-Some.cursor c.in-Some.ensures.closed c.end-view.result c.end-view.ensures (g.H.Host.view c.give_back.new.host) c.give_back.new.views c.give_back.ensures.given c.give_back.ensures.changes

pub returns-clause-any_moment : goal.returns-clause-any_moment
returns-clause-any_moment g c = close_moment (g.H.Host.view c.args.host.now) c.args.parts.now c.args.session.now c.requires.ready c.requires.cursors c.args.name c.in-Some.cursor c.in-Some.ensures.closed c.end-view.result c.end-view.ensures (g.H.Host.view c.give_back.new.host) c.give_back.new.views c.give_back.ensures.given c.give_back.ensures.changes (g.met.H.Host.sound c.args.host.now)

pub returns-clause-no_call : goal.returns-clause-no_call
returns-clause-no_call g c d found listed =
    c.give_back.ensures.idle (close_idle (g.H.Host.view c.args.host.now) c.args.parts.now c.args.session.now c.requires.ready c.requires.cursors c.args.name c.in-Some.cursor c.in-Some.ensures.closed c.end-view.result c.end-view.ensures (g.H.Host.view c.give_back.new.host) c.give_back.new.views c.give_back.ensures.given (subst (λ (e : OpenCursor). HasAllListed c.args.parts.now e) (sym (one_found c.in-Some.cursor d (cursor_of c.args.name c.args.session.now.cursors) c.in-Some.ensures.closed found)) listed))

pub returns-clause-free : goal.returns-clause-free
returns-clause-free g c free = not_open c.args.name c.args.session.now.cursors c.in-Some.cursor c.in-Some.ensures.closed free
