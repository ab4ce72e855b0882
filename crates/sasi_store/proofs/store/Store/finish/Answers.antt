use Rattle.std.proofs.Common.{◌≡◌, ◌∙◌, ◌∷◌, List, [], ap, rules, subst, sym}
use Rattle.std.specs.Map.{values_of}
use Rattle.sasi_host.proofs.ChangeLaws.{changes_as}
use Rattle.sasi_host.specs.Disk.{Changes, Within}
use Rattle.sasi_manifest.specs.Edits.{files_of}
use Rattle.sasi_recover.specs.OpenedFolder.{AnyFolderChange}
use Rattle.sasi_tasks.specs.Running.{is_begun}
use Rattle.sasi_tasks.specs.Unheld.{AreGone, AreOnce, AreThere, is_left, is_one_of}
use Rattle.sasi_views.specs.Changes.{Given}
use Rattle.sasi_views.specs.Parts.{components_of, view_names}
use Rattle.sasi_views.specs.declared.part.Part.{Part}
use Rattle.sasi_store.specs.Cursors.{Opened}
use Rattle.sasi_store.specs.declared.session_state.OpenCursor.{OpenCursor}
use Rattle.sasi_store.proofs.Closing.{files_rising}
use Rattle.sasi_store.proofs.Finishing.{IsFinishing, can_give_up, finish_changes, finish_moment, finish_once, finish_there, finished, finishing_first, finishing_on, left_moment}
use Rattle.sasi_store.proofs.store.Store.finish.Goals as goal

pub give_up-requires-clause-can : goal.give_up-requires-clause-can
give_up-requires-clause-can g c = can_give_up (g.H.Host.view c.args.host.now) c.args.self.parts c.args.self.session.tasks.items c.requires.goes_on.ready.each

pub give_up-requires-clause-apart : goal.give_up-requires-clause-apart
give_up-requires-clause-apart g c = c.requires.goes_on.ready.apart

pub returns-in_err-give_up-clause-any_moment : goal.returns-in_err-give_up-clause-any_moment
returns-in_err-give_up-clause-any_moment g c w serves =
    left_moment (g.H.Host.view c.args.host.now) (g.H.Host.view c.give_up.new.host) c.args.self.parts c.args.self.session.views c.args.self.session.tasks.items c.requires.goes_on c.give_up.ensures.changes (g.met.H.Host.sound c.args.host.now) w.layout
    serves.serves

pub returns-in_err-give_up-clause-changes : goal.returns-in_err-give_up-clause-changes
returns-in_err-give_up-clause-changes g c =
    changes_as (g.H.Host.view c.args.host.now) (g.H.Host.view c.give_up.new.host) (Within (is_begun c.args.self.session.tasks.items)) AnyFolderChange c.give_up.ensures.changes (λ x y step. tt)

-- ---- cursor by cursor

pub loop-cursor-init : goal.loop-cursor-init
loop-cursor-init g c =
    let a = g.H.Host.view c.args.host.now in
    let b = g.H.Host.view c.give_up.new.host in
    let session = c.args.self.session in
    let first : c.into_iter-cursor-iterator.result ≡ values_of c.args.self.session.cursors = search rules in
    let causes = c.in_ok-give_up.ensures.causes in (
      subst (λ (l : List OpenCursor). IsFinishing a b c.args.self.parts session.views l) (sym first)
          (finishing_first a b c.args.self.parts session (g.met.H.Host.sound c.args.host.now) c.requires.goes_on c.requires.cursors c.give_up.ensures.changes c.in_ok-give_up.ensures.gone causes.ok causes.out causes.reads),
      λ none tasks. (first ∙ ap (λ (es : Opened). values_of es) none, c.give_up.ensures.idle tasks),
    )

pub give_back-requires-clause-rising : goal.give_back-requires-clause-rising
give_back-requires-clause-rising g c = files_rising (g.H.Host.view c.loop-cursor.host) c.args.self.parts c.loop-cursor.invariant.0.on.can c.in-Some.cursor.table

pub give_back-requires-clause-there : goal.give_back-requires-clause-there
give_back-requires-clause-there g c =
    let a = g.H.Host.view c.args.host.now in
    let v = g.H.Host.view c.loop-cursor.host in
    let p = c.args.self.parts in
    let cursor = c.in-Some.cursor in
    let views = c.loop-cursor.views in
    let steps : c.loop-cursor.cursor-iterator ≡ c.in-Some.cursor ∷ c.next.new.self = search rules in
    let is = subst (λ (l : List OpenCursor). IsFinishing a v p views l) steps c.loop-cursor.invariant.0 in
    subst (λ (ps : List Part). AreThere (is_left views (files_of p.manifest.listing.tables cursor.table)) v (view_names ps)) (sym c.end-view.ensures) (finish_there a v v p views views cursor c.next.new.self is)

pub give_back-requires-clause-once : goal.give_back-requires-clause-once
give_back-requires-clause-once g c =
    let a = g.H.Host.view c.args.host.now in
    let v = g.H.Host.view c.loop-cursor.host in
    let p = c.args.self.parts in
    let cursor = c.in-Some.cursor in
    let views = c.loop-cursor.views in
    let steps : c.loop-cursor.cursor-iterator ≡ c.in-Some.cursor ∷ c.next.new.self = search rules in
    let is = subst (λ (l : List OpenCursor). IsFinishing a v p views l) steps c.loop-cursor.invariant.0 in
    subst (λ (ps : List Part). AreOnce (view_names ps)) (sym c.end-view.ensures) (finish_once a v v p views views cursor c.next.new.self is)

pub returns-in_err-give_back-clause-any_moment : goal.returns-in_err-give_back-clause-any_moment
returns-in_err-give_back-clause-any_moment g c w serves =
    let a = g.H.Host.view c.args.host.now in
    let v = g.H.Host.view c.loop-cursor.host in
    let b = g.H.Host.view c.give_back.new.host in
    let p = c.args.self.parts in
    let cursor = c.in-Some.cursor in
    let views = c.loop-cursor.views in
    let steps : c.loop-cursor.cursor-iterator ≡ c.in-Some.cursor ∷ c.next.new.self = search rules in
    let is = subst (λ (l : List OpenCursor). IsFinishing a v p views l) steps c.loop-cursor.invariant.0 in
    finish_moment a v b p views c.give_back.new.views cursor c.next.new.self is (subst (λ (ps : List Part). Given views c.give_back.new.views (components_of ps)) c.end-view.ensures c.give_back.ensures.given)
    (subst (λ (ps : List Part). Changes (Within (is_one_of (is_left views (files_of p.manifest.listing.tables cursor.table)) (view_names ps))) v b) c.end-view.ensures c.give_back.ensures.changes) (g.met.H.Host.sound c.loop-cursor.host) w.layout serves.serves

pub returns-in_err-give_back-clause-changes : goal.returns-in_err-give_back-clause-changes
returns-in_err-give_back-clause-changes g c =
    let a = g.H.Host.view c.args.host.now in
    let v = g.H.Host.view c.loop-cursor.host in
    let b = g.H.Host.view c.give_back.new.host in
    let p = c.args.self.parts in
    let cursor = c.in-Some.cursor in
    let views = c.loop-cursor.views in
    let steps : c.loop-cursor.cursor-iterator ≡ c.in-Some.cursor ∷ c.next.new.self = search rules in
    let is = subst (λ (l : List OpenCursor). IsFinishing a v p views l) steps c.loop-cursor.invariant.0 in
    finish_changes a v b p views c.give_back.new.views cursor c.next.new.self is (subst (λ (ps : List Part). Given views c.give_back.new.views (components_of ps)) c.end-view.ensures c.give_back.ensures.given)
    (subst (λ (ps : List Part). Changes (Within (is_one_of (is_left views (files_of p.manifest.listing.tables cursor.table)) (view_names ps))) v b) c.end-view.ensures c.give_back.ensures.changes)

pub loop-cursor-preserved : goal.loop-cursor-preserved
loop-cursor-preserved g c =
    let a = g.H.Host.view c.args.host.now in
    let v = g.H.Host.view c.loop-cursor.host in
    let b = g.H.Host.view c.give_back.new.host in
    let p = c.args.self.parts in
    let cursor = c.in-Some.cursor in
    let views = c.loop-cursor.views in
    let steps : c.loop-cursor.cursor-iterator ≡ c.in-Some.cursor ∷ c.next.new.self = search rules in
    let is = subst (λ (l : List OpenCursor). IsFinishing a v p views l) steps c.loop-cursor.invariant.0 in
    let causes = c.in_ok-give_back.ensures.causes in (
      finishing_on a v b p views c.give_back.new.views cursor c.next.new.self is (subst (λ (ps : List Part). Given views c.give_back.new.views (components_of ps)) c.end-view.ensures c.give_back.ensures.given)
          (subst (λ (ps : List Part). Changes (Within (is_one_of (is_left views (files_of p.manifest.listing.tables cursor.table)) (view_names ps))) v b) c.end-view.ensures c.give_back.ensures.changes) (g.met.H.Host.sound c.loop-cursor.host)
          (subst (λ (ps : List Part). AreGone (is_left views (files_of p.manifest.listing.tables cursor.table)) b (view_names ps)) c.end-view.ensures c.in_ok-give_back.ensures.gone) causes.ok causes.out causes.reads,
      λ none tasks. (let no : [] ≡ c.in-Some.cursor ∷ c.next.new.self = sym (c.loop-cursor.invariant.1 none tasks).0 ∙ steps in cc),
    )

-- ---- the end

pub returns-clause-ends : goal.returns-clause-ends
returns-clause-ends g c w serves =
    let a = g.H.Host.view c.args.host.now in
    let v = g.H.Host.view c.loop-cursor.host in
    let none : c.loop-cursor.cursor-iterator ≡ [] = search rules in
    finished a v c.args.self.parts c.loop-cursor.views (subst (λ (l : List OpenCursor). IsFinishing a v c.args.self.parts c.loop-cursor.views l) none c.loop-cursor.invariant.0) w.layout serves.serves

pub returns-clause-any_moment : goal.returns-clause-any_moment
returns-clause-any_moment g c w serves = c.loop-cursor.invariant.0.moment w.layout serves.serves
