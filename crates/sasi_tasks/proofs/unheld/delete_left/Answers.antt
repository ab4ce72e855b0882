use Rattle.std.proofs.Common.{◌∙◌, List, inr, refl, subst}
use Rattle.std.proofs.lemmas.List.{drop_all}
use Rattle.std.proofs.lemmas.Result.{on_ok_weaker}
use Rattle.sasi_host.specs.Disk.{Within}
use Rattle.sasi_host.proofs.ChangeLaws.{then_same}
use Rattle.sasi_views.specs.Parts.{names_of, view_names}
use Rattle.sasi_views.specs.declared.part.Part.{Part}
use Rattle.sasi_tasks.specs.Unheld.{is_left, is_one_of}
use Rattle.sasi_tasks.proofs.Deleting.{HasDeleted, all_gone, gone_same, at_list, changed_on, deleted_on, left_false, next_once, next_there, next_unchosen, none_deleted, or_false, right_false}
use Rattle.sasi_tasks.proofs.unheld.delete_left.Goals as goal

pub loop-part-init : goal.loop-part-init
loop-part-init g c = record {
  so_far = none_deleted (is_left c.args.views.now c.args.files.now) (view_names c.args.view.now) (g.H.Host.view c.args.host.now) c.requires.there c.requires.once;
  idle = λ none. (refl, refl);
  none = λ none. refl;
}

pub delete_left_of-requires-clause-there : goal.delete_left_of-requires-clause-there
delete_left_of-requires-clause-there g c =
    let chosen = is_left c.args.views.now c.args.files.now in
    let all = view_names c.args.view.now in
    let a = g.H.Host.view c.args.host.now in
    let b = g.H.Host.view c.loop-part.host in
    next_there chosen all _ _ a b (at_list chosen all a b names_of c.args.view.now c.loop-part.part-index c.part-item.result c.loop-part-test.true c.part-item.is c.loop-part.invariant.so_far)

pub delete_left_of-requires-clause-once : goal.delete_left_of-requires-clause-once
delete_left_of-requires-clause-once g c =
    let chosen = is_left c.args.views.now c.args.files.now in
    let all = view_names c.args.view.now in
    let a = g.H.Host.view c.args.host.now in
    let b = g.H.Host.view c.loop-part.host in
    next_once chosen all _ _ a b (at_list chosen all a b names_of c.args.view.now c.loop-part.part-index c.part-item.result c.loop-part-test.true c.part-item.is c.loop-part.invariant.so_far)

pub returns-in_err-deleted-clause-changes : goal.returns-in_err-deleted-clause-changes
returns-in_err-deleted-clause-changes g c =
    let chosen = is_left c.args.views.now c.args.files.now in
    let all = view_names c.args.view.now in
    let a = g.H.Host.view c.args.host.now in
    let b = g.H.Host.view c.loop-part.host in
    changed_on chosen all _ _ a b (at_list chosen all a b names_of c.args.view.now c.loop-part.part-index c.part-item.result c.loop-part-test.true c.part-item.is c.loop-part.invariant.so_far)
    (g.H.Host.view c.delete_left_of.new.host) c.delete_left_of.ensures.changes

pub loop-part-preserved : goal.loop-part-preserved
loop-part-preserved g c =
    let chosen = is_left c.args.views.now c.args.files.now in
    let all = view_names c.args.view.now in
    let a = g.H.Host.view c.args.host.now in
    let b = g.H.Host.view c.loop-part.host in
    let now = g.H.Host.view c.delete_left_of.new.host in
    let before = at_list chosen all a b names_of c.args.view.now c.loop-part.part-index c.part-item.result c.loop-part-test.true c.part-item.is c.loop-part.invariant.so_far in
    record {
      so_far = deleted_on chosen all _ _ a b before now c.delete_left_of.ensures.changes c.in_ok-deleted.ensures.gone
          c.in_ok-deleted.ensures.causes.ok c.delete_left_of.ensures.causes.out c.delete_left_of.ensures.causes.reads;
      idle = λ none.
          let was = c.loop-part.invariant.idle none in
          let un = next_unchosen chosen all _ _ a b before none in
          (c.delete_left_of.ensures.idle un ∙ was.0, or_false _ _ was.1 (c.in_ok-deleted.ensures.told un));
      none = λ none. c.in_ok-deleted.ensures.none (right_false c.loop-part.deleted c.in_ok-deleted.field-0 none) ∙ c.loop-part.invariant.none (left_false c.loop-part.deleted c.in_ok-deleted.field-0 none);
    }

pub returns-in_err-deleted-clause-idle : goal.returns-in_err-deleted-clause-idle
returns-in_err-deleted-clause-idle g c none =
    let chosen = is_left c.args.views.now c.args.files.now in
    let all = view_names c.args.view.now in
    let a = g.H.Host.view c.args.host.now in
    let b = g.H.Host.view c.loop-part.host in
    let before = at_list chosen all a b names_of c.args.view.now c.loop-part.part-index c.part-item.result c.loop-part-test.true c.part-item.is c.loop-part.invariant.so_far in
    c.delete_left_of.ensures.idle (next_unchosen chosen all _ _ a b before none) ∙ (c.loop-part.invariant.idle none).0

pub returns-then-not-deleted-clause-gone : goal.returns-then-not-deleted-clause-gone
returns-then-not-deleted-clause-gone g c =
    let chosen = is_left c.args.views.now c.args.files.now in
    let all = view_names c.args.view.now in
    let a = g.H.Host.view c.args.host.now in
    let b = g.H.Host.view c.loop-part.host in
    all_gone chosen all a b (subst (λ (l : List Part). HasDeleted chosen all (view_names l) a b) (drop_all c.loop-part.part-index c.args.view.now c.loop-part-test.false) c.loop-part.invariant.so_far)

pub returns-clause-gone : goal.returns-clause-gone
returns-clause-gone g c =
    let chosen = is_left c.args.views.now c.args.files.now in
    let all = view_names c.args.view.now in
    let a = g.H.Host.view c.args.host.now in
    let b = g.H.Host.view c.loop-part.host in
    on_ok_weaker c.sync_folder.result (λ _. gone_same chosen all b (g.H.Host.view c.sync_folder.new.self) c.sync_folder.ensures.changes (
    all_gone chosen all a b (subst (λ (l : List Part). HasDeleted chosen all (view_names l) a b) (drop_all c.loop-part.part-index c.args.view.now c.loop-part-test.false) c.loop-part.invariant.so_far))) c.sync_folder.ensures.ok

pub returns-clause-changes : goal.returns-clause-changes
returns-clause-changes g c = then_same (g.H.Host.view c.args.host.now) (g.H.Host.view c.loop-part.host) (g.H.Host.view c.sync_folder.new.self) (Within (is_one_of (is_left c.args.views.now c.args.files.now) (view_names c.args.view.now))) c.loop-part.invariant.so_far.changes c.sync_folder.ensures.changes

pub returns-clause-synced : goal.returns-clause-synced
returns-clause-synced g c = on_ok_weaker c.sync_folder.result (λ synced. inr synced) c.sync_folder.ensures.ok
