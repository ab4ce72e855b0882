use Rattle.std.proofs.Common.{◌∙◌, List, inr, refl, subst, sym}
use Rattle.std.proofs.lemmas.List.{drop_all}
use Rattle.std.proofs.lemmas.Result.{on_ok_weaker}
use Rattle.sasi_host.specs.Disk.{Within}
use Rattle.sasi_host.proofs.ChangeLaws.{then_same}
use Rattle.sasi_host.specs.declared.name.FileName.{FileName}
use Rattle.sasi_tasks.specs.Unheld.{is_counted, is_one_of}
use Rattle.sasi_tasks.proofs.Deleting.{HasDeleted, all_gone, at_name, gone_same, left_false, none_deleted, one_changed, one_on, one_there, one_unchosen, or_false, right_false}
use Rattle.sasi_tasks.proofs.unheld.delete_unheld.Goals as goal

pub loop-name-init : goal.loop-name-init
loop-name-init g c = record {
  so_far = none_deleted (is_counted c.args.views.now 0) c.args.names.now (g.H.Host.view c.args.host.now) c.requires.there c.requires.once;
  idle = λ none. (refl, refl);
  none = λ none. refl;
}

pub delete_counted-requires : goal.delete_counted-requires
delete_counted-requires g c =
    let chosen = is_counted c.args.views.now 0 in
    let a = g.H.Host.view c.args.host.now in
    let b = g.H.Host.view c.loop-name.host in
    one_there chosen c.args.names.now a b _ _ (at_name chosen c.args.names.now a b c.args.names.now c.loop-name.name-index _ c.loop-name-test.true c.loop-name.invariant.so_far)

pub returns-in_err-deleted-clause-changes : goal.returns-in_err-deleted-clause-changes
returns-in_err-deleted-clause-changes g c =
    let chosen = is_counted c.args.views.now 0 in
    let a = g.H.Host.view c.args.host.now in
    let b = g.H.Host.view c.loop-name.host in
    one_changed chosen c.args.names.now a b _ _ (at_name chosen c.args.names.now a b c.args.names.now c.loop-name.name-index _ c.loop-name-test.true c.loop-name.invariant.so_far)
    (g.H.Host.view c.delete_counted.new.host) c.delete_counted.ensures.changes

pub loop-name-preserved : goal.loop-name-preserved
loop-name-preserved g c =
    let chosen = is_counted c.args.views.now 0 in
    let a = g.H.Host.view c.args.host.now in
    let b = g.H.Host.view c.loop-name.host in
    let now = g.H.Host.view c.delete_counted.new.host in
    let before = at_name chosen c.args.names.now a b c.args.names.now c.loop-name.name-index _ c.loop-name-test.true c.loop-name.invariant.so_far in
    record {
      so_far = one_on chosen c.args.names.now a b _ _ before now c.delete_counted.ensures.changes c.in_ok-deleted.ensures.gone
          c.in_ok-deleted.ensures.causes.ok c.delete_counted.ensures.causes.out c.delete_counted.ensures.causes.reads;
      idle = λ none.
          let was = c.loop-name.invariant.idle none in
          let un = one_unchosen chosen c.args.names.now a b _ _ before none in
          (c.delete_counted.ensures.idle un ∙ was.0, or_false _ _ was.1 (c.in_ok-deleted.ensures.told ∙ un));
      none = λ none. c.delete_counted.ensures.idle (sym c.in_ok-deleted.ensures.told ∙ right_false c.loop-name.deleted c.in_ok-deleted.field-0 none) ∙ c.loop-name.invariant.none (left_false c.loop-name.deleted c.in_ok-deleted.field-0 none);
    }

pub returns-then-not-deleted-clause-gone : goal.returns-then-not-deleted-clause-gone
returns-then-not-deleted-clause-gone g c =
    let a = g.H.Host.view c.args.host.now in
    let b = g.H.Host.view c.loop-name.host in
    all_gone (is_counted c.args.views.now 0) c.args.names.now a b
    (subst (λ (l : List FileName). HasDeleted (is_counted c.args.views.now 0) c.args.names.now l a b) (drop_all c.loop-name.name-index c.args.names.now c.loop-name-test.false) c.loop-name.invariant.so_far)

pub returns-clause-gone : goal.returns-clause-gone
returns-clause-gone g c =
    let a = g.H.Host.view c.args.host.now in
    let b = g.H.Host.view c.loop-name.host in
    on_ok_weaker c.sync_folder.result (λ _. gone_same (is_counted c.args.views.now 0) c.args.names.now b (g.H.Host.view c.sync_folder.new.self) c.sync_folder.ensures.changes (
    all_gone (is_counted c.args.views.now 0) c.args.names.now a b
    (subst (λ (l : List FileName). HasDeleted (is_counted c.args.views.now 0) c.args.names.now l a b) (drop_all c.loop-name.name-index c.args.names.now c.loop-name-test.false) c.loop-name.invariant.so_far))) c.sync_folder.ensures.ok

pub returns-clause-changes : goal.returns-clause-changes
returns-clause-changes g c = then_same (g.H.Host.view c.args.host.now) (g.H.Host.view c.loop-name.host) (g.H.Host.view c.sync_folder.new.self) (Within (is_one_of (is_counted c.args.views.now 0) c.args.names.now)) c.loop-name.invariant.so_far.changes c.sync_folder.ensures.changes

pub returns-clause-synced : goal.returns-clause-synced
returns-clause-synced g c = on_ok_weaker c.sync_folder.result (λ synced. inr synced) c.sync_folder.ensures.ok
