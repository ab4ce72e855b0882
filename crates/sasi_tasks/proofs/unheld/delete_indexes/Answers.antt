use Rattle.std.proofs.Common.{◌≡◌, ◌∷◌, ◌∙◌, [], map, List, false, refl, subst, sym, true}
use Rattle.std.proofs.lemmas.List.{drop_all}
use Rattle.sasi_host.specs.Disk.{Changes, Within}
use Rattle.sasi_host.specs.View.{IsThere}
use Rattle.sasi_host.specs.declared.name.FileName.{FileName}
use Rattle.sasi_manifest.specs.ListedFiles.{index_name}
use Rattle.sasi_manifest.specs.declared.files.PartNumber.{PartNumber}
use Rattle.sasi_tasks.specs.Unheld.{AreGone, is_counted, is_one_of}
use Rattle.sasi_tasks.proofs.Deleting.{HasDeleted, all_gone, at_each, left_false, none_deleted, one_changed, one_on, one_there, one_unchosen, or_false, right_false}
use Rattle.sasi_tasks.proofs.unheld.delete_indexes.Goals as goal

pub loop-part-init : goal.loop-part-init
loop-part-init g c = record {
  so_far = none_deleted (is_counted c.args.views.now 1) (map (index_name c.args.number) c.args.parts.now) (g.H.Host.view c.args.host.now) c.requires.there c.requires.once;
  idle = λ none. (refl, refl);
  none = λ none. refl;
}

pub delete_counted-requires : goal.delete_counted-requires
delete_counted-requires g c =
    let chosen = is_counted c.args.views.now 1 in
    let all = map (index_name c.args.number) c.args.parts.now in
    let b = g.H.Host.view c.loop-part.host in
    subst (λ (f : FileName). is_counted c.args.views.now 1 f ≡ true → IsThere b f) (sym c.file_name.ensures)
    (one_there chosen all (g.H.Host.view c.args.host.now) b _ _ (at_each chosen all (g.H.Host.view c.args.host.now) b (index_name c.args.number) c.args.parts.now c.loop-part.part-index _ c.loop-part-test.true c.loop-part.invariant.so_far))

pub returns-in_err-deleted-clause-changes : goal.returns-in_err-deleted-clause-changes
returns-in_err-deleted-clause-changes g c =
    let chosen = is_counted c.args.views.now 1 in
    let all = map (index_name c.args.number) c.args.parts.now in
    let a = g.H.Host.view c.args.host.now in
    let b = g.H.Host.view c.loop-part.host in
    let now = g.H.Host.view c.delete_counted.new.host in
    one_changed chosen all a b _ _ (at_each chosen all a b (index_name c.args.number) c.args.parts.now c.loop-part.part-index _ c.loop-part-test.true c.loop-part.invariant.so_far) now
    (subst (λ (f : FileName). Changes (Within (is_one_of (is_counted c.args.views.now 1) (f ∷ []))) b now) c.file_name.ensures c.delete_counted.ensures.changes)

pub loop-part-preserved : goal.loop-part-preserved
loop-part-preserved g c =
    let chosen = is_counted c.args.views.now 1 in
    let all = map (index_name c.args.number) c.args.parts.now in
    let a = g.H.Host.view c.args.host.now in
    let b = g.H.Host.view c.loop-part.host in
    let now = g.H.Host.view c.delete_counted.new.host in
    let before = at_each chosen all a b (index_name c.args.number) c.args.parts.now c.loop-part.part-index _ c.loop-part-test.true c.loop-part.invariant.so_far in
    record {
      so_far = one_on chosen all a b _ _ before now
          (subst (λ (f : FileName). Changes (Within (is_one_of (is_counted c.args.views.now 1) (f ∷ []))) b now) c.file_name.ensures c.delete_counted.ensures.changes)
          (subst (λ (f : FileName). AreGone (is_counted c.args.views.now 1) now (f ∷ [])) c.file_name.ensures c.in_ok-deleted.ensures.gone)
          c.in_ok-deleted.ensures.causes.ok c.delete_counted.ensures.causes.out c.delete_counted.ensures.causes.reads;
      idle = λ none.
          let was = c.loop-part.invariant.idle none in
          let un : is_counted c.args.views.now 1 c.file_name.result ≡ false = subst (λ (f : FileName). is_counted c.args.views.now 1 f ≡ false) (sym c.file_name.ensures) (one_unchosen chosen all a b _ _ before none) in
          (c.delete_counted.ensures.idle un ∙ was.0, or_false _ _ was.1 (c.in_ok-deleted.ensures.told ∙ un));
      none = λ none. c.delete_counted.ensures.idle (sym c.in_ok-deleted.ensures.told ∙ right_false c.loop-part.deleted c.in_ok-deleted.field-0 none) ∙ c.loop-part.invariant.none (left_false c.loop-part.deleted c.in_ok-deleted.field-0 none);
    }

pub returns-clause-gone : goal.returns-clause-gone
returns-clause-gone g c =
    let all = map (index_name c.args.number) c.args.parts.now in
    let a = g.H.Host.view c.args.host.now in
    let b = g.H.Host.view c.loop-part.host in
    all_gone (is_counted c.args.views.now 1) all a b
    (subst (λ (l : List PartNumber). HasDeleted (is_counted c.args.views.now 1) all (map (index_name c.args.number) l) a b) (drop_all c.loop-part.part-index c.args.parts.now c.loop-part-test.false) c.loop-part.invariant.so_far)

pub returns-in_err-deleted-clause-idle : goal.returns-in_err-deleted-clause-idle
returns-in_err-deleted-clause-idle g c none =
    let chosen = is_counted c.args.views.now 1 in
    let all = map (index_name c.args.number) c.args.parts.now in
    let a = g.H.Host.view c.args.host.now in
    let b = g.H.Host.view c.loop-part.host in
    let before = at_each chosen all a b (index_name c.args.number) c.args.parts.now c.loop-part.part-index _ c.loop-part-test.true c.loop-part.invariant.so_far in
    let un : is_counted c.args.views.now 1 c.file_name.result ≡ false = subst (λ (f : FileName). is_counted c.args.views.now 1 f ≡ false) (sym c.file_name.ensures) (one_unchosen chosen all a b _ _ before none) in
    c.delete_counted.ensures.idle un ∙ (c.loop-part.invariant.idle none).0
