use Rattle.std.proofs.Common.{◌≡◌, [], ◌∷◌, ◌∙◌, List, ap, arith, length, refl, subst, sym}
use Rattle.std.specs.List.{AllByRecursion}
use Rattle.std.specs.Vec.Iter.{into_iter_items}
use Rattle.sasi_host.specs.Disk.{Changes, Same, Within}
use Rattle.sasi_host.proofs.ChangeLaws.{stays}
use Rattle.sasi_tasks.specs.Running.{AreApart, CanGiveUpAll, IsGone, is_begun}
use Rattle.sasi_tasks.specs.declared.running.RunningTask.{RunningTask}
use Rattle.sasi_tasks.proofs.GivingUp.{all_given, given_changes, given_on, next_can, none_given, nothing_left}
use Rattle.sasi_tasks.proofs.giving_up.give_up.Goals as goal

pub loop-running-init : goal.loop-running-init
loop-running-init g c =
    let start = c.into_iter-running-iterator.result in
    let gives = c.into_iter-running-iterator.ensures.into_iter_gives in
    record {
      on = none_given (into_iter_items start) (g.H.Host.view c.args.host.now) (subst AreApart (sym gives.0) c.requires.apart) (subst (CanGiveUpAll (g.H.Host.view c.args.host.now)) (sym gives.0) c.requires.can);
      idle = λ none. (refl, none);
      count = let same = ap length gives.0 in omega (arith, gives.1, same, c.args.tasks.ok.0);
    }

pub give_up-requires : goal.give_up-requires
give_up-requires g c = next_can _ _ (g.H.Host.view c.args.host.now) (g.H.Host.view c.loop-running.host) c.loop-running.invariant.on c.in-Some.running _ c.in-Some.ensures.steps.0

pub returns-in_err-give_up-clause-changes : goal.returns-in_err-give_up-clause-changes
returns-in_err-give_up-clause-changes g c =
    let b = g.H.Host.view c.loop-running.host in
    subst (λ (l : List RunningTask). Changes (Within (is_begun l)) (g.H.Host.view c.args.host.now) (g.H.Host.view c.give_up.new.host)) c.into_iter-running-iterator.ensures.into_iter_gives.0
    (given_changes _ _ (g.H.Host.view c.args.host.now) b c.loop-running.invariant.on c.in-Some.running _ c.in-Some.ensures.steps.0 (g.H.Host.view c.give_up.new.host) c.give_up.ensures.changes
    (λ none. subst (λ h. Changes Same b (g.H.Host.view h)) (sym (c.give_up.ensures.idle none)) (stays b)))

pub returns-in_err-give_up-clause-idle : goal.returns-in_err-give_up-clause-idle
returns-in_err-give_up-clause-idle g c none =
    let both : c.in-Some.running ∷ into_iter_items c.next.new.self ≡ [] = sym c.in-Some.ensures.steps.0 ∙ (c.loop-running.invariant.idle (c.into_iter-running-iterator.ensures.into_iter_gives.0 ∙ none)).1 in
    cc

pub loop-running-preserved : goal.loop-running-preserved
loop-running-preserved g c =
    let b = g.H.Host.view c.loop-running.host in
    let steps : into_iter_items c.loop-running.running-iterator ≡ c.in-Some.running ∷ into_iter_items c.next.new.self = c.in-Some.ensures.steps.0 in
    record {
      on = given_on _ _ (g.H.Host.view c.args.host.now) b c.loop-running.invariant.on c.in-Some.running _ steps (g.H.Host.view c.give_up.new.host) c.give_up.ensures.changes
          (λ none. subst (λ h. Changes Same b (g.H.Host.view h)) (sym (c.give_up.ensures.idle none)) (stays b))
          c.in_ok-give_up.ensures.gone c.in_ok-give_up.ensures.causes.ok c.give_up.ensures.causes.out c.give_up.ensures.causes.reads;
      idle = λ none. (let both : c.in-Some.running ∷ into_iter_items c.next.new.self ≡ [] = sym steps ∙ (c.loop-running.invariant.idle none).1 in cc);
      count = let gone = c.in-Some.ensures.steps.1 in let short = ap length steps in omega (arith, c.loop-running.invariant.count, gone, short);
    }

pub returns-clause-gone : goal.returns-clause-gone
returns-clause-gone g c =
    let b = g.H.Host.view c.loop-running.host in
    subst (AllByRecursion (IsGone b)) c.into_iter-running-iterator.ensures.into_iter_gives.0
    (all_given _ _ (g.H.Host.view c.args.host.now) b c.loop-running.invariant.on (nothing_left _ (sym c.loop-running.invariant.count ∙ c.in-None.ensures.steps.0)))

pub returns-clause-idle : goal.returns-clause-idle
returns-clause-idle g c none = (c.loop-running.invariant.idle (c.into_iter-running-iterator.ensures.into_iter_gives.0 ∙ none)).0

pub returns-clause-changes : goal.returns-clause-changes
returns-clause-changes g c =
    subst (λ (l : List RunningTask). Changes (Within (is_begun l)) (g.H.Host.view c.args.host.now) (g.H.Host.view c.loop-running.host)) c.into_iter-running-iterator.ensures.into_iter_gives.0 c.loop-running.invariant.on.changes
