use Rattle.std.proofs.Common.{ℕ, List, subst, arith}
use Rattle.std.proofs.lemmas.Result.{err_from_is_err_and}
use Rattle.sasi_ranges.proofs.Calling.{can_still, fails_nothing, faults_handed, faults_memory, faults_ok, faults_then, streamed_then, streams_nothing}
use Rattle.sasi_engine.specs.inside.Steps.{SourceLeaves, SourceOpens, SourceOwes, SourceShows, StepGives, StepPrintable}
use Rattle.sasi_engine.proofs.HandLaws.{same_hand, same_then}
use Rattle.sasi_engine.proofs.OwingLaws.{owes_within}
use Rattle.sasi_engine.proofs.StepLaws.{kind_still, step_ends, step_fails, step_finds, step_passes}
use Rattle.sasi_engine.proofs.step.next_candidate.Goals as goal

pub loop-turn-init : goal.loop-turn-init
loop-turn-init g c =
    let v = g.H.Host.view c.args.host.now in
    let S = g.S.TokenStream in
    record {
      can = c.requires.read;
      hits_ready = c.requires.hits_ready;
      ready = c.requires.ready;
      same = same_hand c.args.hand.now;
      left = λ left is. is;
      paid = λ most prices pays. (most, 0, pays, omega arith);
      read = streams_nothing _ _ (SourceOpens (S.opens c.args.hits.now) c.args.hand.now) v c.requires.read.agrees;
      faults = λ n. fails_nothing (SourceShows (S.shows c.args.hits.now v.files) c.args.hand.now v.files) (SourceLeaves (S.leaves c.args.hits.now v.files) c.args.ahead.now c.args.hand.now v.files c.args.maps.now) v n;
      shows_less = λ files damage is. is;
    }

-- ---- a step that fails

pub returns-in_err-step-clause-reads : goal.returns-in_err-step-clause-reads
returns-in_err-step-clause-reads g c most prices pays =
    let q = err_from_is_err_and c.from_residual.result c.from_residual.ensures.1 in
    let u = g.H.Host.view c.args.host.now in
    let v = g.H.Host.view c.loop-turn.host in
    let w = g.H.Host.view c.step.new.host in
    let Pays : ℕ → ℕ → List ℕ → Type 0 = SourceOwes (g.S.TokenStream.leaves c.step.new.hits w.files) (g.S.TokenStream.pays c.step.new.hits w.files) c.step.new.ahead c.step.new.hand w.files c.args.maps.now in
    let paid = c.loop-turn.invariant.paid most prices pays in
    rw q.1 (step_fails Pays most paid.0 paid.1 prices u.reads v.reads w.reads c.step.result c.in_err-step.field-0.0 c.in_err-step.was paid.3 (c.step.ensures.reads paid.0 paid.1 prices paid.2))

pub returns-in_err-step-clause-same : goal.returns-in_err-step-clause-same
returns-in_err-step-clause-same g c = same_then c.args.hand.now c.loop-turn.hand c.step.new.hand c.loop-turn.invariant.same c.step.ensures.same

pub returns-in_err-step-clause-read : goal.returns-in_err-step-clause-read
returns-in_err-step-clause-read g c =
    streamed_then _ _ _ _ _ _ _ _ (g.H.Host.view c.args.host.now) (g.H.Host.view c.loop-turn.host) (g.H.Host.view c.step.new.host) c.loop-turn.invariant.read c.step.ensures.read

pub returns-in_err-step-clause-faults : goal.returns-in_err-step-clause-faults
returns-in_err-step-clause-faults g c =
    let q = err_from_is_err_and c.from_residual.result c.from_residual.ensures.1 in
    let on = c.loop-turn.invariant in
    let u = g.H.Host.view c.args.host.now in
    let v = g.H.Host.view c.loop-turn.host in
    let w = g.H.Host.view c.step.new.host in
    rw (q.1, q.2) (faults_then _ _ _ _ _ u v w 0 _ (λ left is. (left, on.left left is)) (on.faults 0)
    (faults_handed _ _ _ _ v w c.step.result c.in_err-step.field-0.0 c.in_err-step.was (λ left is. (left, is)) c.step.ensures.faults))

-- ---- the end, or a candidate

pub returns-in-Ended-clause-gives : goal.returns-in-Ended-clause-gives
returns-in-Ended-clause-gives g c left is =
    let w = g.H.Host.view c.step.new.host in
    subst (StepGives (SourceLeaves (g.S.TokenStream.leaves c.step.new.hits w.files) c.step.new.ahead c.step.new.hand w.files c.args.maps.now) left) c.in-Ended.is (c.in_ok-step.ensures.gives left (c.loop-turn.invariant.left left is))

pub returns-in-Ended-clause-reads : goal.returns-in-Ended-clause-reads
returns-in-Ended-clause-reads g c most prices pays =
    let u = g.H.Host.view c.args.host.now in
    let v = g.H.Host.view c.loop-turn.host in
    let w = g.H.Host.view c.step.new.host in
    let Pays : ℕ → ℕ → List ℕ → Type 0 = SourceOwes (g.S.TokenStream.leaves c.step.new.hits w.files) (g.S.TokenStream.pays c.step.new.hits w.files) c.step.new.ahead c.step.new.hand w.files c.args.maps.now in
    let paid = c.loop-turn.invariant.paid most prices pays in
    step_ends Pays most paid.0 paid.1 prices u.reads v.reads w.reads c.in_ok-step.field-0 c.in-Ended.is paid.3 (c.in_ok-step.ensures.reads paid.0 paid.1 prices paid.2)

pub returns-in-Ended-clause-same : goal.returns-in-Ended-clause-same
returns-in-Ended-clause-same g c = same_then c.args.hand.now c.loop-turn.hand c.step.new.hand c.loop-turn.invariant.same c.step.ensures.same

pub returns-in-Ended-clause-read : goal.returns-in-Ended-clause-read
returns-in-Ended-clause-read g c =
    streamed_then _ _ _ _ _ _ _ _ (g.H.Host.view c.args.host.now) (g.H.Host.view c.loop-turn.host) (g.H.Host.view c.step.new.host) c.loop-turn.invariant.read c.step.ensures.read

pub returns-in-Ended-clause-faults : goal.returns-in-Ended-clause-faults
returns-in-Ended-clause-faults g c =
    let on = c.loop-turn.invariant in
    let u = g.H.Host.view c.args.host.now in
    let v = g.H.Host.view c.loop-turn.host in
    let w = g.H.Host.view c.step.new.host in
    faults_ok _ _ _ _ u w c.in_ok-step.field-0 _ (faults_then _ _ _ _ _ u v w 0 _ (λ left is. (left, on.left left is)) (on.faults 0) c.in_ok-step.ensures.faults)

pub returns-in-Found-clause-gives : goal.returns-in-Found-clause-gives
returns-in-Found-clause-gives g c left is =
    let w = g.H.Host.view c.step.new.host in
    subst (StepGives (SourceLeaves (g.S.TokenStream.leaves c.step.new.hits w.files) c.step.new.ahead c.step.new.hand w.files c.args.maps.now) left) c.in-Found.is (c.in_ok-step.ensures.gives left (c.loop-turn.invariant.left left is))

pub returns-in-Found-clause-reads : goal.returns-in-Found-clause-reads
returns-in-Found-clause-reads g c most prices pays =
    let u = g.H.Host.view c.args.host.now in
    let v = g.H.Host.view c.loop-turn.host in
    let w = g.H.Host.view c.step.new.host in
    let Pays : ℕ → ℕ → List ℕ → Type 0 = SourceOwes (g.S.TokenStream.leaves c.step.new.hits w.files) (g.S.TokenStream.pays c.step.new.hits w.files) c.step.new.ahead c.step.new.hand w.files c.args.maps.now in
    let paid = c.loop-turn.invariant.paid most prices pays in
    step_finds Pays most paid.0 paid.1 prices u.reads v.reads w.reads c.in_ok-step.field-0 c.in-Found.key c.in-Found.part c.in-Found.is paid.3 (c.in_ok-step.ensures.reads paid.0 paid.1 prices paid.2)

pub returns-in-Found-clause-same : goal.returns-in-Found-clause-same
returns-in-Found-clause-same g c = same_then c.args.hand.now c.loop-turn.hand c.step.new.hand c.loop-turn.invariant.same c.step.ensures.same

pub returns-in-Found-clause-prints : goal.returns-in-Found-clause-prints
returns-in-Found-clause-prints g c kind has =
    subst (StepPrintable kind) c.in-Found.is (c.in_ok-step.ensures.prints kind (kind_still c.args.hand.now c.loop-turn.hand c.args.maps.now kind c.loop-turn.invariant.same has))

pub returns-in-Found-clause-read : goal.returns-in-Found-clause-read
returns-in-Found-clause-read g c =
    streamed_then _ _ _ _ _ _ _ _ (g.H.Host.view c.args.host.now) (g.H.Host.view c.loop-turn.host) (g.H.Host.view c.step.new.host) c.loop-turn.invariant.read c.step.ensures.read

pub returns-in-Found-clause-faults : goal.returns-in-Found-clause-faults
returns-in-Found-clause-faults g c =
    let on = c.loop-turn.invariant in
    let u = g.H.Host.view c.args.host.now in
    let v = g.H.Host.view c.loop-turn.host in
    let w = g.H.Host.view c.step.new.host in
    faults_ok _ _ _ _ u w c.in_ok-step.field-0 _ (faults_then _ _ _ _ _ u v w 0 _ (λ left is. (left, on.left left is)) (on.faults 0) c.in_ok-step.ensures.faults)

-- ---- another turn

pub loop-turn-preserved : goal.loop-turn-preserved
loop-turn-preserved g c =
    let on = c.loop-turn.invariant in
    let S = g.S.TokenStream in
    let u = g.H.Host.view c.args.host.now in
    let v = g.H.Host.view c.loop-turn.host in
    let w = g.H.Host.view c.step.new.host in
    record {
      can = can_still _ _ _ _ _ _ v w on.can c.step.ensures.read;
      hits_ready = c.in_ok-step.ensures.hits_ready;
      ready = c.step.ensures.ready;
      same = same_then c.args.hand.now c.loop-turn.hand c.step.new.hand on.same c.step.ensures.same;
      left = λ left is. subst (StepGives (SourceLeaves (S.leaves c.step.new.hits w.files) c.step.new.ahead c.step.new.hand w.files c.args.maps.now) left) c.in-Passed.is (c.in_ok-step.ensures.gives left (on.left left is));
      paid = λ most prices pays.
          let paid = on.paid most prices pays in
          step_passes (SourceOwes (S.leaves c.step.new.hits w.files) (S.pays c.step.new.hits w.files) c.step.new.ahead c.step.new.hand w.files c.args.maps.now) most paid.0 paid.1 prices u.reads v.reads w.reads c.in_ok-step.field-0 c.in-Passed.is paid.3 (c.in_ok-step.ensures.reads paid.0 paid.1 prices paid.2);
      read = streamed_then _ _ _ _ _ _ _ _ u v w on.read c.step.ensures.read;
      faults = λ n. faults_ok _ _ _ _ u w c.in_ok-step.field-0 n (faults_then _ _ _ _ _ u v w 0 _ (λ left is. (left, on.left left is)) (on.faults 0) c.in_ok-step.ensures.faults);
      shows_less = λ files damage is. on.shows_less files damage (c.step.ensures.hits_show_less files damage is);
    }

-- ---- more turns than there are

pub returns-clause-reads : goal.returns-clause-reads
returns-clause-reads g c most prices pays =
    let paid = c.loop-turn.invariant.paid most prices pays in
    let owing = paid.2.1 in
    omega (arith, paid.3, owes_within paid.2.0 paid.1 c.loop-turn.hand.token owing.is_left.rows owing.is_left.groups prices owing.owes)

pub returns-clause-faults : goal.returns-clause-faults
returns-clause-faults g c = faults_memory _ _ _ _ (g.H.Host.view c.args.host.now) (g.H.Host.view c.loop-turn.host) 0 (c.loop-turn.invariant.faults 0)
