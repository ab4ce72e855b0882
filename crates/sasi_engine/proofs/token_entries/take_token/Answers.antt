use Rattle.std.proofs.Common.{◌≡◌, ℕ, Option, Some, refl, subst, arith}
use Rattle.std.proofs.lemmas.Bool.Decides.{nat_tests}
use Rattle.std.proofs.lemmas.Result.{err_from_is_err_and}
use Rattle.sasi_ranges.specs.declared.entry.Entry.{Entry}
use Rattle.sasi_ranges.specs.StreamCalls.{Gives}
use Rattle.sasi_ranges.proofs.Calling.{can_still, fails_nothing, faults_handed, faults_memory, faults_ok, faults_then, streamed_then, streams_nothing}
use Rattle.sasi_engine.proofs.TokenTaking.{taken_none, taken_one}
use Rattle.sasi_engine.proofs.token_entries.take_token.Goals as goal

pub loop-turn-init : goal.loop-turn-init
loop-turn-init g c =
    let v = g.H.Host.view c.args.host.now in
    let S = g.S.TokenStream in
    record {
      can = c.requires.read;
      ready = c.requires.ready;
      taken = λ es is. taken_none (S.leaves c.args.hits.now v.files) c.args.token c.args.entries.now.items es is;
      paid = λ most pays. (most, pays, omega arith);
      read = streams_nothing _ _ (S.opens c.args.hits.now) v c.requires.read.agrees;
      faults = λ n. fails_nothing (S.shows c.args.hits.now v.files) (S.leaves c.args.hits.now v.files) v n;
      shows_less = λ files damage is. is;
    }

-- ---- a stream that fails

pub returns-in_err-entry-clause-read : goal.returns-in_err-entry-clause-read
returns-in_err-entry-clause-read g c =
    streamed_then _ _ _ _ _ _ _ _ (g.H.Host.view c.args.host.now) (g.H.Host.view c.loop-turn.host) (g.H.Host.view c.next.new.host) c.loop-turn.invariant.read c.next.ensures.read

pub returns-in_err-entry-clause-faults : goal.returns-in_err-entry-clause-faults
returns-in_err-entry-clause-faults g c =
    let q = err_from_is_err_and c.from_residual.result c.from_residual.ensures.1 in
    let on = c.loop-turn.invariant in
    let u = g.H.Host.view c.args.host.now in
    let v = g.H.Host.view c.loop-turn.host in
    let w = g.H.Host.view c.next.new.host in
    rw (q.1, q.2) (faults_then _ _ _ _ _ u v w 0 _ (λ es is. (let taken = on.taken es is in (taken.behind, taken.left))) (on.faults 0)
    (faults_handed _ _ _ _ v w c.next.result c.in_err-entry.field-0.0 c.in_err-entry.was (λ es is. (es, is)) c.next.ensures.faults))

-- ---- the end

pub returns-in_default-clause-read : goal.returns-in_default-clause-read
returns-in_default-clause-read g c =
    streamed_then _ _ _ _ _ _ _ _ (g.H.Host.view c.args.host.now) (g.H.Host.view c.loop-turn.host) (g.H.Host.view c.next.new.host) c.loop-turn.invariant.read c.next.ensures.read

pub returns-in_default-clause-faults : goal.returns-in_default-clause-faults
returns-in_default-clause-faults g c =
    let on = c.loop-turn.invariant in
    let u = g.H.Host.view c.args.host.now in
    let v = g.H.Host.view c.loop-turn.host in
    let w = g.H.Host.view c.next.new.host in
    faults_ok _ _ _ _ u w c.in_ok-entry.field-0 _ (faults_then _ _ _ _ _ u v w 0 _ (λ es is. (let taken = on.taken es is in (taken.behind, taken.left))) (on.faults 0) c.in_ok-entry.ensures.faults)

-- ---- an entry of another token

pub returns-then-entry-token-clause-read : goal.returns-then-entry-token-clause-read
returns-then-entry-token-clause-read g c =
    streamed_then _ _ _ _ _ _ _ _ (g.H.Host.view c.args.host.now) (g.H.Host.view c.loop-turn.host) (g.H.Host.view c.next.new.host) c.loop-turn.invariant.read c.next.ensures.read

pub returns-then-entry-token-clause-faults : goal.returns-then-entry-token-clause-faults
returns-then-entry-token-clause-faults g c =
    let on = c.loop-turn.invariant in
    let u = g.H.Host.view c.args.host.now in
    let v = g.H.Host.view c.loop-turn.host in
    let w = g.H.Host.view c.next.new.host in
    faults_ok _ _ _ _ u w c.in_ok-entry.field-0 _ (faults_then _ _ _ _ _ u v w 0 _ (λ es is. (let taken = on.taken es is in (taken.behind, taken.left))) (on.faults 0) c.in_ok-entry.ensures.faults)

-- ---- an entry of the token

pub returns-in_err-add_entry-clause-read : goal.returns-in_err-add_entry-clause-read
returns-in_err-add_entry-clause-read g c =
    streamed_then _ _ _ _ _ _ _ _ (g.H.Host.view c.args.host.now) (g.H.Host.view c.loop-turn.host) (g.H.Host.view c.next.new.host) c.loop-turn.invariant.read c.next.ensures.read

pub returns-in_err-add_entry-clause-faults : goal.returns-in_err-add_entry-clause-faults
returns-in_err-add_entry-clause-faults g c =
    let q = err_from_is_err_and c.from_residual-in_err-add_entry.result c.from_residual-in_err-add_entry.ensures.1 in
    let on = c.loop-turn.invariant in
    let u = g.H.Host.view c.args.host.now in
    let v = g.H.Host.view c.loop-turn.host in
    let w = g.H.Host.view c.next.new.host in
    rw (q.1, q.2) (faults_memory _ _ _ _ u w c.in_ok-entry.field-0 (faults_then _ _ _ _ _ u v w 0 _ (λ es is. (let taken = on.taken es is in (taken.behind, taken.left))) (on.faults 0) c.in_ok-entry.ensures.faults))

pub loop-turn-preserved : goal.loop-turn-preserved
loop-turn-preserved g c =
    let on = c.loop-turn.invariant in
    let S = g.S.TokenStream in
    let u = g.H.Host.view c.args.host.now in
    let v = g.H.Host.view c.loop-turn.host in
    let w = g.H.Host.view c.next.new.host in
    let same : c.in-Some.entry.token ≡ c.args.token = grind (arith, nat_tests, c.if-entry-token.false) in
    record {
      can = can_still _ _ _ _ _ _ v w on.can c.next.ensures.read;
      ready = c.in_ok-entry.ensures.ready;
      taken = λ es is.
          let taken = on.taken es is in
          let gives = subst (λ (o : Option Entry). Gives (S.leaves c.next.new.self w.files) taken.behind o) c.in-Some.is (c.in_ok-entry.ensures.gives taken.behind taken.left) in
          taken_one (S.leaves c.loop-turn.hits v.files) (S.leaves c.next.new.self w.files) c.args.token c.args.entries.now.items c.loop-turn.entries.items _ es c.in-Some.entry taken gives same c.in_ok-add_entry.ensures;
      paid = λ most pays.
          let paid = on.paid most pays in
          let one = c.in_ok-entry.ensures.reads paid.0 paid.1 in (one.0, one.1, omega (arith, one.2, paid.2));
      read = streamed_then _ _ _ _ _ _ _ _ u v w on.read c.next.ensures.read;
      faults = λ n. faults_ok _ _ _ _ u w c.in_ok-entry.field-0 n (faults_then _ _ _ _ _ u v w 0 _ (λ es is. (let taken = on.taken es is in (taken.behind, taken.left))) (on.faults 0) c.in_ok-entry.ensures.faults);
      shows_less = λ files damage is. on.shows_less files damage (c.next.ensures.shows_less files damage is);
    }

-- ---- more turns than there are

pub returns-clause-faults : goal.returns-clause-faults
returns-clause-faults g c = faults_memory _ _ _ _ (g.H.Host.view c.args.host.now) (g.H.Host.view c.loop-turn.host) 0 (c.loop-turn.invariant.faults 0)
