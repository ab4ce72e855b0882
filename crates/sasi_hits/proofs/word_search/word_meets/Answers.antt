use Rattle.std.proofs.Common.{◌∙◌, ap, refl, subst, sym, arith, Bool, true, Ok}
use Rattle.std.proofs.lemmas.Result.{err_from_is_err_and}
use Rattle.sasi_indexwrite.specs.Content.{IndexContent}
use Rattle.sasi_indexread.specs.Damages.{ShowsIndex}
use Rattle.sasi_indexread.specs.Opened.{OpenIndexFile}
use Rattle.sasi_indexread.specs.Searches.{IsSearching}
use Rattle.sasi_ranges.specs.StreamCalls.{StreamFaults}
use Rattle.sasi_ranges.proofs.Calling.{can_still, fails_nothing, faults_handed, faults_ok, faults_then, streamed_then, streams_nothing}
use Rattle.sasi_hits.specs.declared.meeting.Met.{Met}
use Rattle.sasi_hits.specs.declared.meeting.Met.TheVariants.{NoMore}
use Rattle.sasi_hits.specs.Calls.{ShowsIn}
use Rattle.sasi_hits.specs.WordSearches.{CanFollow, HeadAdvances, IsMetBy}
use Rattle.sasi_hits.proofs.CallLaws.{can_as_file, streamed_as_file}
use Rattle.sasi_hits.proofs.PairLaws.{rank_rises}
use Rattle.sasi_hits.proofs.WordLaws.{asked_same, asked_then, follows_end, follows_met, follows_on, met_again}
use Rattle.sasi_hits.proofs.word_search.word_meets.Goals as goal

pub pairs-init : goal.pairs-init
pairs-init g c =
    let v = g.H.Host.view c.args.host.now in
    record {
      can = c.requires.read;
      follow = c.requires.can;
      searching = λ content is. is;
      follows = λ content is. is;
      pays = λ content is. omega arith;
      read = streams_nothing _ _ _ v c.requires.read.agrees;
      faults = fails_nothing _ _ v 0;
      asked = asked_same c.args.word.now.search;
    }

pub advance-requires-clause-read : goal.advance-requires-clause-read
advance-requires-clause-read g c =
    can_as_file _ (g.H.Host.view c.pairs.host) c.args.word.now.search.index.file c.pairs.word.search.index.file (ap (λ (o : OpenIndexFile). o.file) c.pairs.invariant.asked.index) c.pairs.invariant.can

pub advance-requires-clause-can : goal.advance-requires-clause-can
advance-requires-clause-can g c =
    let follow = c.pairs.invariant.follow in
    record { can = follow.can; index_is = refl; last_is = follow.last_is; floor_is = follow.floor_is }

pub returns-in_err-advance-clause-read : goal.returns-in_err-advance-clause-read
returns-in_err-advance-clause-read g c =
    let inv = c.pairs.invariant in
    streamed_then _ _ _ _ _ _ _ _ (g.H.Host.view c.args.host.now) (g.H.Host.view c.pairs.host) (g.H.Host.view c.advance.new.host) inv.read
    (streamed_as_file _ _ _ _ _ c.args.word.now.search.index.file c.pairs.word.search.index.file (ap (λ (o : OpenIndexFile). o.file) inv.asked.index) c.advance.ensures.read)

pub returns-in_err-advance-clause-faults : goal.returns-in_err-advance-clause-faults
returns-in_err-advance-clause-faults g c =
    let p = err_from_is_err_and c.from_residual.result c.from_residual.ensures.1 in
    let u = g.H.Host.view c.args.host.now in
    let v = g.H.Host.view c.pairs.host in
    let w = g.H.Host.view c.advance.new.host in
    let inv = c.pairs.invariant in
    rw (p.1, p.2) (faults_then _ _ _ _ _ u v w 0 _ (λ content is. (content, inv.searching content is)) inv.faults
    (faults_handed _ _ _ _ v w c.advance.result c.in_err-advance.field-0.0 c.in_err-advance.was (λ content is. (content, is))
    (subst (λ (o : OpenIndexFile). StreamFaults (ShowsIn o.file (ShowsIndex o) v.files) (ShowsIn o.file (ShowsIndex o) w.files) (IsSearching v c.pairs.word.search) v w c.advance.result) inv.asked.index c.advance.ensures.faults)))

pub returns-then-not-branch-clause-meets : goal.returns-then-not-branch-clause-meets
returns-then-not-branch-clause-meets g c content is =
    let inv = c.pairs.invariant in
    let v = g.H.Host.view c.pairs.host in
    let w = g.H.Host.view c.advance.new.host in
    let was = inv.follows content is in
    let adv = c.in_ok-advance.ensures.gives content was.searching in
    let ended = follows_end v w content c.args.pair c.pairs.word c.advance.new.word (sym c.has_come_to.ensures ∙ c.pairs-test.true) c.advance.ensures.asked
    (subst (λ (b : Bool). HeadAdvances content c.pairs.word.search c.pairs.word.head c.advance.new.word.head b) c.if-not-branch.true adv.0) adv.1 was in
    (met_again content c.args.word.now.search c.pairs.word.search c.args.pair NoMore inv.asked ended.0, ended.1)

pub returns-then-not-branch-clause-read : goal.returns-then-not-branch-clause-read
returns-then-not-branch-clause-read g c =
    let inv = c.pairs.invariant in
    streamed_then _ _ _ _ _ _ _ _ (g.H.Host.view c.args.host.now) (g.H.Host.view c.pairs.host) (g.H.Host.view c.advance.new.host) inv.read
    (streamed_as_file _ _ _ _ _ c.args.word.now.search.index.file c.pairs.word.search.index.file (ap (λ (o : OpenIndexFile). o.file) inv.asked.index) c.advance.ensures.read)

pub returns-then-not-branch-clause-faults : goal.returns-then-not-branch-clause-faults
returns-then-not-branch-clause-faults g c =
    let u = g.H.Host.view c.args.host.now in
    let v = g.H.Host.view c.pairs.host in
    let w = g.H.Host.view c.advance.new.host in
    let inv = c.pairs.invariant in
    faults_ok _ _ _ _ u w _ _ (faults_then _ _ _ _ _ u v w 0 _ (λ content is. (content, inv.searching content is)) inv.faults
    (subst (λ (o : OpenIndexFile). StreamFaults (ShowsIn o.file (ShowsIndex o) v.files) (ShowsIn o.file (ShowsIndex o) w.files) (IsSearching v c.pairs.word.search) v w (Ok c.in_ok-advance.field-0)) inv.asked.index c.in_ok-advance.ensures.faults))

pub pairs-smaller : goal.pairs-smaller
pairs-smaller g c =
    let rises = rank_rises c.pairs.word.head c.advance.new.word.head (c.in_ok-advance.ensures.rises c.if-not-branch.false) in
    omega (arith, rises.0, rises.1)

pub pairs-preserved : goal.pairs-preserved
pairs-preserved g c =
    let u = g.H.Host.view c.args.host.now in
    let v = g.H.Host.view c.pairs.host in
    let w = g.H.Host.view c.advance.new.host in
    let inv = c.pairs.invariant in
    let now = c.advance.new.word in
    let read = streamed_as_file _ _ _ v w c.args.word.now.search.index.file c.pairs.word.search.index.file (ap (λ (o : OpenIndexFile). o.file) inv.asked.index) c.advance.ensures.read in
    let goes : (content : IndexContent) → IsSearching v c.pairs.word.search content → HeadAdvances content c.pairs.word.search c.pairs.word.head now.head true × IsSearching w now.search content = λ content is.
    subst (λ (b : Bool). HeadAdvances content c.pairs.word.search c.pairs.word.head now.head b × IsSearching w now.search content) c.if-not-branch.false (c.in_ok-advance.ensures.gives content is) in
    record {
      can = can_still _ _ _ _ _ _ v w inv.can read;
      follow = subst (λ (o : OpenIndexFile). CanFollow w o now) inv.asked.index c.in_ok-advance.ensures.can;
      searching = λ content is. (goes content (inv.searching content is)).1;
      follows = λ content is.
          let was = inv.follows content is in
          let adv = goes content was.searching in
          follows_on v w content c.args.pair c.pairs.word now (sym c.has_come_to.ensures ∙ c.pairs-test.true) c.advance.ensures.asked adv.0 adv.1 was;
      pays = λ content is. (let spent = c.in_ok-advance.ensures.reads content (inv.searching content is) in omega (arith, spent, inv.pays content is));
      read = streamed_then _ _ _ _ _ _ _ _ u v w inv.read read;
      faults = faults_ok _ _ _ _ u w _ 0 (faults_then _ _ _ _ _ u v w 0 _ (λ content is. (content, inv.searching content is)) inv.faults
          (subst (λ (o : OpenIndexFile). StreamFaults (ShowsIn o.file (ShowsIndex o) v.files) (ShowsIn o.file (ShowsIndex o) w.files) (IsSearching v c.pairs.word.search) v w (Ok c.in_ok-advance.field-0)) inv.asked.index c.in_ok-advance.ensures.faults));
      asked = asked_then c.args.word.now.search c.pairs.word.search now.search inv.asked c.advance.ensures.asked;
    }

pub returns-clause-meets : goal.returns-clause-meets
returns-clause-meets g c content is =
    let inv = c.pairs.invariant in
    let was = inv.follows content is in (
      met_again content c.args.word.now.search c.pairs.word.search c.args.pair _ inv.asked
          (subst (λ (m : Met). IsMetBy content c.pairs.word.search c.args.pair m) (sym c.met_at.ensures) (follows_met (g.H.Host.view c.pairs.host) content c.args.pair c.pairs.word (sym c.has_come_to.ensures ∙ c.pairs-test.false) was)),
      was,
    )
