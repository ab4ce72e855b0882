use Rattle.std.proofs.Common.{◌∙◌, ap, refl, subst, arith, Ok, Result}
use Rattle.std.proofs.lemmas.Result.{err_from_is_err_and}
use Rattle.sasi_host.specs.declared.fault.ReadFault.{ReadFault}
use Rattle.sasi_treemerge.specs.Merges.{SpendsReads}
use Rattle.sasi_indexread.specs.Damages.{ShowsIndex}
use Rattle.sasi_indexread.specs.Opened.{OpenIndexFile}
use Rattle.sasi_ranges.specs.StreamCalls.{StreamFaults}
use Rattle.sasi_ranges.proofs.Calling.{can_still, fails_nothing, faults_handed, faults_ok, faults_then, streamed_then, streams_nothing}
use Rattle.sasi_hits.specs.declared.meeting.Turn.{Turn}
use Rattle.sasi_hits.specs.Calls.{IsFile, ShowsIn}
use Rattle.sasi_hits.specs.HitPairs.{AreHits}
use Rattle.sasi_hits.specs.WordSearches.{AskedOf, TurnGives, words_cost}
use Rattle.sasi_hits.proofs.CallLaws.{can_as_file, streamed_as_file}
use Rattle.sasi_hits.proofs.PairLaws.{rank_rises}
use Rattle.sasi_hits.proofs.meeting.next_hit.Goals as goal

pub pairs-init : goal.pairs-init
pairs-init g c =
    let v = g.H.Host.view c.args.host.now in
    record {
      can = c.requires.read;
      meet = c.requires.can;
      searching = λ op words content is. is;
      hits = λ op words content left is are. are;
      pays = λ op words content is. omega arith;
      read = streams_nothing _ _ (IsFile c.args.first.now.index.file) v c.requires.read.agrees;
      faults = fails_nothing (ShowsIn c.args.first.now.index.file (ShowsIndex c.args.first.now.index) v.files) (AskedOf v c.args.first.now c.args.others.now) v 0;
      index_is = refl;
    }

pub take_turn-requires-clause-read : goal.take_turn-requires-clause-read
take_turn-requires-clause-read g c =
    can_as_file _ (g.H.Host.view c.pairs.host) c.args.first.now.index.file c.pairs.first.index.file (ap (λ (o : OpenIndexFile). o.file) c.pairs.invariant.index_is) c.pairs.invariant.can

pub take_turn-requires-clause-can : goal.take_turn-requires-clause-can
take_turn-requires-clause-can g c = c.pairs.invariant.meet

pub returns-in_err-pair-clause-reads : goal.returns-in_err-pair-clause-reads
returns-in_err-pair-clause-reads g c op words content is =
    let p = err_from_is_err_and c.from_residual.result c.from_residual.ensures.1 in
    let v = g.H.Host.view c.pairs.host in
    let w = g.H.Host.view c.take_turn.new.host in
    let inv = c.pairs.invariant in
    let one = subst (λ (r : Result Turn ReadFault). SpendsReads v w (words_cost content c.pairs.first c.pairs.others) (words_cost content c.take_turn.new.first c.take_turn.new.others) r) c.in_err-pair.was
    (c.take_turn.ensures.reads op words content (inv.searching op words content is)) in
    rw p.1 (omega (arith, one, inv.pays op words content is))

pub returns-in_err-pair-clause-read : goal.returns-in_err-pair-clause-read
returns-in_err-pair-clause-read g c =
    let u = g.H.Host.view c.args.host.now in
    let v = g.H.Host.view c.pairs.host in
    let w = g.H.Host.view c.take_turn.new.host in
    let inv = c.pairs.invariant in
    let file = ap (λ (o : OpenIndexFile). o.file) inv.index_is in
    let read = streamed_as_file _ _ _ v w c.args.first.now.index.file c.pairs.first.index.file file c.take_turn.ensures.read in
    streamed_then _ _ _ _ _ _ _ _ u v w inv.read read

pub returns-in_err-pair-clause-faults : goal.returns-in_err-pair-clause-faults
returns-in_err-pair-clause-faults g c =
    let p = err_from_is_err_and c.from_residual.result c.from_residual.ensures.1 in
    let u = g.H.Host.view c.args.host.now in
    let v = g.H.Host.view c.pairs.host in
    let w = g.H.Host.view c.take_turn.new.host in
    let inv = c.pairs.invariant in
    rw (p.1, p.2) (faults_then _ _ _ _ _ u v w 0 _ (λ content is. (content, (is.0, is.1, inv.searching is.0 is.1 content is.2))) inv.faults
    (faults_handed _ _ _ _ v w c.take_turn.result c.in_err-pair.field-0.0 c.in_err-pair.was (λ content is. (content, is))
    (subst (λ (o : OpenIndexFile). StreamFaults (ShowsIn o.file (ShowsIndex o) v.files) (ShowsIn o.file (ShowsIndex o) w.files) (AskedOf v c.pairs.first c.pairs.others) v w c.take_turn.result) inv.index_is c.take_turn.ensures.faults)))

pub returns-in_err-pair-clause-index : goal.returns-in_err-pair-clause-index
returns-in_err-pair-clause-index g c =
    let inv = c.pairs.invariant in
    c.take_turn.ensures.index ∙ inv.index_is

pub returns-in-Hit-clause-searching : goal.returns-in-Hit-clause-searching
returns-in-Hit-clause-searching g c op words content is =
    let inv = c.pairs.invariant in
    c.in_ok-pair.ensures.searching op words content (inv.searching op words content is)

pub returns-in-Hit-clause-gives : goal.returns-in-Hit-clause-gives
returns-in-Hit-clause-gives g c op words content left is are =
    let inv = c.pairs.invariant in
    subst (λ (t : Turn). TurnGives (AreHits content op words c.take_turn.new.first.merge.last c.args.floor) left t) c.in-Hit.is
    (c.in_ok-pair.ensures.gives op words content left (inv.searching op words content is) (inv.hits op words content left is are))

pub returns-in-Hit-clause-reads : goal.returns-in-Hit-clause-reads
returns-in-Hit-clause-reads g c op words content is =
    let inv = c.pairs.invariant in
    (let one = c.in_ok-pair.ensures.reads op words content (inv.searching op words content is) in omega (arith, one, inv.pays op words content is))

pub returns-in-Hit-clause-can : goal.returns-in-Hit-clause-can
returns-in-Hit-clause-can g c =
    c.in_ok-pair.ensures.can

pub returns-in-Hit-clause-read : goal.returns-in-Hit-clause-read
returns-in-Hit-clause-read g c =
    let u = g.H.Host.view c.args.host.now in
    let v = g.H.Host.view c.pairs.host in
    let w = g.H.Host.view c.take_turn.new.host in
    let inv = c.pairs.invariant in
    let file = ap (λ (o : OpenIndexFile). o.file) inv.index_is in
    let read = streamed_as_file _ _ _ v w c.args.first.now.index.file c.pairs.first.index.file file c.take_turn.ensures.read in
    streamed_then _ _ _ _ _ _ _ _ u v w inv.read read

pub returns-in-Hit-clause-faults : goal.returns-in-Hit-clause-faults
returns-in-Hit-clause-faults g c =
    let u = g.H.Host.view c.args.host.now in
    let v = g.H.Host.view c.pairs.host in
    let w = g.H.Host.view c.take_turn.new.host in
    let inv = c.pairs.invariant in
    faults_ok _ _ _ _ u w c.in_ok-pair.field-0 _ (faults_then _ _ _ _ _ u v w 0 _ (λ content is. (content, (is.0, is.1, inv.searching is.0 is.1 content is.2))) inv.faults
    (subst (λ (o : OpenIndexFile). StreamFaults (ShowsIn o.file (ShowsIndex o) v.files) (ShowsIn o.file (ShowsIndex o) w.files) (AskedOf v c.pairs.first c.pairs.others) v w (Ok c.in_ok-pair.field-0)) inv.index_is c.in_ok-pair.ensures.faults))

pub returns-in-Hit-clause-index : goal.returns-in-Hit-clause-index
returns-in-Hit-clause-index g c =
    let inv = c.pairs.invariant in
    c.take_turn.ensures.index ∙ inv.index_is

pub returns-in-Ended-clause-searching : goal.returns-in-Ended-clause-searching
returns-in-Ended-clause-searching g c op words content is =
    let inv = c.pairs.invariant in
    c.in_ok-pair.ensures.searching op words content (inv.searching op words content is)

pub returns-in-Ended-clause-gives : goal.returns-in-Ended-clause-gives
returns-in-Ended-clause-gives g c op words content left is are =
    let inv = c.pairs.invariant in
    subst (λ (t : Turn). TurnGives (AreHits content op words c.take_turn.new.first.merge.last c.args.floor) left t) c.in-Ended.is
    (c.in_ok-pair.ensures.gives op words content left (inv.searching op words content is) (inv.hits op words content left is are))

pub returns-in-Ended-clause-reads : goal.returns-in-Ended-clause-reads
returns-in-Ended-clause-reads g c op words content is =
    let inv = c.pairs.invariant in
    (let one = c.in_ok-pair.ensures.reads op words content (inv.searching op words content is) in omega (arith, one, inv.pays op words content is))

pub returns-in-Ended-clause-can : goal.returns-in-Ended-clause-can
returns-in-Ended-clause-can g c =
    c.in_ok-pair.ensures.can

pub returns-in-Ended-clause-read : goal.returns-in-Ended-clause-read
returns-in-Ended-clause-read g c =
    let u = g.H.Host.view c.args.host.now in
    let v = g.H.Host.view c.pairs.host in
    let w = g.H.Host.view c.take_turn.new.host in
    let inv = c.pairs.invariant in
    let file = ap (λ (o : OpenIndexFile). o.file) inv.index_is in
    let read = streamed_as_file _ _ _ v w c.args.first.now.index.file c.pairs.first.index.file file c.take_turn.ensures.read in
    streamed_then _ _ _ _ _ _ _ _ u v w inv.read read

pub returns-in-Ended-clause-faults : goal.returns-in-Ended-clause-faults
returns-in-Ended-clause-faults g c =
    let u = g.H.Host.view c.args.host.now in
    let v = g.H.Host.view c.pairs.host in
    let w = g.H.Host.view c.take_turn.new.host in
    let inv = c.pairs.invariant in
    faults_ok _ _ _ _ u w c.in_ok-pair.field-0 _ (faults_then _ _ _ _ _ u v w 0 _ (λ content is. (content, (is.0, is.1, inv.searching is.0 is.1 content is.2))) inv.faults
    (subst (λ (o : OpenIndexFile). StreamFaults (ShowsIn o.file (ShowsIndex o) v.files) (ShowsIn o.file (ShowsIndex o) w.files) (AskedOf v c.pairs.first c.pairs.others) v w (Ok c.in_ok-pair.field-0)) inv.index_is c.in_ok-pair.ensures.faults))

pub returns-in-Ended-clause-index : goal.returns-in-Ended-clause-index
returns-in-Ended-clause-index g c =
    let inv = c.pairs.invariant in
    c.take_turn.ensures.index ∙ inv.index_is

pub pairs-smaller : goal.pairs-smaller
pairs-smaller g c =
    let rises = rank_rises c.pairs.first.merge.last c.take_turn.new.first.merge.last (c.in_ok-pair.ensures.rises c.in-Passed.is) in
    omega (arith, rises.0, rises.1)

pub pairs-preserved : goal.pairs-preserved
pairs-preserved g c =
    let u = g.H.Host.view c.args.host.now in
    let v = g.H.Host.view c.pairs.host in
    let w = g.H.Host.view c.take_turn.new.host in
    let inv = c.pairs.invariant in
    let file = ap (λ (o : OpenIndexFile). o.file) inv.index_is in
    let read = streamed_as_file _ _ _ v w c.args.first.now.index.file c.pairs.first.index.file file c.take_turn.ensures.read in
    record {
      can = can_still _ _ _ _ _ _ u w c.requires.read (streamed_then _ _ _ _ _ _ _ _ u v w inv.read read);
      meet = c.in_ok-pair.ensures.can;
      searching = λ op words content is. c.in_ok-pair.ensures.searching op words content (inv.searching op words content is);
      hits = λ op words content left is are. subst (λ (t : Turn). TurnGives (AreHits content op words c.take_turn.new.first.merge.last c.args.floor) left t) c.in-Passed.is
          (c.in_ok-pair.ensures.gives op words content left (inv.searching op words content is) (inv.hits op words content left is are));
      pays = λ op words content is. (let one = c.in_ok-pair.ensures.reads op words content (inv.searching op words content is) in omega (arith, one, inv.pays op words content is));
      read = streamed_then _ _ _ _ _ _ _ _ u v w inv.read read;
      faults = faults_ok _ _ _ _ u w c.in_ok-pair.field-0 0 (faults_then _ _ _ _ _ u v w 0 _ (λ content is. (content, (is.0, is.1, inv.searching is.0 is.1 content is.2))) inv.faults
          (subst (λ (o : OpenIndexFile). StreamFaults (ShowsIn o.file (ShowsIndex o) v.files) (ShowsIn o.file (ShowsIndex o) w.files) (AskedOf v c.pairs.first c.pairs.others) v w (Ok c.in_ok-pair.field-0)) inv.index_is c.in_ok-pair.ensures.faults));
      index_is = c.take_turn.ensures.index ∙ inv.index_is;
    }
