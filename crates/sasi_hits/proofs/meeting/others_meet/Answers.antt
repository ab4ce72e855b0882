use Rattle.std.proofs.Common.{◌∙◌, ◌<◌, refl, sym, subst, arith, length, Result}
use Rattle.std.specs.List.{slice_index_or}
use Rattle.std.proofs.lemmas.Result.{err_from_is_err_and}
use Rattle.sasi_host.specs.declared.fault.ReadFault.{ReadFault}
use Rattle.sasi_treemerge.specs.Merges.{SpendsReads}
use Rattle.sasi_indexread.specs.Costs.{cost_left}
use Rattle.sasi_ranges.proofs.Calling.{can_still, fails_nothing, faults_handed, faults_ok, faults_then, files_same, streamed_then, streams_nothing}
use Rattle.sasi_hits.specs.declared.meeting.Met.{Met}
use Rattle.sasi_hits.specs.WordSearches.{CanFollow, From, IsFollowing, asking}
use Rattle.sasi_hits.specs.declared.word_search.WordSearch.{WordSearch}
use Rattle.sasi_hits.proofs.Lists.{all_at, map_set, sum_at, sum_set}
use Rattle.sasi_hits.proofs.OtherLaws.{asking_again, can_at, faults_set, met_all, met_is, met_more, met_word, others_can_at, others_follow_at, streamed_set}
use Rattle.sasi_hits.proofs.meeting.others_meet.Goals as goal

pub loop-word-init : goal.loop-word-init
loop-word-init g c =
    let v = g.H.Host.view c.args.host.now in
    record {
      can = c.requires.read;
      follow = c.requires.can;
      follows = λ content all. all;
      met = λ content all. tt;
      pays = λ content all. omega arith;
      read = streams_nothing _ _ _ v c.requires.read.agrees;
      faults = fails_nothing _ _ v 0;
      asked = refl;
    }

pub word_meets-requires-clause-read : goal.word_meets-requires-clause-read
word_meets-requires-clause-read g c =
    let at : c.loop-word.word-index < length c.loop-word.others = omega (arith, c.loop-word-test.true, c.loop-word.auto.others) in
    can_at c.word-item.result _ (g.H.Host.view c.loop-word.host) c.loop-word.others c.loop-word.word-index at c.loop-word.invariant.can

pub word_meets-requires-clause-can : goal.word_meets-requires-clause-can
word_meets-requires-clause-can g c =
    let at : c.loop-word.word-index < length c.loop-word.others = omega (arith, c.loop-word-test.true, c.loop-word.auto.others) in
    all_at c.word-item.result (λ (word : WordSearch). CanFollow (g.H.Host.view c.loop-word.host) word.search.index word) c.loop-word.others c.loop-word.word-index at c.loop-word.invariant.follow

pub returns-in_err-met-clause-reads : goal.returns-in_err-met-clause-reads
returns-in_err-met-clause-reads g c content all =
    let p = err_from_is_err_and c.from_residual.result c.from_residual.ensures.1 in
    let u = g.H.Host.view c.args.host.now in
    let v = g.H.Host.view c.loop-word.host in
    let w = g.H.Host.view c.word_meets.new.host in
    let d = c.word-item.result in
    let others = c.loop-word.others in
    let i = c.loop-word.word-index in
    let new = c.word_meets.new.word in
    let pair = c.args.pair in
    let inv = c.loop-word.invariant in
    let asked = c.word_meets.ensures.asked in
    let change = c.word_meets.ensures.read.changes in
    let at : i < length others = omega (arith, c.loop-word-test.true, c.loop-word.auto.others) in
    let item = all_at d (IsFollowing v content (From pair)) others i at (inv.follows content all) in
    let one = subst (λ (r : Result Met ReadFault). SpendsReads v w (cost_left (slice_index_or others i d).search content) (cost_left new.search content) r) c.in_err-met.was (c.word_meets.ensures.reads content item.searching) in
    rw p.1 (omega (arith, one, sum_at d (λ (word : WordSearch). cost_left word.search content) others i at, inv.pays content all))

pub returns-in_err-met-clause-read : goal.returns-in_err-met-clause-read
returns-in_err-met-clause-read g c =
    let u = g.H.Host.view c.args.host.now in
    let v = g.H.Host.view c.loop-word.host in
    let w = g.H.Host.view c.word_meets.new.host in
    let d = c.word-item.result in
    let others = c.loop-word.others in
    let i = c.loop-word.word-index in
    let new = c.word_meets.new.word in
    let pair = c.args.pair in
    let inv = c.loop-word.invariant in
    let asked = c.word_meets.ensures.asked in
    let change = c.word_meets.ensures.read.changes in
    let at : i < length others = omega (arith, c.loop-word-test.true, c.loop-word.auto.others) in
    streamed_then _ _ _ _ _ _ _ _ u v w inv.read (streamed_set d _ _ _ v w others i new at asked.index c.word_meets.ensures.read)

pub returns-in_err-met-clause-faults : goal.returns-in_err-met-clause-faults
returns-in_err-met-clause-faults g c =
    let p = err_from_is_err_and c.from_residual.result c.from_residual.ensures.1 in
    let u = g.H.Host.view c.args.host.now in
    let v = g.H.Host.view c.loop-word.host in
    let w = g.H.Host.view c.word_meets.new.host in
    let d = c.word-item.result in
    let others = c.loop-word.others in
    let i = c.loop-word.word-index in
    let new = c.word_meets.new.word in
    let pair = c.args.pair in
    let inv = c.loop-word.invariant in
    let asked = c.word_meets.ensures.asked in
    let change = c.word_meets.ensures.read.changes in
    let at : i < length others = omega (arith, c.loop-word-test.true, c.loop-word.auto.others) in
    rw (p.1, p.2) (faults_then _ _ _ _ _ u v w 0 _ (λ content all. (content, inv.follows content all)) inv.faults
    (faults_handed _ _ _ _ v w c.word_meets.result c.in_err-met.field-0.0 c.in_err-met.was (λ content all. (content, all))
    (faults_set d v w pair others i new c.word_meets.result at (files_same v w change) asked.index c.word_meets.ensures.faults)))

pub returns-in_err-met-clause-asked : goal.returns-in_err-met-clause-asked
returns-in_err-met-clause-asked g c =
    let u = g.H.Host.view c.args.host.now in
    let v = g.H.Host.view c.loop-word.host in
    let w = g.H.Host.view c.word_meets.new.host in
    let d = c.word-item.result in
    let others = c.loop-word.others in
    let i = c.loop-word.word-index in
    let new = c.word_meets.new.word in
    let pair = c.args.pair in
    let inv = c.loop-word.invariant in
    let asked = c.word_meets.ensures.asked in
    let change = c.word_meets.ensures.read.changes in
    let at : i < length others = omega (arith, c.loop-word-test.true, c.loop-word.auto.others) in
    map_set d asking others i new at (asking_again (slice_index_or others i d) new asked) ∙ inv.asked

pub returns-then-not-is_all-clause-meets : goal.returns-then-not-is_all-clause-meets
returns-then-not-is_all-clause-meets g c content all =
    let u = g.H.Host.view c.args.host.now in
    let v = g.H.Host.view c.loop-word.host in
    let w = g.H.Host.view c.word_meets.new.host in
    let d = c.word-item.result in
    let others = c.loop-word.others in
    let i = c.loop-word.word-index in
    let new = c.word_meets.new.word in
    let pair = c.args.pair in
    let inv = c.loop-word.invariant in
    let asked = c.word_meets.ensures.asked in
    let change = c.word_meets.ensures.read.changes in
    let at : i < length others = omega (arith, c.loop-word-test.true, c.loop-word.auto.others) in
    let item = all_at d (IsFollowing v content (From pair)) others i at (inv.follows content all) in
    let both = c.in_ok-met.ensures.meets content item in (
      met_word d content pair c.args.others.now others i c.in_ok-met.met at inv.asked (sym c.is_all.ensures ∙ c.if-not-is_all.true) both.0,
      others_follow_at d v w content pair others i new change both.1 (inv.follows content all),
    )

pub returns-then-not-is_all-clause-can : goal.returns-then-not-is_all-clause-can
returns-then-not-is_all-clause-can g c =
    let u = g.H.Host.view c.args.host.now in
    let v = g.H.Host.view c.loop-word.host in
    let w = g.H.Host.view c.word_meets.new.host in
    let d = c.word-item.result in
    let others = c.loop-word.others in
    let i = c.loop-word.word-index in
    let new = c.word_meets.new.word in
    let pair = c.args.pair in
    let inv = c.loop-word.invariant in
    let asked = c.word_meets.ensures.asked in
    let change = c.word_meets.ensures.read.changes in
    let at : i < length others = omega (arith, c.loop-word-test.true, c.loop-word.auto.others) in
    others_can_at d v w others i new change asked.index c.in_ok-met.ensures.can inv.follow

pub returns-then-not-is_all-clause-reads : goal.returns-then-not-is_all-clause-reads
returns-then-not-is_all-clause-reads g c content all =
    let u = g.H.Host.view c.args.host.now in
    let v = g.H.Host.view c.loop-word.host in
    let w = g.H.Host.view c.word_meets.new.host in
    let d = c.word-item.result in
    let others = c.loop-word.others in
    let i = c.loop-word.word-index in
    let new = c.word_meets.new.word in
    let pair = c.args.pair in
    let inv = c.loop-word.invariant in
    let asked = c.word_meets.ensures.asked in
    let change = c.word_meets.ensures.read.changes in
    let at : i < length others = omega (arith, c.loop-word-test.true, c.loop-word.auto.others) in
    let item = all_at d (IsFollowing v content (From pair)) others i at (inv.follows content all) in
    omega (arith, sum_set d (λ (word : WordSearch). cost_left word.search content) others i new v.reads w.reads at (c.in_ok-met.ensures.reads content item.searching), inv.pays content all)

pub returns-then-not-is_all-clause-read : goal.returns-then-not-is_all-clause-read
returns-then-not-is_all-clause-read g c =
    let u = g.H.Host.view c.args.host.now in
    let v = g.H.Host.view c.loop-word.host in
    let w = g.H.Host.view c.word_meets.new.host in
    let d = c.word-item.result in
    let others = c.loop-word.others in
    let i = c.loop-word.word-index in
    let new = c.word_meets.new.word in
    let pair = c.args.pair in
    let inv = c.loop-word.invariant in
    let asked = c.word_meets.ensures.asked in
    let change = c.word_meets.ensures.read.changes in
    let at : i < length others = omega (arith, c.loop-word-test.true, c.loop-word.auto.others) in
    streamed_then _ _ _ _ _ _ _ _ u v w inv.read (streamed_set d _ _ _ v w others i new at asked.index c.word_meets.ensures.read)

pub returns-then-not-is_all-clause-faults : goal.returns-then-not-is_all-clause-faults
returns-then-not-is_all-clause-faults g c =
    let u = g.H.Host.view c.args.host.now in
    let v = g.H.Host.view c.loop-word.host in
    let w = g.H.Host.view c.word_meets.new.host in
    let d = c.word-item.result in
    let others = c.loop-word.others in
    let i = c.loop-word.word-index in
    let new = c.word_meets.new.word in
    let pair = c.args.pair in
    let inv = c.loop-word.invariant in
    let asked = c.word_meets.ensures.asked in
    let change = c.word_meets.ensures.read.changes in
    let at : i < length others = omega (arith, c.loop-word-test.true, c.loop-word.auto.others) in
    faults_ok _ _ _ _ u w c.in_ok-met.met _ (faults_then _ _ _ _ _ u v w 0 _ (λ content all. (content, inv.follows content all)) inv.faults
    (faults_set d v w pair others i new _ at (files_same v w change) asked.index c.in_ok-met.ensures.faults))

pub returns-then-not-is_all-clause-asked : goal.returns-then-not-is_all-clause-asked
returns-then-not-is_all-clause-asked g c =
    let u = g.H.Host.view c.args.host.now in
    let v = g.H.Host.view c.loop-word.host in
    let w = g.H.Host.view c.word_meets.new.host in
    let d = c.word-item.result in
    let others = c.loop-word.others in
    let i = c.loop-word.word-index in
    let new = c.word_meets.new.word in
    let pair = c.args.pair in
    let inv = c.loop-word.invariant in
    let asked = c.word_meets.ensures.asked in
    let change = c.word_meets.ensures.read.changes in
    let at : i < length others = omega (arith, c.loop-word-test.true, c.loop-word.auto.others) in
    map_set d asking others i new at (asking_again (slice_index_or others i d) new asked) ∙ inv.asked

pub loop-word-preserved : goal.loop-word-preserved
loop-word-preserved g c =
    let u = g.H.Host.view c.args.host.now in
    let v = g.H.Host.view c.loop-word.host in
    let w = g.H.Host.view c.word_meets.new.host in
    let d = c.word-item.result in
    let others = c.loop-word.others in
    let i = c.loop-word.word-index in
    let new = c.word_meets.new.word in
    let pair = c.args.pair in
    let inv = c.loop-word.invariant in
    let asked = c.word_meets.ensures.asked in
    let change = c.word_meets.ensures.read.changes in
    let at : i < length others = omega (arith, c.loop-word-test.true, c.loop-word.auto.others) in
    let read = streamed_set d _ _ _ v w others i new at asked.index c.word_meets.ensures.read in
    record {
      can = can_still _ _ _ _ _ _ v w inv.can read;
      follow = others_can_at d v w others i new change asked.index c.in_ok-met.ensures.can inv.follow;
      follows = λ content all.
          let item = all_at d (IsFollowing v content (From pair)) others i at (inv.follows content all) in
          others_follow_at d v w content pair others i new change (c.in_ok-met.ensures.meets content item).1 (inv.follows content all);
      met = λ content all.
          let item = all_at d (IsFollowing v content (From pair)) others i at (inv.follows content all) in
          met_more d content pair c.args.others.now others i _ at (omega arith) inv.asked
          (met_is content (slice_index_or others i d) pair c.in_ok-met.met (sym c.is_all.ensures ∙ c.if-not-is_all.false) (c.in_ok-met.ensures.meets content item).0) (inv.met content all);
      pays = λ content all.
          let item = all_at d (IsFollowing v content (From pair)) others i at (inv.follows content all) in
          omega (arith, sum_set d (λ (word : WordSearch). cost_left word.search content) others i new v.reads w.reads at (c.in_ok-met.ensures.reads content item.searching), inv.pays content all);
      read = streamed_then _ _ _ _ _ _ _ _ u v w inv.read read;
      faults = faults_ok _ _ _ _ u w c.in_ok-met.met 0 (faults_then _ _ _ _ _ u v w 0 _ (λ content all. (content, inv.follows content all)) inv.faults
          (faults_set d v w pair others i new _ at (files_same v w change) asked.index c.in_ok-met.ensures.faults));
      asked = map_set d asking others i new at (asking_again (slice_index_or others i d) new asked) ∙ inv.asked;
    }

pub returns-clause-meets : goal.returns-clause-meets
returns-clause-meets g c content all =
    let inv = c.loop-word.invariant in (
      met_all content c.args.pair c.args.others.now c.loop-word.others c.loop-word.word-index (omega (arith, c.loop-word-test.false, c.loop-word.auto.others)) inv.asked (inv.met content all),
      inv.follows content all,
    )

pub returns-clause-reads : goal.returns-clause-reads
returns-clause-reads g c content all = c.loop-word.invariant.pays content all

pub returns-clause-faults : goal.returns-clause-faults
returns-clause-faults g c = faults_ok _ _ _ _ (g.H.Host.view c.args.host.now) (g.H.Host.view c.loop-word.host) 0 _ c.loop-word.invariant.faults
