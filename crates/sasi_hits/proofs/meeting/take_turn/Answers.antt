use Rattle.std.proofs.Common.{◌≡◌, ◌∙◌, ap, subst, sym, arith, true, Option, Some, Result}
use Rattle.std.specs.Prelude.{IfSome}
use Rattle.std.proofs.lemmas.Result.{err_from_is_err_and}
use Rattle.sasi_types.specs.declared.tree.Pair.{Pair}
use Rattle.sasi_host.specs.declared.fault.ReadFault.{ReadFault}
use Rattle.sasi_treemerge.specs.Merges.{IsLeast, SpendsReads, is_left, last_after}
use Rattle.sasi_indexread.specs.Asked.{asked_lists}
use Rattle.sasi_indexread.specs.Costs.{cost_left}
use Rattle.sasi_indexread.specs.Damages.{ShowsIndex}
use Rattle.sasi_indexread.specs.Searches.{IsSearching}
use Rattle.sasi_ranges.proofs.Calling.{can_still, faults_as, faults_handed, faults_ok, faults_then, streamed_then}
use Rattle.sasi_hits.specs.declared.meeting.Met.{Met}
use Rattle.sasi_hits.specs.declared.meeting.Turn.{Turn}
use Rattle.sasi_hits.specs.HitPairs.{AreHits}
use Rattle.sasi_hits.specs.WordSearches.{AskedOf, AsksAgain, Behind, TurnGives, others_cost}
use Rattle.sasi_hits.proofs.CallLaws.{can_read, faults_of, streamed}
use Rattle.sasi_hits.proofs.OtherLaws.{can_others, each_can, indexes_are, others_faults, streamed_others}
use Rattle.sasi_hits.proofs.PairLaws.{before_one, from_behind}
use Rattle.sasi_hits.proofs.TurnLaws.{can_first_on, can_others_on, first_on, from_pair, others_on, turn_below, turn_ends, turn_met}
use Rattle.sasi_hits.proofs.WordLaws.{left_is}
use Rattle.sasi_hits.proofs.meeting.take_turn.Goals as goal

pub next-requires-clause-read : goal.next-requires-clause-read
next-requires-clause-read g c = can_read _ (g.H.Host.view c.args.host.now) _ c.requires.read

-- ---- the first search fails

pub returns-in_err-pair-clause-reads : goal.returns-in_err-pair-clause-reads
returns-in_err-pair-clause-reads g c op words content is =
    let p = err_from_is_err_and c.from_residual.result c.from_residual.ensures.1 in
    let v = g.H.Host.view c.args.host.now in
    let w = g.H.Host.view c.next.new.host in
    let spent = subst (λ (r : Result (Option Pair) ReadFault). SpendsReads v w (cost_left c.args.first.now content) (cost_left c.next.new.self content) r) c.in_err-pair.was (c.next.ensures.reads content is.searching) in
    rw p.1 (omega (arith, spent))

pub returns-in_err-pair-clause-read : goal.returns-in_err-pair-clause-read
returns-in_err-pair-clause-read g c = streamed _ _ _ _ _ _ c.next.ensures.read

pub returns-in_err-pair-clause-faults : goal.returns-in_err-pair-clause-faults
returns-in_err-pair-clause-faults g c =
    let p = err_from_is_err_and c.from_residual.result c.from_residual.ensures.1 in
    let v = g.H.Host.view c.args.host.now in
    let w = g.H.Host.view c.next.new.host in
    let search = c.args.first.now in
    rw (p.1, p.2) (faults_handed _ _ _ _ v w c.next.result c.in_err-pair.field-0.0 c.in_err-pair.was (λ content is. (content, is.2.searching))
    (faults_of search.index.file (ShowsIndex search.index) (IsSearching v search) v w _ c.next.result c.next.ensures.read.changes c.next.ensures.causes c.next.ensures.damaged c.next.ensures.undamaged))

-- ---- its end

pub returns-in_default-clause-searching : goal.returns-in_default-clause-searching
returns-in_default-clause-searching g c op words content is =
    let v = g.H.Host.view c.args.host.now in
    let w = g.H.Host.view c.next.new.host in
    let first = c.args.first.now in
    let asked = c.next.ensures.asked in
    first_on v w op words first c.next.new.self c.args.others.now content c.next.ensures.read.changes (record { index = asked.0; op = asked.1; body = asked.2 })
    (λ q behind. subst (λ (o : Option Pair). Behind o q) (c.in_ok-pair.ensures.last ∙ ap (last_after first.merge.last) c.in_default.is) behind) (c.in_ok-pair.ensures.ok content is.searching).1 is

pub returns-in_default-clause-gives : goal.returns-in_default-clause-gives
returns-in_default-clause-gives g c op words content left is are =
    let first = c.args.first.now in
    turn_ends content op words first c.args.others.now is.asked c.args.floor left c.next.new.self.merge.last c.requires.can.floor_is
    (subst (λ (o : Option Pair). IsLeast (asked_lists content first.op first.body) first.merge.last first.merge.floor o) c.in_default.is (c.in_ok-pair.ensures.ok content is.searching).0)
    (c.in_ok-pair.ensures.last ∙ ap (last_after first.merge.last) c.in_default.is) are

pub returns-in_default-clause-can : goal.returns-in_default-clause-can
returns-in_default-clause-can g c =
    can_first_on (g.H.Host.view c.args.host.now) (g.H.Host.view c.next.new.host) c.args.first.now c.next.new.self c.args.others.now c.next.ensures.read.changes c.next.ensures.asked.0 c.in_ok-pair.ensures.floor c.in_ok-pair.ensures.search c.requires.can

pub returns-in_default-clause-reads : goal.returns-in_default-clause-reads
returns-in_default-clause-reads g c op words content is = (let spent = c.in_ok-pair.ensures.reads content is.searching in omega (arith, spent))

pub returns-in_default-clause-read : goal.returns-in_default-clause-read
returns-in_default-clause-read g c = streamed _ _ _ _ _ _ c.next.ensures.read

pub returns-in_default-clause-faults : goal.returns-in_default-clause-faults
returns-in_default-clause-faults g c =
    let v = g.H.Host.view c.args.host.now in
    let w = g.H.Host.view c.next.new.host in
    let search = c.args.first.now in
    faults_as _ _ _ (IsSearching v search) (AskedOf v search c.args.others.now) v w _ (λ damage is. is) (λ content is. (content, is.2.searching))
    (faults_ok _ _ _ (IsSearching v search) v w c.in_ok-pair.field-0 _ (faults_of search.index.file (ShowsIndex search.index) (IsSearching v search) v w _ _ c.next.ensures.read.changes c.in_ok-pair.ensures.causes c.in_ok-pair.ensures.damaged c.in_ok-pair.ensures.undamaged))

-- ---- it is below the floor

pub returns-then-pair-floor-clause-searching : goal.returns-then-pair-floor-clause-searching
returns-then-pair-floor-clause-searching g c op words content is =
    let v = g.H.Host.view c.args.host.now in
    let w = g.H.Host.view c.next.new.host in
    let first = c.args.first.now in
    let now = c.next.new.self in
    let others = c.args.others.now in
    let pair = c.in-Some.pair in
    let change = c.next.ensures.read.changes in
    let asks = c.next.ensures.asked in
    let asked : AsksAgain first now = record { index = asks.0; op = asks.1; body = asks.2 } in
    let last : now.merge.last ≡ Some pair = c.in_ok-pair.ensures.last ∙ ap (last_after first.merge.last) c.in-Some.is in
    let left_yet : is_left first.merge.last first.merge.floor pair ≡ true = subst (λ (o : Option Pair). IfSome o (λ p. is_left first.merge.last first.merge.floor p ≡ true)) c.in-Some.is c.in_ok-pair.ensures.behind in
    let behind : Behind first.merge.last pair = sym (left_is first.merge.last first.merge.floor pair c.requires.can.floor_is) ∙ left_yet in
    first_on v w op words first now others content change asked (λ q later. from_behind first.merge.last pair q behind (before_one pair q (subst (λ (o : Option Pair). Behind o q) last later)))
    (c.in_ok-pair.ensures.ok content is.searching).1 is

pub returns-then-pair-floor-clause-gives : goal.returns-then-pair-floor-clause-gives
returns-then-pair-floor-clause-gives g c op words content left is are =
    let v = g.H.Host.view c.args.host.now in
    let w = g.H.Host.view c.next.new.host in
    let first = c.args.first.now in
    let now = c.next.new.self in
    let others = c.args.others.now in
    let pair = c.in-Some.pair in
    let change = c.next.ensures.read.changes in
    let asks = c.next.ensures.asked in
    let asked : AsksAgain first now = record { index = asks.0; op = asks.1; body = asks.2 } in
    let last : now.merge.last ≡ Some pair = c.in_ok-pair.ensures.last ∙ ap (last_after first.merge.last) c.in-Some.is in
    let left_yet : is_left first.merge.last first.merge.floor pair ≡ true = subst (λ (o : Option Pair). IfSome o (λ p. is_left first.merge.last first.merge.floor p ≡ true)) c.in-Some.is c.in_ok-pair.ensures.behind in
    let behind : Behind first.merge.last pair = sym (left_is first.merge.last first.merge.floor pair c.requires.can.floor_is) ∙ left_yet in
    subst (λ (t : Turn). TurnGives (AreHits content op words now.merge.last c.args.floor) left t) (sym c.turn_of.ensures.is)
    (turn_below content op words first others is.asked c.args.floor left now.merge.last pair c.requires.can.floor_is (subst (λ (o : Option Pair). IsLeast (asked_lists content first.op first.body) first.merge.last first.merge.floor o) c.in-Some.is (c.in_ok-pair.ensures.ok content is.searching).0) last are c.if-pair-floor.true)

pub returns-then-pair-floor-clause-rises : goal.returns-then-pair-floor-clause-rises
returns-then-pair-floor-clause-rises g c passed =
    let v = g.H.Host.view c.args.host.now in
    let w = g.H.Host.view c.next.new.host in
    let first = c.args.first.now in
    let now = c.next.new.self in
    let others = c.args.others.now in
    let pair = c.in-Some.pair in
    let change = c.next.ensures.read.changes in
    let asks = c.next.ensures.asked in
    let asked : AsksAgain first now = record { index = asks.0; op = asks.1; body = asks.2 } in
    let last : now.merge.last ≡ Some pair = c.in_ok-pair.ensures.last ∙ ap (last_after first.merge.last) c.in-Some.is in
    let left_yet : is_left first.merge.last first.merge.floor pair ≡ true = subst (λ (o : Option Pair). IfSome o (λ p. is_left first.merge.last first.merge.floor p ≡ true)) c.in-Some.is c.in_ok-pair.ensures.behind in
    let behind : Behind first.merge.last pair = sym (left_is first.merge.last first.merge.floor pair c.requires.can.floor_is) ∙ left_yet in
    (pair, last, behind, c.turn_of.ensures.fits.0, c.turn_of.ensures.fits.1)

pub returns-then-pair-floor-clause-reads : goal.returns-then-pair-floor-clause-reads
returns-then-pair-floor-clause-reads g c op words content is =
    (let spent = c.in_ok-pair.ensures.reads content is.searching in omega (arith, spent))

pub returns-then-pair-floor-clause-can : goal.returns-then-pair-floor-clause-can
returns-then-pair-floor-clause-can g c =
    let v = g.H.Host.view c.args.host.now in
    let w = g.H.Host.view c.next.new.host in
    let first = c.args.first.now in
    let now = c.next.new.self in
    let others = c.args.others.now in
    let pair = c.in-Some.pair in
    let change = c.next.ensures.read.changes in
    let asks = c.next.ensures.asked in
    let asked : AsksAgain first now = record { index = asks.0; op = asks.1; body = asks.2 } in
    let last : now.merge.last ≡ Some pair = c.in_ok-pair.ensures.last ∙ ap (last_after first.merge.last) c.in-Some.is in
    let left_yet : is_left first.merge.last first.merge.floor pair ≡ true = subst (λ (o : Option Pair). IfSome o (λ p. is_left first.merge.last first.merge.floor p ≡ true)) c.in-Some.is c.in_ok-pair.ensures.behind in
    let behind : Behind first.merge.last pair = sym (left_is first.merge.last first.merge.floor pair c.requires.can.floor_is) ∙ left_yet in
    (can_first_on v w first now others change asks.0 c.in_ok-pair.ensures.floor c.in_ok-pair.ensures.search c.requires.can)

pub returns-then-pair-floor-clause-read : goal.returns-then-pair-floor-clause-read
returns-then-pair-floor-clause-read g c =
    streamed _ _ _ _ _ _ c.next.ensures.read

pub returns-then-pair-floor-clause-faults : goal.returns-then-pair-floor-clause-faults
returns-then-pair-floor-clause-faults g c =
    let v = g.H.Host.view c.args.host.now in
    let w = g.H.Host.view c.next.new.host in
    let first = c.args.first.now in
    let now = c.next.new.self in
    let others = c.args.others.now in
    let pair = c.in-Some.pair in
    let change = c.next.ensures.read.changes in
    let asks = c.next.ensures.asked in
    let asked : AsksAgain first now = record { index = asks.0; op = asks.1; body = asks.2 } in
    let last : now.merge.last ≡ Some pair = c.in_ok-pair.ensures.last ∙ ap (last_after first.merge.last) c.in-Some.is in
    let left_yet : is_left first.merge.last first.merge.floor pair ≡ true = subst (λ (o : Option Pair). IfSome o (λ p. is_left first.merge.last first.merge.floor p ≡ true)) c.in-Some.is c.in_ok-pair.ensures.behind in
    let behind : Behind first.merge.last pair = sym (left_is first.merge.last first.merge.floor pair c.requires.can.floor_is) ∙ left_yet in
    faults_ok _ _ _ _ v w c.in_ok-pair.field-0 _ (faults_as _ _ _ (IsSearching v first) (AskedOf v first others) v w _ (λ damage is. is) (λ content is. (content, is.2.searching))
    (faults_ok _ _ _ (IsSearching v first) v w c.in_ok-pair.field-0 c.in_ok-pair.field-0 (faults_of first.index.file (ShowsIndex first.index) (IsSearching v first) v w _ _ change c.in_ok-pair.ensures.causes c.in_ok-pair.ensures.damaged c.in_ok-pair.ensures.undamaged)))

-- ---- the others are asked

pub others_meet-requires-clause-read : goal.others_meet-requires-clause-read
others_meet-requires-clause-read g c =
    let v = g.H.Host.view c.args.host.now in
    let w = g.H.Host.view c.next.new.host in
    let first = c.args.first.now in
    let now = c.next.new.self in
    let others = c.args.others.now in
    let pair = c.in-Some.pair in
    let change = c.next.ensures.read.changes in
    let asks = c.next.ensures.asked in
    let asked : AsksAgain first now = record { index = asks.0; op = asks.1; body = asks.2 } in
    let last : now.merge.last ≡ Some pair = c.in_ok-pair.ensures.last ∙ ap (last_after first.merge.last) c.in-Some.is in
    let left_yet : is_left first.merge.last first.merge.floor pair ≡ true = subst (λ (o : Option Pair). IfSome o (λ p. is_left first.merge.last first.merge.floor p ≡ true)) c.in-Some.is c.in_ok-pair.ensures.behind in
    let behind : Behind first.merge.last pair = sym (left_is first.merge.last first.merge.floor pair c.requires.can.floor_is) ∙ left_yet in
    let named = indexes_are first.index v others c.requires.can.follow in
    can_others first.index _ w others named (can_still _ _ _ _ _ _ v w c.requires.read (streamed _ _ _ v w first.index.file c.next.ensures.read))

pub others_meet-requires-clause-can : goal.others_meet-requires-clause-can
others_meet-requires-clause-can g c =
    let v = g.H.Host.view c.args.host.now in
    let w = g.H.Host.view c.next.new.host in
    let first = c.args.first.now in
    let now = c.next.new.self in
    let others = c.args.others.now in
    let pair = c.in-Some.pair in
    let change = c.next.ensures.read.changes in
    let asks = c.next.ensures.asked in
    let asked : AsksAgain first now = record { index = asks.0; op = asks.1; body = asks.2 } in
    let last : now.merge.last ≡ Some pair = c.in_ok-pair.ensures.last ∙ ap (last_after first.merge.last) c.in-Some.is in
    let left_yet : is_left first.merge.last first.merge.floor pair ≡ true = subst (λ (o : Option Pair). IfSome o (λ p. is_left first.merge.last first.merge.floor p ≡ true)) c.in-Some.is c.in_ok-pair.ensures.behind in
    let behind : Behind first.merge.last pair = sym (left_is first.merge.last first.merge.floor pair c.requires.can.floor_is) ∙ left_yet in
    each_can now.index w others (can_first_on v w first now others change asks.0 c.in_ok-pair.ensures.floor c.in_ok-pair.ensures.search c.requires.can).follow

pub returns-in_err-met-clause-reads : goal.returns-in_err-met-clause-reads
returns-in_err-met-clause-reads g c op words content is =
    let p = err_from_is_err_and c.from_residual-in_err-met.result c.from_residual-in_err-met.ensures.1 in
    let v = g.H.Host.view c.args.host.now in
    let w = g.H.Host.view c.next.new.host in
    let first = c.args.first.now in
    let now = c.next.new.self in
    let others = c.args.others.now in
    let pair = c.in-Some.pair in
    let change = c.next.ensures.read.changes in
    let asks = c.next.ensures.asked in
    let asked : AsksAgain first now = record { index = asks.0; op = asks.1; body = asks.2 } in
    let last : now.merge.last ≡ Some pair = c.in_ok-pair.ensures.last ∙ ap (last_after first.merge.last) c.in-Some.is in
    let left_yet : is_left first.merge.last first.merge.floor pair ≡ true = subst (λ (o : Option Pair). IfSome o (λ p. is_left first.merge.last first.merge.floor p ≡ true)) c.in-Some.is c.in_ok-pair.ensures.behind in
    let behind : Behind first.merge.last pair = sym (left_is first.merge.last first.merge.floor pair c.requires.can.floor_is) ∙ left_yet in
    let u = g.H.Host.view c.others_meet.new.host in
    let new = c.others_meet.new.others in
    let again = c.others_meet.ensures.asked in
    let after = c.others_meet.ensures.read.changes in
    let one = c.in_ok-pair.ensures.reads content is.searching in
    let two = subst (λ (r : Result Met ReadFault). SpendsReads w u (others_cost content others) (others_cost content new) r) c.in_err-met.was (c.others_meet.ensures.reads content (from_pair v w op words first now others content change pair behind is)) in
    rw p.1 (omega (arith, one, two))

pub returns-in_err-met-clause-read : goal.returns-in_err-met-clause-read
returns-in_err-met-clause-read g c =
    let v = g.H.Host.view c.args.host.now in
    let w = g.H.Host.view c.next.new.host in
    let first = c.args.first.now in
    let now = c.next.new.self in
    let others = c.args.others.now in
    let pair = c.in-Some.pair in
    let change = c.next.ensures.read.changes in
    let asks = c.next.ensures.asked in
    let asked : AsksAgain first now = record { index = asks.0; op = asks.1; body = asks.2 } in
    let last : now.merge.last ≡ Some pair = c.in_ok-pair.ensures.last ∙ ap (last_after first.merge.last) c.in-Some.is in
    let left_yet : is_left first.merge.last first.merge.floor pair ≡ true = subst (λ (o : Option Pair). IfSome o (λ p. is_left first.merge.last first.merge.floor p ≡ true)) c.in-Some.is c.in_ok-pair.ensures.behind in
    let behind : Behind first.merge.last pair = sym (left_is first.merge.last first.merge.floor pair c.requires.can.floor_is) ∙ left_yet in
    let u = g.H.Host.view c.others_meet.new.host in
    let new = c.others_meet.new.others in
    let again = c.others_meet.ensures.asked in
    let after = c.others_meet.ensures.read.changes in
    let named = indexes_are first.index v others c.requires.can.follow in
    streamed_then _ _ _ _ _ _ _ _ v w u (streamed _ _ _ v w first.index.file c.next.ensures.read)
    (streamed_others first.index _ _ _ w u others new named c.others_meet.ensures.read)

pub returns-in_err-met-clause-faults : goal.returns-in_err-met-clause-faults
returns-in_err-met-clause-faults g c =
    let p = err_from_is_err_and c.from_residual-in_err-met.result c.from_residual-in_err-met.ensures.1 in
    let v = g.H.Host.view c.args.host.now in
    let w = g.H.Host.view c.next.new.host in
    let first = c.args.first.now in
    let now = c.next.new.self in
    let others = c.args.others.now in
    let pair = c.in-Some.pair in
    let change = c.next.ensures.read.changes in
    let asks = c.next.ensures.asked in
    let asked : AsksAgain first now = record { index = asks.0; op = asks.1; body = asks.2 } in
    let last : now.merge.last ≡ Some pair = c.in_ok-pair.ensures.last ∙ ap (last_after first.merge.last) c.in-Some.is in
    let left_yet : is_left first.merge.last first.merge.floor pair ≡ true = subst (λ (o : Option Pair). IfSome o (λ p. is_left first.merge.last first.merge.floor p ≡ true)) c.in-Some.is c.in_ok-pair.ensures.behind in
    let behind : Behind first.merge.last pair = sym (left_is first.merge.last first.merge.floor pair c.requires.can.floor_is) ∙ left_yet in
    let u = g.H.Host.view c.others_meet.new.host in
    let new = c.others_meet.new.others in
    let again = c.others_meet.ensures.asked in
    let after = c.others_meet.ensures.read.changes in
    let named = indexes_are first.index v others c.requires.can.follow in
    rw (p.1, p.2) (faults_then _ _ _ _ _ v w u c.in_ok-pair.field-0 _ (λ content is. (content, from_pair v w is.0 is.1 first now others content change pair behind is.2))
    (faults_as _ _ _ (IsSearching v first) (AskedOf v first others) v w _ (λ damage is. is) (λ content is. (content, is.2.searching))
    (faults_ok _ _ _ (IsSearching v first) v w c.in_ok-pair.field-0 c.in_ok-pair.field-0 (faults_of first.index.file (ShowsIndex first.index) (IsSearching v first) v w _ _ change c.in_ok-pair.ensures.causes c.in_ok-pair.ensures.damaged c.in_ok-pair.ensures.undamaged)))
    (faults_handed _ _ _ _ w u c.others_meet.result c.in_err-met.field-0.0 c.in_err-met.was (λ content follow. (content, follow))
    (others_faults first.index w u pair others new c.others_meet.result named after c.others_meet.ensures.faults)))

pub returns-clause-searching : goal.returns-clause-searching
returns-clause-searching g c op words content is =
    let v = g.H.Host.view c.args.host.now in
    let w = g.H.Host.view c.next.new.host in
    let first = c.args.first.now in
    let now = c.next.new.self in
    let others = c.args.others.now in
    let pair = c.in-Some.pair in
    let change = c.next.ensures.read.changes in
    let asks = c.next.ensures.asked in
    let asked : AsksAgain first now = record { index = asks.0; op = asks.1; body = asks.2 } in
    let last : now.merge.last ≡ Some pair = c.in_ok-pair.ensures.last ∙ ap (last_after first.merge.last) c.in-Some.is in
    let left_yet : is_left first.merge.last first.merge.floor pair ≡ true = subst (λ (o : Option Pair). IfSome o (λ p. is_left first.merge.last first.merge.floor p ≡ true)) c.in-Some.is c.in_ok-pair.ensures.behind in
    let behind : Behind first.merge.last pair = sym (left_is first.merge.last first.merge.floor pair c.requires.can.floor_is) ∙ left_yet in
    let u = g.H.Host.view c.others_meet.new.host in
    let new = c.others_meet.new.others in
    let again = c.others_meet.ensures.asked in
    let after = c.others_meet.ensures.read.changes in
    others_on w u op words first now others new content pair after asked again last is.asked (c.in_ok-pair.ensures.ok content is.searching).1
    (c.in_ok-met.ensures.meets content (from_pair v w op words first now others content change pair behind is)).1

pub returns-clause-gives : goal.returns-clause-gives
returns-clause-gives g c op words content left is are =
    let v = g.H.Host.view c.args.host.now in
    let w = g.H.Host.view c.next.new.host in
    let first = c.args.first.now in
    let now = c.next.new.self in
    let others = c.args.others.now in
    let pair = c.in-Some.pair in
    let change = c.next.ensures.read.changes in
    let asks = c.next.ensures.asked in
    let asked : AsksAgain first now = record { index = asks.0; op = asks.1; body = asks.2 } in
    let last : now.merge.last ≡ Some pair = c.in_ok-pair.ensures.last ∙ ap (last_after first.merge.last) c.in-Some.is in
    let left_yet : is_left first.merge.last first.merge.floor pair ≡ true = subst (λ (o : Option Pair). IfSome o (λ p. is_left first.merge.last first.merge.floor p ≡ true)) c.in-Some.is c.in_ok-pair.ensures.behind in
    let behind : Behind first.merge.last pair = sym (left_is first.merge.last first.merge.floor pair c.requires.can.floor_is) ∙ left_yet in
    subst (λ (t : Turn). TurnGives (AreHits content op words now.merge.last c.args.floor) left t) (sym c.turn_of-2.ensures.is)
    (turn_met content op words first others is.asked c.args.floor left now.merge.last pair c.requires.can.floor_is (subst (λ (o : Option Pair). IsLeast (asked_lists content first.op first.body) first.merge.last first.merge.floor o) c.in-Some.is (c.in_ok-pair.ensures.ok content is.searching).0) last are c.in_ok-met.met (omega (arith, c.if-pair-floor.false))
    (c.in_ok-met.ensures.meets content (from_pair v w op words first now others content change pair behind is)).0)

pub returns-clause-rises : goal.returns-clause-rises
returns-clause-rises g c passed =
    let v = g.H.Host.view c.args.host.now in
    let w = g.H.Host.view c.next.new.host in
    let first = c.args.first.now in
    let now = c.next.new.self in
    let others = c.args.others.now in
    let pair = c.in-Some.pair in
    let change = c.next.ensures.read.changes in
    let asks = c.next.ensures.asked in
    let asked : AsksAgain first now = record { index = asks.0; op = asks.1; body = asks.2 } in
    let last : now.merge.last ≡ Some pair = c.in_ok-pair.ensures.last ∙ ap (last_after first.merge.last) c.in-Some.is in
    let left_yet : is_left first.merge.last first.merge.floor pair ≡ true = subst (λ (o : Option Pair). IfSome o (λ p. is_left first.merge.last first.merge.floor p ≡ true)) c.in-Some.is c.in_ok-pair.ensures.behind in
    let behind : Behind first.merge.last pair = sym (left_is first.merge.last first.merge.floor pair c.requires.can.floor_is) ∙ left_yet in
    (pair, last, behind, c.turn_of-2.ensures.fits.0, c.turn_of-2.ensures.fits.1)

pub returns-clause-reads : goal.returns-clause-reads
returns-clause-reads g c op words content is =
    let v = g.H.Host.view c.args.host.now in
    let w = g.H.Host.view c.next.new.host in
    let first = c.args.first.now in
    let now = c.next.new.self in
    let others = c.args.others.now in
    let pair = c.in-Some.pair in
    let change = c.next.ensures.read.changes in
    let asks = c.next.ensures.asked in
    let asked : AsksAgain first now = record { index = asks.0; op = asks.1; body = asks.2 } in
    let last : now.merge.last ≡ Some pair = c.in_ok-pair.ensures.last ∙ ap (last_after first.merge.last) c.in-Some.is in
    let left_yet : is_left first.merge.last first.merge.floor pair ≡ true = subst (λ (o : Option Pair). IfSome o (λ p. is_left first.merge.last first.merge.floor p ≡ true)) c.in-Some.is c.in_ok-pair.ensures.behind in
    let behind : Behind first.merge.last pair = sym (left_is first.merge.last first.merge.floor pair c.requires.can.floor_is) ∙ left_yet in
    let one = c.in_ok-pair.ensures.reads content is.searching in
    let two = c.in_ok-met.ensures.reads content (from_pair v w op words first now others content change pair behind is) in
    omega (arith, one, two)

pub returns-clause-can : goal.returns-clause-can
returns-clause-can g c =
    let v = g.H.Host.view c.args.host.now in
    let w = g.H.Host.view c.next.new.host in
    let first = c.args.first.now in
    let now = c.next.new.self in
    let others = c.args.others.now in
    let pair = c.in-Some.pair in
    let change = c.next.ensures.read.changes in
    let asks = c.next.ensures.asked in
    let asked : AsksAgain first now = record { index = asks.0; op = asks.1; body = asks.2 } in
    let last : now.merge.last ≡ Some pair = c.in_ok-pair.ensures.last ∙ ap (last_after first.merge.last) c.in-Some.is in
    let left_yet : is_left first.merge.last first.merge.floor pair ≡ true = subst (λ (o : Option Pair). IfSome o (λ p. is_left first.merge.last first.merge.floor p ≡ true)) c.in-Some.is c.in_ok-pair.ensures.behind in
    let behind : Behind first.merge.last pair = sym (left_is first.merge.last first.merge.floor pair c.requires.can.floor_is) ∙ left_yet in
    let u = g.H.Host.view c.others_meet.new.host in
    let new = c.others_meet.new.others in
    let again = c.others_meet.ensures.asked in
    let after = c.others_meet.ensures.read.changes in
    can_others_on w u now others new after again c.in_ok-met.ensures.can (can_first_on v w first now others change asks.0 c.in_ok-pair.ensures.floor c.in_ok-pair.ensures.search c.requires.can)

pub returns-clause-read : goal.returns-clause-read
returns-clause-read g c =
    let v = g.H.Host.view c.args.host.now in
    let w = g.H.Host.view c.next.new.host in
    let first = c.args.first.now in
    let now = c.next.new.self in
    let others = c.args.others.now in
    let pair = c.in-Some.pair in
    let change = c.next.ensures.read.changes in
    let asks = c.next.ensures.asked in
    let asked : AsksAgain first now = record { index = asks.0; op = asks.1; body = asks.2 } in
    let last : now.merge.last ≡ Some pair = c.in_ok-pair.ensures.last ∙ ap (last_after first.merge.last) c.in-Some.is in
    let left_yet : is_left first.merge.last first.merge.floor pair ≡ true = subst (λ (o : Option Pair). IfSome o (λ p. is_left first.merge.last first.merge.floor p ≡ true)) c.in-Some.is c.in_ok-pair.ensures.behind in
    let behind : Behind first.merge.last pair = sym (left_is first.merge.last first.merge.floor pair c.requires.can.floor_is) ∙ left_yet in
    let u = g.H.Host.view c.others_meet.new.host in
    let new = c.others_meet.new.others in
    let again = c.others_meet.ensures.asked in
    let after = c.others_meet.ensures.read.changes in
    let named = indexes_are first.index v others c.requires.can.follow in
    streamed_then _ _ _ _ _ _ _ _ v w u (streamed _ _ _ v w first.index.file c.next.ensures.read)
    (streamed_others first.index _ _ _ w u others new named c.others_meet.ensures.read)

pub returns-clause-faults : goal.returns-clause-faults
returns-clause-faults g c =
    let v = g.H.Host.view c.args.host.now in
    let w = g.H.Host.view c.next.new.host in
    let first = c.args.first.now in
    let now = c.next.new.self in
    let others = c.args.others.now in
    let pair = c.in-Some.pair in
    let change = c.next.ensures.read.changes in
    let asks = c.next.ensures.asked in
    let asked : AsksAgain first now = record { index = asks.0; op = asks.1; body = asks.2 } in
    let last : now.merge.last ≡ Some pair = c.in_ok-pair.ensures.last ∙ ap (last_after first.merge.last) c.in-Some.is in
    let left_yet : is_left first.merge.last first.merge.floor pair ≡ true = subst (λ (o : Option Pair). IfSome o (λ p. is_left first.merge.last first.merge.floor p ≡ true)) c.in-Some.is c.in_ok-pair.ensures.behind in
    let behind : Behind first.merge.last pair = sym (left_is first.merge.last first.merge.floor pair c.requires.can.floor_is) ∙ left_yet in
    let u = g.H.Host.view c.others_meet.new.host in
    let new = c.others_meet.new.others in
    let again = c.others_meet.ensures.asked in
    let after = c.others_meet.ensures.read.changes in
    let named = indexes_are first.index v others c.requires.can.follow in
    faults_ok _ _ _ _ v u c.in_ok-met.met _ (faults_then _ _ _ _ _ v w u c.in_ok-pair.field-0 _ (λ content is. (content, from_pair v w is.0 is.1 first now others content change pair behind is.2))
    (faults_as _ _ _ (IsSearching v first) (AskedOf v first others) v w _ (λ damage is. is) (λ content is. (content, is.2.searching))
    (faults_ok _ _ _ (IsSearching v first) v w c.in_ok-pair.field-0 c.in_ok-pair.field-0 (faults_of first.index.file (ShowsIndex first.index) (IsSearching v first) v w _ _ change c.in_ok-pair.ensures.causes c.in_ok-pair.ensures.damaged c.in_ok-pair.ensures.undamaged)))
    (others_faults first.index w u pair others new _ named after c.in_ok-met.ensures.faults))
