use Rattle.std.proofs.Common.{◌≡◌, ◌∙◌, List, Option, None, Some, Ok, sym, ap, subst}
use Rattle.std.proofs.lemmas.Result.{err_from_is_err_and}
use Rattle.sasi_ranges.specs.declared.entry.Entry.{Entry}
use Rattle.sasi_ranges.proofs.Calling.{can_still, faults_handed, faults_ok, faults_then, files_same, spent_err, streamed_then}
use Rattle.sasi_types.specs.declared.partitioner.Partitioner.{Partitioner}
use Rattle.sasi_host.specs.Names.{Folder}
use Rattle.sasi_datawrite.specs.Format.{Content}
use Rattle.sasi_lookup.specs.Lookups.{IsLookingIn, IsRight}
use Rattle.sasi_recheck.specs.Sources.{Candidate}
use Rattle.sasi_engine.specs.declared.step.Outcome.TheVariants.{Ended, Passed}
use Rattle.sasi_engine.specs.TokenHits.{contents_in_files}
use Rattle.sasi_engine.specs.inside.Steps.{AreKeysLeft, SourceLeaves, SourceOwes, StepGives, StepSpends, first_token}
use Rattle.sasi_engine.proofs.HandLaws.{same_hand}
use Rattle.sasi_engine.proofs.SourceCalls.{can_lookup, hand_still, hits_faults, lookup_faults, read_hits, read_lookup}
use Rattle.sasi_engine.proofs.TurnLaws.{stream_fails_owing, turn_ends, turn_ends_owing, turn_fails_owing, turn_passes, turn_passes_owing}
use Rattle.sasi_engine.proofs.step.turn.Goals as goal

-- ---- the stream of hits fails

pub returns-in_err-entries-clause-reads : goal.returns-in_err-entries-clause-reads
returns-in_err-entries-clause-reads g c most owed prices is =
    let q = err_from_is_err_and c.from_residual.result c.from_residual.ensures.1 in
    let S = g.S.TokenStream in
    let u = g.H.Host.view c.args.host.now in
    let w = g.H.Host.view c.next_token.new.host in
    rw q.1 (stream_fails_owing u.files c.args.maps.now (S.leaves c.args.hits.now u.files) (S.pays c.args.hits.now u.files) c.args.ahead.now c.args.hand.now most owed prices u.reads w.reads
    (λ m pays. spent_err _ m u.reads w.reads c.next_token.result c.in_err-entries.field-0.0 c.in_err-entries.was (c.next_token.ensures.reads m pays)) is)

pub returns-in_err-entries-clause-ready : goal.returns-in_err-entries-clause-ready
returns-in_err-entries-clause-ready g c =
    hand_still c.args.hand.now _ _ (files_same (g.H.Host.view c.args.host.now) (g.H.Host.view c.next_token.new.host) c.next_token.ensures.read.changes) c.requires.ready

pub returns-in_err-entries-clause-same : goal.returns-in_err-entries-clause-same
returns-in_err-entries-clause-same g c = same_hand c.args.hand.now

pub returns-in_err-entries-clause-read : goal.returns-in_err-entries-clause-read
returns-in_err-entries-clause-read g c = read_hits _ _ _ _ _ c.args.hand.now (g.H.Host.view c.args.host.now) (g.H.Host.view c.next_token.new.host) c.next_token.ensures.read

pub returns-in_err-entries-clause-faults : goal.returns-in_err-entries-clause-faults
returns-in_err-entries-clause-faults g c =
    let q = err_from_is_err_and c.from_residual.result c.from_residual.ensures.1 in
    let u = g.H.Host.view c.args.host.now in
    let w = g.H.Host.view c.next_token.new.host in
    rw (q.1, q.2) (hits_faults _ _ c.args.hand.now _ _ u w _ (files_same u w c.next_token.ensures.read.changes) (λ left is. (is.1.entries, is.1.given))
    (faults_handed _ _ _ _ u w c.next_token.result c.in_err-entries.field-0.0 c.in_err-entries.was (λ es is. (es, is)) c.next_token.ensures.faults))

-- ---- no token is left

pub returns-in_default-clause-gives : goal.returns-in_default-clause-gives
returns-in_default-clause-gives g c left is =
    let S = g.S.TokenStream in
    let u = g.H.Host.view c.args.host.now in
    let w = g.H.Host.view c.next_token.new.host in
    let Left = S.leaves c.next_token.new.hits w.files in
    let same = files_same u w c.next_token.ensures.read.changes in
    let end : first_token c.in_ok-entries.entries.items ≡ None = sym (c.first_token.ensures ∙ ap first_token c.deref.ensures.value) ∙ c.in_default.is in
    subst (λ (f : Option Folder). StepGives (SourceLeaves Left c.next_token.new.ahead c.args.hand.now f c.args.maps.now) left Ended) (sym same)
    (turn_ends u.files c.args.maps.now (S.leaves c.args.hits.now u.files) Left c.args.ahead.now c.next_token.new.ahead c.args.hand.now c.requires.none c.in_ok-entries.entries.items c.in_ok-entries.ensures.takes end left is)

pub returns-in_default-clause-reads : goal.returns-in_default-clause-reads
returns-in_default-clause-reads g c most owed prices is =
    let S = g.S.TokenStream in
    let u = g.H.Host.view c.args.host.now in
    let w = g.H.Host.view c.next_token.new.host in
    let Left = S.leaves c.next_token.new.hits w.files in
    let After = S.pays c.next_token.new.hits w.files in
    let same = files_same u w c.next_token.ensures.read.changes in
    let end : first_token c.in_ok-entries.entries.items ≡ None = sym (c.first_token.ensures ∙ ap first_token c.deref.ensures.value) ∙ c.in_default.is in
    subst (λ (f : Option Folder). StepSpends (SourceOwes Left After c.next_token.new.ahead c.args.hand.now f c.args.maps.now) most owed prices u.reads w.reads (Ok Ended)) (sym same)
    (turn_ends_owing u.files c.args.maps.now (S.leaves c.args.hits.now u.files) Left c.args.ahead.now c.next_token.new.ahead c.args.hand.now c.requires.none c.in_ok-entries.entries.items c.in_ok-entries.ensures.takes end
    (S.pays c.args.hits.now u.files) After most owed prices u.reads w.reads c.in_ok-entries.ensures.reads is)

pub returns-in_default-clause-ready : goal.returns-in_default-clause-ready
returns-in_default-clause-ready g c =
    hand_still c.args.hand.now _ _ (files_same (g.H.Host.view c.args.host.now) (g.H.Host.view c.next_token.new.host) c.next_token.ensures.read.changes) c.requires.ready

pub returns-in_default-clause-same : goal.returns-in_default-clause-same
returns-in_default-clause-same g c = same_hand c.args.hand.now

pub returns-in_default-clause-read : goal.returns-in_default-clause-read
returns-in_default-clause-read g c = read_hits _ _ _ _ _ c.args.hand.now (g.H.Host.view c.args.host.now) (g.H.Host.view c.next_token.new.host) c.next_token.ensures.read

pub returns-in_default-clause-faults : goal.returns-in_default-clause-faults
returns-in_default-clause-faults g c =
    let u = g.H.Host.view c.args.host.now in
    let w = g.H.Host.view c.next_token.new.host in
    hits_faults _ _ c.args.hand.now _ _ u w _ (files_same u w c.next_token.ensures.read.changes) (λ left is. (is.1.entries, is.1.given)) (faults_ok _ _ _ _ u w c.in_ok-entries.entries _ c.in_ok-entries.ensures.faults)

-- ---- the next token

pub turn_hand-requires-clause-read : goal.turn_hand-requires-clause-read
turn_hand-requires-clause-read g c =
    let S = g.S.TokenStream in
    let u = g.H.Host.view c.args.host.now in
    let v = g.H.Host.view c.next_token.new.host in
    can_lookup _ (S.opens c.next_token.new.hits) c.args.hand.now v (can_still _ _ _ _ _ _ u v c.requires.read (read_hits _ _ _ _ _ c.args.hand.now u v c.next_token.ensures.read))

pub turn_hand-requires-clause-ready : goal.turn_hand-requires-clause-ready
turn_hand-requires-clause-ready g c =
    hand_still c.args.hand.now _ _ (files_same (g.H.Host.view c.args.host.now) (g.H.Host.view c.next_token.new.host) c.next_token.ensures.read.changes) c.requires.ready

pub returns-in_err-turn_hand-clause-reads : goal.returns-in_err-turn_hand-clause-reads
returns-in_err-turn_hand-clause-reads g c most owed prices is =
    let q = err_from_is_err_and c.from_residual-in_err-turn_hand.result c.from_residual-in_err-turn_hand.ensures.1 in
    let S = g.S.TokenStream in
    let u = g.H.Host.view c.args.host.now in
    let v = g.H.Host.view c.next_token.new.host in
    let w = g.H.Host.view c.turn_hand.new.host in
    let first = files_same u v c.next_token.ensures.read.changes in
    let hand = c.args.hand.now in
    let begins : first_token c.in_ok-entries.entries.items ≡ Some c.in-Some.token = sym (c.first_token.ensures ∙ ap first_token c.deref.ensures.value) ∙ c.in-Some.is in
    rw q.1 (turn_fails_owing u.files c.args.maps.now (S.leaves c.args.hits.now u.files) (S.leaves c.next_token.new.hits v.files) c.args.ahead.now c.next_token.new.ahead hand c.requires.none c.in_ok-entries.entries.items c.in_ok-entries.ensures.takes c.in-Some.token begins
    (S.pays c.args.hits.now u.files) (S.pays c.next_token.new.hits v.files) most owed prices u.reads v.reads w.reads c.in_ok-entries.ensures.reads
    (λ p contents looks. c.turn_hand.ensures.reads p contents (subst (λ (f : Option Folder). IsLookingIn f p contents hand.lookup) (sym first) looks)) is)

pub returns-in_err-turn_hand-clause-read : goal.returns-in_err-turn_hand-clause-read
returns-in_err-turn_hand-clause-read g c =
    let u = g.H.Host.view c.args.host.now in
    let v = g.H.Host.view c.next_token.new.host in
    let w = g.H.Host.view c.turn_hand.new.host in
    streamed_then _ _ _ _ _ _ _ _ u v w (read_hits _ _ _ _ _ c.args.hand.now u v c.next_token.ensures.read) (read_lookup _ _ _ (g.S.TokenStream.opens c.next_token.new.hits) c.args.hand.now c.turn_hand.new.hand v w c.turn_hand.ensures.read)

pub returns-in_err-turn_hand-clause-faults : goal.returns-in_err-turn_hand-clause-faults
returns-in_err-turn_hand-clause-faults g c =
    let q = err_from_is_err_and c.from_residual-in_err-turn_hand.result c.from_residual-in_err-turn_hand.ensures.1 in
    let S = g.S.TokenStream in
    let u = g.H.Host.view c.args.host.now in
    let v = g.H.Host.view c.next_token.new.host in
    let w = g.H.Host.view c.turn_hand.new.host in
    let first = files_same u v c.next_token.ensures.read.changes in
    let second = files_same v w c.turn_hand.ensures.read.changes in
    let hand = c.args.hand.now in
    let right : (left : List Candidate) → SourceLeaves (S.leaves c.args.hits.now u.files) c.args.ahead.now hand u.files c.args.maps.now left → (has : Partitioner × List Content) × IsRight v.files hand.lookup has =
    λ left is. ((is.0.partitioner, contents_in_files is.0.parts), subst (λ (f : Option Folder). IsLookingIn f is.0.partitioner (contents_in_files is.0.parts) hand.lookup) (sym first) is.1.looks) in
    rw (q.1, q.2) (faults_then _ _ _ _ _ u v w c.in_ok-entries.entries _ right
    (hits_faults _ _ hand _ _ u v _ first (λ left is. (is.1.entries, is.1.given)) c.in_ok-entries.ensures.faults)
    (lookup_faults (S.shows c.next_token.new.hits) hand c.turn_hand.new.hand _ _ v w _ second (λ has is. (has, is)) (faults_handed _ _ _ _ v w c.turn_hand.result c.in_err-turn_hand.field-0.0 c.in_err-turn_hand.was (λ has is. (has, is)) c.turn_hand.ensures.faults)))

pub returns-clause-gives : goal.returns-clause-gives
returns-clause-gives g c left is =
    let S = g.S.TokenStream in
    let u = g.H.Host.view c.args.host.now in
    let v = g.H.Host.view c.next_token.new.host in
    let w = g.H.Host.view c.turn_hand.new.host in
    let first = files_same u v c.next_token.ensures.read.changes in
    let both = files_same v w c.turn_hand.ensures.read.changes ∙ first in
    let hand = c.args.hand.now in
    let new = c.turn_hand.new.hand in
    let begins : first_token c.in_ok-entries.entries.items ≡ Some c.in-Some.token = sym (c.first_token.ensures ∙ ap first_token c.deref.ensures.value) ∙ c.in-Some.is in
    subst (λ (f : Option Folder). SourceLeaves (S.leaves c.next_token.new.hits f) c.next_token.new.ahead new w.files c.args.maps.now left) (sym (files_same v w c.turn_hand.ensures.read.changes))
    (subst (λ (f : Option Folder). SourceLeaves (S.leaves c.next_token.new.hits v.files) c.next_token.new.ahead new f c.args.maps.now left) (sym both)
    (turn_passes u.files c.args.maps.now (S.leaves c.args.hits.now u.files) (S.leaves c.next_token.new.hits v.files) c.args.ahead.now c.next_token.new.ahead hand c.requires.none c.in_ok-entries.entries.items c.in_ok-entries.ensures.takes c.in-Some.token begins
    new c.turn_hand.ensures.same (subst (λ (es : List Entry). AreKeysLeft new c.in-Some.token es) c.deref-2.ensures.value c.in_ok-turn_hand.ensures.left)
    (λ p contents looks. c.in_ok-turn_hand.ensures.keys p contents (subst (λ (f : Option Folder). IsLookingIn f p contents hand.lookup) (sym first) looks))
    (λ p contents looks. subst (λ (f : Option Folder). IsLookingIn f p contents new.lookup) both (c.turn_hand.ensures.looks p contents (subst (λ (f : Option Folder). IsLookingIn f p contents hand.lookup) (sym first) looks)))
    left is))

pub returns-clause-reads : goal.returns-clause-reads
returns-clause-reads g c most owed prices is =
    let S = g.S.TokenStream in
    let u = g.H.Host.view c.args.host.now in
    let v = g.H.Host.view c.next_token.new.host in
    let w = g.H.Host.view c.turn_hand.new.host in
    let first = files_same u v c.next_token.ensures.read.changes in
    let second = files_same v w c.turn_hand.ensures.read.changes in
    let both = second ∙ first in
    let hand = c.args.hand.now in
    let new = c.turn_hand.new.hand in
    let begins : first_token c.in_ok-entries.entries.items ≡ Some c.in-Some.token = sym (c.first_token.ensures ∙ ap first_token c.deref.ensures.value) ∙ c.in-Some.is in
    subst (λ (f : Option Folder). StepSpends (SourceOwes (S.leaves c.next_token.new.hits f) (S.pays c.next_token.new.hits f) c.next_token.new.ahead new w.files c.args.maps.now) most owed prices u.reads w.reads (Ok Passed)) (sym second)
    (subst (λ (f : Option Folder). StepSpends (SourceOwes (S.leaves c.next_token.new.hits v.files) (S.pays c.next_token.new.hits v.files) c.next_token.new.ahead new f c.args.maps.now) most owed prices u.reads w.reads (Ok Passed)) (sym both)
    (turn_passes_owing u.files c.args.maps.now (S.leaves c.args.hits.now u.files) (S.leaves c.next_token.new.hits v.files) c.args.ahead.now c.next_token.new.ahead hand c.requires.none c.in_ok-entries.entries.items c.in_ok-entries.ensures.takes c.in-Some.token begins
    new c.turn_hand.ensures.same (subst (λ (es : List Entry). AreKeysLeft new c.in-Some.token es) c.deref-2.ensures.value c.in_ok-turn_hand.ensures.left)
    (λ p contents looks. c.in_ok-turn_hand.ensures.keys p contents (subst (λ (f : Option Folder). IsLookingIn f p contents hand.lookup) (sym first) looks))
    (λ p contents looks. subst (λ (f : Option Folder). IsLookingIn f p contents new.lookup) both (c.turn_hand.ensures.looks p contents (subst (λ (f : Option Folder). IsLookingIn f p contents hand.lookup) (sym first) looks)))
    (S.pays c.args.hits.now u.files) (S.pays c.next_token.new.hits v.files) most owed prices u.reads v.reads w.reads c.in_ok-entries.ensures.reads
    (λ p contents looks. c.turn_hand.ensures.reads p contents (subst (λ (f : Option Folder). IsLookingIn f p contents hand.lookup) (sym first) looks)) is))

pub returns-clause-hits_ready : goal.returns-clause-hits_ready
returns-clause-hits_ready g c =
    subst (λ (f : Option Folder). g.S.TokenStream.ready c.next_token.new.hits f) (sym (files_same (g.H.Host.view c.next_token.new.host) (g.H.Host.view c.turn_hand.new.host) c.turn_hand.ensures.read.changes)) c.in_ok-entries.ensures.ready

pub returns-clause-read : goal.returns-clause-read
returns-clause-read g c =
    let u = g.H.Host.view c.args.host.now in
    let v = g.H.Host.view c.next_token.new.host in
    let w = g.H.Host.view c.turn_hand.new.host in
    streamed_then _ _ _ _ _ _ _ _ u v w (read_hits _ _ _ _ _ c.args.hand.now u v c.next_token.ensures.read) (read_lookup _ _ _ (g.S.TokenStream.opens c.next_token.new.hits) c.args.hand.now c.turn_hand.new.hand v w c.turn_hand.ensures.read)

pub returns-clause-faults : goal.returns-clause-faults
returns-clause-faults g c =
    let S = g.S.TokenStream in
    let u = g.H.Host.view c.args.host.now in
    let v = g.H.Host.view c.next_token.new.host in
    let w = g.H.Host.view c.turn_hand.new.host in
    let first = files_same u v c.next_token.ensures.read.changes in
    let second = files_same v w c.turn_hand.ensures.read.changes in
    let hand = c.args.hand.now in
    let right : (left : List Candidate) → SourceLeaves (S.leaves c.args.hits.now u.files) c.args.ahead.now hand u.files c.args.maps.now left → (has : Partitioner × List Content) × IsRight v.files hand.lookup has =
    λ left is. ((is.0.partitioner, contents_in_files is.0.parts), subst (λ (f : Option Folder). IsLookingIn f is.0.partitioner (contents_in_files is.0.parts) hand.lookup) (sym first) is.1.looks) in
    faults_then _ _ _ _ _ u v w c.in_ok-entries.entries _ right
    (hits_faults _ _ hand _ _ u v _ first (λ left is. (is.1.entries, is.1.given)) c.in_ok-entries.ensures.faults)
    (lookup_faults (S.shows c.next_token.new.hits) hand c.turn_hand.new.hand _ _ v w _ second (λ has is. (has, is)) (faults_ok _ _ _ _ v w c.in_ok-turn_hand.field-0 _ c.in_ok-turn_hand.ensures.faults))
