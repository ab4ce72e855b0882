use Rattle.std.proofs.Common.{◌≡◌, ◌∙◌, ◌==◌, List, [], Option, Some, length, sym, ap, subst}
use Rattle.std.proofs.lemmas.Result.{err_from_is_err_and}
use Rattle.std.specs.List.{list_any}
use Rattle.sasi_types.specs.declared.partitioner.Partitioner.{Partitioner}
use Rattle.sasi_host.specs.Names.{Folder}
use Rattle.sasi_model.specs.Tokens.{same}
use Rattle.sasi_datawrite.specs.Format.{Content}
use Rattle.sasi_ranges.specs.declared.entry.Entry.{Entry}
use Rattle.sasi_ranges.proofs.Calling.{can_still, faults_handed, faults_ok, faults_then, files_same, streamed_then}
use Rattle.sasi_lookup.specs.Lookups.{IsLookingIn, IsRight}
use Rattle.sasi_recheck.specs.Sources.{Candidate}
use Rattle.sasi_engine.specs.TokenHits.{contents_in_files}
use Rattle.sasi_engine.specs.inside.KeyedSteps.{KeyLeaves}
use Rattle.sasi_engine.specs.inside.Steps.{AreKeysLeft}
use Rattle.sasi_engine.proofs.HandLaws.{same_hand}
use Rattle.sasi_engine.proofs.KeyedTurns.{key_turned, look_within, none_left, some_there, stream_within}
use Rattle.sasi_engine.proofs.LookedLaws.{none_there}
use Rattle.sasi_engine.proofs.SourceCalls.{can_hits, can_lookup, hand_still, hits_faults, lookup_faults, read_hits, read_lookup}
use Rattle.sasi_engine.proofs.keyed_hits.turn_to_key.Goals as goal

-- ---- the stream of hits

pub entries_with-requires-clause-read : goal.entries_with-requires-clause-read
entries_with-requires-clause-read g c = can_hits _ (g.S.TokenStream.opens c.args.hits.now) c.args.hand.now (g.H.Host.view c.args.host.now) c.requires.read

pub returns-in_err-entries-clause-reads : goal.returns-in_err-entries-clause-reads
returns-in_err-entries-clause-reads g c w book left most is small pays =
    let S = g.S.TokenStream in
    let u = g.H.Host.view c.args.host.now in
    stream_within w u.files book (S.leaves c.args.hits.now u.files) c.args.hand.now c.args.key.now left is most u.reads (g.H.Host.view c.entries_with.new.host).reads (c.entries_with.ensures.reads most pays)

pub returns-in_err-entries-clause-ready : goal.returns-in_err-entries-clause-ready
returns-in_err-entries-clause-ready g c =
    hand_still c.args.hand.now _ _ (files_same (g.H.Host.view c.args.host.now) (g.H.Host.view c.entries_with.new.host) c.entries_with.ensures.read.changes) c.requires.ready

pub returns-in_err-entries-clause-same : goal.returns-in_err-entries-clause-same
returns-in_err-entries-clause-same g c = same_hand c.args.hand.now

pub returns-in_err-entries-clause-read : goal.returns-in_err-entries-clause-read
returns-in_err-entries-clause-read g c = read_hits _ _ _ _ _ c.args.hand.now (g.H.Host.view c.args.host.now) (g.H.Host.view c.entries_with.new.host) c.entries_with.ensures.read

pub returns-in_err-entries-clause-faults : goal.returns-in_err-entries-clause-faults
returns-in_err-entries-clause-faults g c book =
    let q = err_from_is_err_and c.from_residual.result c.from_residual.ensures.1 in
    let u = g.H.Host.view c.args.host.now in
    let w = g.H.Host.view c.entries_with.new.host in
    rw (q.1, q.2) (hits_faults _ _ c.args.hand.now _ _ u w _ (files_same u w c.entries_with.ensures.read.changes) (λ left is. (is.1.are_left.entries, is.1.are_left.given))
    (faults_handed _ _ _ _ u w c.entries_with.result c.in_err-entries.field-0.0 c.in_err-entries.was (λ es is. (es, is)) c.entries_with.ensures.faults))

-- ---- no entry has the token

pub returns-then-is_empty-clause-turned : goal.returns-then-is_empty-clause-turned
returns-then-is_empty-clause-turned g c w book left is =
    let S = g.S.TokenStream in
    let u = g.H.Host.view c.args.host.now in
    let none : c.in_ok-entries.entries.items ≡ [] = none_there c.in_ok-entries.entries.items (sym (c.is_empty.ensures ∙ ap (λ (l : List Entry). length l == 0) c.as_slice.ensures.value) ∙ c.if-is_empty.true) in
    none_left w u.files book (S.leaves c.args.hits.now u.files) c.args.hand.now c.args.key.now left is (sym (c.in_ok-entries.ensures.takes is.are_left.entries is.are_left.given) ∙ none)

pub returns-then-is_empty-clause-reads : goal.returns-then-is_empty-clause-reads
returns-then-is_empty-clause-reads g c w book left most is small pays =
    let S = g.S.TokenStream in
    let u = g.H.Host.view c.args.host.now in
    stream_within w u.files book (S.leaves c.args.hits.now u.files) c.args.hand.now c.args.key.now left is most u.reads (g.H.Host.view c.entries_with.new.host).reads (c.entries_with.ensures.reads most pays)

pub returns-then-is_empty-clause-ready : goal.returns-then-is_empty-clause-ready
returns-then-is_empty-clause-ready g c =
    hand_still c.args.hand.now _ _ (files_same (g.H.Host.view c.args.host.now) (g.H.Host.view c.entries_with.new.host) c.entries_with.ensures.read.changes) c.requires.ready

pub returns-then-is_empty-clause-same : goal.returns-then-is_empty-clause-same
returns-then-is_empty-clause-same g c = same_hand c.args.hand.now

pub returns-then-is_empty-clause-read : goal.returns-then-is_empty-clause-read
returns-then-is_empty-clause-read g c = read_hits _ _ _ _ _ c.args.hand.now (g.H.Host.view c.args.host.now) (g.H.Host.view c.entries_with.new.host) c.entries_with.ensures.read

pub returns-then-is_empty-clause-faults : goal.returns-then-is_empty-clause-faults
returns-then-is_empty-clause-faults g c book =
    let u = g.H.Host.view c.args.host.now in
    let w = g.H.Host.view c.entries_with.new.host in
    hits_faults _ _ c.args.hand.now _ _ u w _ (files_same u w c.entries_with.ensures.read.changes) (λ left is. (is.1.are_left.entries, is.1.are_left.given)) (faults_ok _ _ _ _ u w c.in_ok-entries.entries _ c.in_ok-entries.ensures.faults)

-- ---- the keys of the token

pub turn_hand-requires-clause-read : goal.turn_hand-requires-clause-read
turn_hand-requires-clause-read g c =
    let S = g.S.TokenStream in
    let u = g.H.Host.view c.args.host.now in
    let v = g.H.Host.view c.entries_with.new.host in
    can_lookup _ (S.opens c.entries_with.new.hits) c.args.hand.now v (can_still _ _ _ _ _ _ u v c.requires.read (read_hits _ _ _ _ _ c.args.hand.now u v c.entries_with.ensures.read))

pub turn_hand-requires-clause-ready : goal.turn_hand-requires-clause-ready
turn_hand-requires-clause-ready g c =
    hand_still c.args.hand.now _ _ (files_same (g.H.Host.view c.args.host.now) (g.H.Host.view c.entries_with.new.host) c.entries_with.ensures.read.changes) c.requires.ready

pub returns-in_err-turn_hand-clause-reads : goal.returns-in_err-turn_hand-clause-reads
returns-in_err-turn_hand-clause-reads g c w book left most is small pays =
    let S = g.S.TokenStream in
    let u = g.H.Host.view c.args.host.now in
    let v = g.H.Host.view c.entries_with.new.host in
    let first = files_same u v c.entries_with.ensures.read.changes in
    let hand = c.args.hand.now in
    look_within w u.files book (S.leaves c.args.hits.now u.files) hand c.args.key.now left is small most u.reads v.reads (g.H.Host.view c.turn_hand.new.host).reads (c.entries_with.ensures.reads most pays)
    (c.turn_hand.ensures.reads w.partitioner (contents_in_files w.parts) (subst (λ (f : Option Folder). IsLookingIn f w.partitioner (contents_in_files w.parts) hand.lookup) (sym first) is.are_left.looks))

pub returns-in_err-turn_hand-clause-read : goal.returns-in_err-turn_hand-clause-read
returns-in_err-turn_hand-clause-read g c =
    let u = g.H.Host.view c.args.host.now in
    let v = g.H.Host.view c.entries_with.new.host in
    let w = g.H.Host.view c.turn_hand.new.host in
    streamed_then _ _ _ _ _ _ _ _ u v w (read_hits _ _ _ _ _ c.args.hand.now u v c.entries_with.ensures.read) (read_lookup _ _ _ (g.S.TokenStream.opens c.entries_with.new.hits) c.args.hand.now c.turn_hand.new.hand v w c.turn_hand.ensures.read)

pub returns-in_err-turn_hand-clause-faults : goal.returns-in_err-turn_hand-clause-faults
returns-in_err-turn_hand-clause-faults g c book =
    let q = err_from_is_err_and c.from_residual-in_err-turn_hand.result c.from_residual-in_err-turn_hand.ensures.1 in
    let S = g.S.TokenStream in
    let u = g.H.Host.view c.args.host.now in
    let v = g.H.Host.view c.entries_with.new.host in
    let w = g.H.Host.view c.turn_hand.new.host in
    let first = files_same u v c.entries_with.ensures.read.changes in
    let second = files_same v w c.turn_hand.ensures.read.changes in
    let hand = c.args.hand.now in
    let right : (left : List Candidate) → KeyLeaves (S.leaves c.args.hits.now u.files) hand (Some c.args.key.now) u.files book left → (has : Partitioner × List Content) × IsRight v.files hand.lookup has =
    λ left is. ((is.0.partitioner, contents_in_files is.0.parts), subst (λ (f : Option Folder). IsLookingIn f is.0.partitioner (contents_in_files is.0.parts) hand.lookup) (sym first) is.1.are_left.looks) in
    rw (q.1, q.2) (faults_then _ _ _ _ _ u v w c.in_ok-entries.entries _ right
    (hits_faults _ _ hand _ _ u v _ first (λ left is. (is.1.are_left.entries, is.1.are_left.given)) c.in_ok-entries.ensures.faults)
    (lookup_faults (S.shows c.entries_with.new.hits) hand c.turn_hand.new.hand _ _ v w _ second (λ has is. (has, is)) (faults_handed _ _ _ _ v w c.turn_hand.result c.in_err-turn_hand.field-0.0 c.in_err-turn_hand.was (λ has is. (has, is)) c.turn_hand.ensures.faults)))

-- ---- the keys are in hand

pub returns-clause-turned : goal.returns-clause-turned
returns-clause-turned g c w book left is =
    let S = g.S.TokenStream in
    let u = g.H.Host.view c.args.host.now in
    let v = g.H.Host.view c.entries_with.new.host in
    let x = g.H.Host.view c.turn_hand.new.host in
    let first = files_same u v c.entries_with.ensures.read.changes in
    let both = files_same v x c.turn_hand.ensures.read.changes ∙ first in
    let hand = c.args.hand.now in
    let new = c.turn_hand.new.hand in
    let key = c.args.key.now in
    let contents = contents_in_files w.parts in
    let takes = c.in_ok-entries.ensures.takes is.are_left.entries is.are_left.given in
    let looks = subst (λ (f : Option Folder). IsLookingIn f w.partitioner contents hand.lookup) (sym first) is.are_left.looks in
    key_turned w u.files book (S.leaves c.args.hits.now u.files) hand key left is new c.turn_hand.ensures.same
    (subst (λ (es : List Entry). AreKeysLeft new key.token es) (c.deref.ensures.value ∙ takes) c.in_ok-turn_hand.ensures.left)
    (c.in_ok-turn_hand.ensures.keys w.partitioner contents looks)
    (subst (λ (f : Option Folder). IsLookingIn f w.partitioner contents new.lookup) both (c.turn_hand.ensures.looks w.partitioner contents looks))
    (λ none. some_there c.in_ok-entries.entries.items (sym (c.is_empty.ensures ∙ ap (λ (l : List Entry). length l == 0) c.as_slice.ensures.value) ∙ c.if-is_empty.false) (takes ∙ none))
    c.has_key.result (c.has_key.ensures ∙ ap (list_any (same key.key)) c.deref-2.ensures.value)

pub returns-clause-reads : goal.returns-clause-reads
returns-clause-reads g c w book left most is small pays =
    let S = g.S.TokenStream in
    let u = g.H.Host.view c.args.host.now in
    let v = g.H.Host.view c.entries_with.new.host in
    let first = files_same u v c.entries_with.ensures.read.changes in
    let hand = c.args.hand.now in
    look_within w u.files book (S.leaves c.args.hits.now u.files) hand c.args.key.now left is small most u.reads v.reads (g.H.Host.view c.turn_hand.new.host).reads (c.entries_with.ensures.reads most pays)
    (c.turn_hand.ensures.reads w.partitioner (contents_in_files w.parts) (subst (λ (f : Option Folder). IsLookingIn f w.partitioner (contents_in_files w.parts) hand.lookup) (sym first) is.are_left.looks))

pub returns-clause-read : goal.returns-clause-read
returns-clause-read g c =
    let u = g.H.Host.view c.args.host.now in
    let v = g.H.Host.view c.entries_with.new.host in
    let w = g.H.Host.view c.turn_hand.new.host in
    streamed_then _ _ _ _ _ _ _ _ u v w (read_hits _ _ _ _ _ c.args.hand.now u v c.entries_with.ensures.read) (read_lookup _ _ _ (g.S.TokenStream.opens c.entries_with.new.hits) c.args.hand.now c.turn_hand.new.hand v w c.turn_hand.ensures.read)

pub returns-clause-faults : goal.returns-clause-faults
returns-clause-faults g c book =
    let S = g.S.TokenStream in
    let u = g.H.Host.view c.args.host.now in
    let v = g.H.Host.view c.entries_with.new.host in
    let w = g.H.Host.view c.turn_hand.new.host in
    let first = files_same u v c.entries_with.ensures.read.changes in
    let second = files_same v w c.turn_hand.ensures.read.changes in
    let hand = c.args.hand.now in
    let right : (left : List Candidate) → KeyLeaves (S.leaves c.args.hits.now u.files) hand (Some c.args.key.now) u.files book left → (has : Partitioner × List Content) × IsRight v.files hand.lookup has =
    λ left is. ((is.0.partitioner, contents_in_files is.0.parts), subst (λ (f : Option Folder). IsLookingIn f is.0.partitioner (contents_in_files is.0.parts) hand.lookup) (sym first) is.1.are_left.looks) in
    faults_then _ _ _ _ _ u v w c.in_ok-entries.entries _ right
    (hits_faults _ _ hand _ _ u v _ first (λ left is. (is.1.are_left.entries, is.1.are_left.given)) c.in_ok-entries.ensures.faults)
    (lookup_faults (S.shows c.entries_with.new.hits) hand c.turn_hand.new.hand _ _ v w _ second (λ has is. (has, is)) (faults_ok _ _ _ _ v w c.in_ok-turn_hand.field-0 _ c.in_ok-turn_hand.ensures.faults))
