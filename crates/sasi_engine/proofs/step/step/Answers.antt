use Rattle.std.proofs.Common.{◌∙◌, ◌==◌, ℕ, List, Option, IfOk, OnOk, length, refl, sym, ap, subst}
use Rattle.sasi_host.specs.Names.{Folder}
use Rattle.sasi_ranges.proofs.Calling.{files_same}
use Rattle.sasi_engine.specs.declared.hand.Hand.{Hand}
use Rattle.sasi_engine.specs.inside.Steps.{SourceLeaves, SourceOwes, StepGives, StepSpends}
use Rattle.sasi_engine.proofs.HandLaws.{always_ok, turned_ready}
use Rattle.sasi_engine.proofs.LookedLaws.{IsTaken, looked_owing, looked_result, looked_turned, none_there}
use Rattle.sasi_engine.proofs.SourceCalls.{can_lookup, lookup_faults, read_lookup}
use Rattle.sasi_engine.proofs.step.step.Goals as goal

pub turn-requires-clause-none : goal.turn-requires-clause-none
turn-requires-clause-none g c = none_there c.args.hand.now.keys.items (sym (c.is_empty.ensures ∙ ap (λ (keys : List (List ℕ)). length keys == 0) c.as_slice.ensures.value) ∙ c.if-is_empty.true)

pub returns-then-is_empty-clause-prints : goal.returns-then-is_empty-clause-prints
returns-then-is_empty-clause-prints g c kind has = c.turn.ensures.prints kind

pub look_up-requires-clause-read : goal.look_up-requires-clause-read
look_up-requires-clause-read g c = can_lookup _ (g.S.TokenStream.opens c.args.hits.now) c.args.hand.now (g.H.Host.view c.args.host.now) c.requires.read

pub returns-clause-gives : goal.returns-clause-gives
returns-clause-gives g c left is =
    let S = g.S.TokenStream in
    let u = g.H.Host.view c.args.host.now in
    let w = g.H.Host.view c.look_up.new.host in
    let same = files_same u w c.look_up.ensures.read.changes in
    let hand = c.args.hand.now in
    let new : Hand = record hand { keys = c.pop.new.self } in
    let taken : IsTaken hand new c.in-Some.key = record { keys_are = c.in-Some.ensures.items; relations_are = refl; parts_are = refl; maps_are = refl; lookup_is = refl; token_is = refl } in
    subst (λ (f : Option Folder). IfOk c.look_up.result (StepGives (SourceLeaves (S.leaves c.args.hits.now f) c.args.ahead.now new f c.args.maps.now) left)) (sym same)
    (looked_result is.0 u.files c.args.maps.now (S.leaves c.args.hits.now u.files) c.args.ahead.now hand new c.in-Some.key taken left is.1 c.look_up.result c.look_up.ensures.found)

pub returns-clause-reads : goal.returns-clause-reads
returns-clause-reads g c most owed prices is =
    let S = g.S.TokenStream in
    let u = g.H.Host.view c.args.host.now in
    let w = g.H.Host.view c.look_up.new.host in
    let same = files_same u w c.look_up.ensures.read.changes in
    let hand = c.args.hand.now in
    let new : Hand = record hand { keys = c.pop.new.self } in
    let taken : IsTaken hand new c.in-Some.key = record { keys_are = c.in-Some.ensures.items; relations_are = refl; parts_are = refl; maps_are = refl; lookup_is = refl; token_is = refl } in
    subst (λ (f : Option Folder). StepSpends (SourceOwes (S.leaves c.args.hits.now f) (S.pays c.args.hits.now f) c.args.ahead.now new f c.args.maps.now) most owed prices u.reads w.reads c.look_up.result) (sym same)
    (looked_owing is.0 u.files c.args.maps.now (S.leaves c.args.hits.now u.files) (S.pays c.args.hits.now u.files) c.args.ahead.now hand new c.in-Some.key taken most owed prices is.1 u.reads w.reads c.look_up.ensures.reads c.look_up.result c.look_up.ensures.found)

pub returns-clause-hits_ready : goal.returns-clause-hits_ready
returns-clause-hits_ready g c =
    let same = files_same (g.H.Host.view c.args.host.now) (g.H.Host.view c.look_up.new.host) c.look_up.ensures.read.changes in
    subst (λ (f : Option Folder). OnOk c.look_up.result (g.S.TokenStream.ready c.args.hits.now f)) (sym same) (always_ok _ c.look_up.result c.requires.hits_ready)

pub returns-clause-ready : goal.returns-clause-ready
returns-clause-ready g c =
    let hand = c.args.hand.now in
    let new : Hand = record hand { keys = c.pop.new.self } in
    turned_ready hand new _ _ (record { relations_are = refl; parts_are = refl; maps_are = refl; files_are = record { types_are = refl; names_are = refl } }) c.look_up.ensures.ready c.requires.ready

pub returns-clause-same : goal.returns-clause-same
returns-clause-same g c = record { relations_are = refl; parts_are = refl; maps_are = refl; files_are = record { types_are = refl; names_are = refl } }

pub returns-clause-read : goal.returns-clause-read
returns-clause-read g c =
    let hand = c.args.hand.now in
    let new : Hand = record hand { keys = c.pop.new.self } in
    read_lookup _ _ _ (g.S.TokenStream.opens c.args.hits.now) hand new (g.H.Host.view c.args.host.now) (g.H.Host.view c.look_up.new.host) c.look_up.ensures.read

pub returns-clause-faults : goal.returns-clause-faults
returns-clause-faults g c =
    let S = g.S.TokenStream in
    let u = g.H.Host.view c.args.host.now in
    let w = g.H.Host.view c.look_up.new.host in
    let hand = c.args.hand.now in
    let new : Hand = record hand { keys = c.pop.new.self } in
    let taken : IsTaken hand new c.in-Some.key = record { keys_are = c.in-Some.ensures.items; relations_are = refl; parts_are = refl; maps_are = refl; lookup_is = refl; token_is = refl } in
    lookup_faults (S.shows c.args.hits.now) hand new _ _ u w _ (files_same u w c.look_up.ensures.read.changes)
    (λ left is. looked_turned is.0 u.files c.args.maps.now (S.leaves c.args.hits.now u.files) c.args.ahead.now hand new c.in-Some.key taken left is.1) c.look_up.ensures.faults
