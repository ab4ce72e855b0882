use Rattle.std.proofs.Common.{◌∙◌, List, length, map, reverse, refl, sym, ap, subst}
use Rattle.std.proofs.lemmas.Result.{err_from_is_err_and}
use Rattle.std.specs.List.{AllByRecursion}
use Rattle.sasi_narrow.specs.declared.part_hits.PartHits.{PartHits}
use Rattle.sasi_narrow.specs.Narrowing.{AreInOrder, AreThose, TellsOf, has_entry, is_left}
use Rattle.sasi_lookup.specs.Files.{LookedFile}
use Rattle.sasi_ranges.proofs.Calling.{faults_handed, faults_memory, faults_ok}
use Rattle.sasi_engine.proofs.HandLaws.{same_count, turned_ready}
use Rattle.sasi_engine.proofs.hand.turn_hand.Goals as goal

pub returns-in_err-turn_to-clause-ready : goal.returns-in_err-turn_to-clause-ready
returns-in_err-turn_to-clause-ready g c =
    turned_ready c.args.hand.now (record c.args.hand.now { lookup = c.turn_to.new.self }) _ _ (record { relations_are = refl; parts_are = refl; maps_are = refl; files_are = c.turn_to.ensures.same }) c.turn_to.ensures.ready c.requires.ready

pub returns-in_err-turn_to-clause-faults : goal.returns-in_err-turn_to-clause-faults
returns-in_err-turn_to-clause-faults g c =
    let q = err_from_is_err_and c.from_residual.result c.from_residual.ensures.1 in
    rw (q.1, q.2) (faults_handed _ _ _ _ (g.H.Host.view c.args.host.now) (g.H.Host.view c.turn_to.new.host) c.turn_to.result c.in_err-turn_to.field-0.0 c.in_err-turn_to.was (λ has is. (has, is)) c.turn_to.ensures.faults)

pub keys_left-requires-clause-told : goal.keys_left-requires-clause-told
keys_left-requires-clause-told g c =
    subst (λ (parts : List PartHits). AllByRecursion (TellsOf c.args.hand.now.relations (length c.files.result.now)) parts) (sym c.deref.ensures.value)
    (subst (λ n. AllByRecursion (TellsOf c.args.hand.now.relations n) c.args.hand.now.parts.items) (sym (ap (λ (fs : List LookedFile). length fs) c.files.ensures ∙ same_count c.args.hand.now.lookup c.turn_to.new.self c.turn_to.ensures.same)) c.requires.ready.told)

pub returns-in_err-keys-clause-ready : goal.returns-in_err-keys-clause-ready
returns-in_err-keys-clause-ready g c =
    turned_ready c.args.hand.now (record c.args.hand.now { lookup = c.turn_to.new.self }) _ _ (record { relations_are = refl; parts_are = refl; maps_are = refl; files_are = c.turn_to.ensures.same }) c.turn_to.ensures.ready c.requires.ready

pub returns-in_err-keys-clause-faults : goal.returns-in_err-keys-clause-faults
returns-in_err-keys-clause-faults g c =
    let q = err_from_is_err_and c.from_residual-in_err-keys.result c.from_residual-in_err-keys.ensures.1 in
    rw (q.1, q.2) (faults_memory _ _ _ _ (g.H.Host.view c.args.host.now) (g.H.Host.view c.turn_to.new.host) c.in_ok-turn_to.field-0 c.in_ok-turn_to.ensures.faults)

pub returns-clause-left : goal.returns-clause-left
returns-clause-left g c = record {
  token_is = refl;
  rise = c.in_ok-keys.ensures.rise;
  are = λ order.
      let given = c.in_ok-keys.ensures.are (subst (λ (parts : List PartHits). AreInOrder c.args.entries.now parts) (sym c.deref.ensures.value) order) in
      subst (λ (files : List LookedFile). AreThose (is_left c.args.token (has_entry c.args.entries.now) (map (λ (file : LookedFile). file.keys) files) c.args.hand.now.parts.items c.args.hand.now.relations) (reverse c.in_ok-keys.keys.items)) c.files.ensures
      (subst (λ (parts : List PartHits). AreThose (is_left c.args.token (has_entry c.args.entries.now) (map (λ (file : LookedFile). file.keys) c.files.result.now) parts c.args.hand.now.relations) (reverse c.in_ok-keys.keys.items)) c.deref.ensures.value given);
}

pub returns-clause-ready : goal.returns-clause-ready
returns-clause-ready g c =
    turned_ready c.args.hand.now (record c.args.hand.now { lookup = c.turn_to.new.self; token = c.args.token; keys = c.in_ok-keys.keys }) _ _ (record { relations_are = refl; parts_are = refl; maps_are = refl; files_are = c.turn_to.ensures.same }) c.turn_to.ensures.ready c.requires.ready

pub returns-clause-faults : goal.returns-clause-faults
returns-clause-faults g c = faults_ok _ _ _ _ (g.H.Host.view c.args.host.now) (g.H.Host.view c.turn_to.new.host) c.in_ok-turn_to.field-0 _ c.in_ok-turn_to.ensures.faults
