use Rattle.std.proofs.Common.{◌≡◌, Bool, List, ◌++◌, true, length, map, take, drop, sym, ap, ◌∙◌, subst}
use Rattle.std.specs.Prelude.{IsTrue, ◌&&◌}
use Rattle.std.specs.List.{AllByRecursion}
use Rattle.sasi_types.specs.Token.{token_of}
use Rattle.sasi_pairs.specs.Gathered.{CanIndex, CanTake, GatheredIndex, defs_of, with_partition}
use Rattle.sasi_pairs.specs.PairViews.{IsPairing, KeepsPostings, PairView}
use Rattle.sasi_pairs.proofs.Replaced.{all_of_defs}
use Rattle.sasi_pairs.proofs.PushLaws.{first_up, given_back, keeps_push, keeps_unusable, pairing_push, pairing_with}
use Rattle.sasi_pairs.proofs.writer.PairWriter.push.Goals as goal

pub invariant_of-self : goal.invariant_of-self
invariant_of-self g c =
    let back : take c.self.inside.builders.len (c.push_partition.new.builders ++ drop (length c.push_partition.new.builders) c.self.inside.builders.items) ≡ c.push_partition.new.builders =
    given_back c.self.inside.builders.len c.push_partition.new.builders c.self.inside.builders.items (sym (ap (λ (l : List GatheredIndex). length l) c.deref_mut.ensures.value) ∙ c.deref_mut.ensures.len)
    (c.push_partition.ensures.defs ∙ ap defs_of c.deref_mut.ensures.value) in
    keeps_unusable c.self.inside.file c.self.inside.writer c.push_partition.new.writer c.self.inside.builders.items
    (take c.self.inside.builders.len (c.push_partition.new.builders ++ drop (length c.push_partition.new.builders) c.self.inside.builders.items)) c.self.inside.usable c.self.invariant c.push_partition.ensures.file
    (ap defs_of back ∙ c.push_partition.ensures.defs ∙ ap defs_of c.deref_mut.ensures.value)

pub invariant_of-self-2 : goal.invariant_of-self-2
invariant_of-self-2 g c =
    let back : take c.self.inside.builders.len (c.push_partition.new.builders ++ drop (length c.push_partition.new.builders) c.self.inside.builders.items) ≡ c.push_partition.new.builders =
    given_back c.self.inside.builders.len c.push_partition.new.builders c.self.inside.builders.items (sym (ap (λ (l : List GatheredIndex). length l) c.deref_mut.ensures.value) ∙ c.deref_mut.ensures.len)
    (c.push_partition.ensures.defs ∙ ap defs_of c.deref_mut.ensures.value) in
    let up : c.self.inside.usable ≡ true = first_up c.self.inside.usable c.self.inside.writer.usable (subst (λ (v : PairView). IsTrue v.writer.usable) (sym c.self.view_is) c.requires.usable) in
    keeps_push c.self.inside.file c.self.inside.writer c.push_partition.new.writer c.self.inside.builders.items
    (take c.self.inside.builders.len (c.push_partition.new.builders ++ drop (length c.push_partition.new.builders) c.self.inside.builders.items)) (token_of c.self.inside.writer.partitioner c.args.key.now) c.args.part.now
    (subst (λ (b : Bool). KeepsPostings c.self.inside.file c.self.inside.writer c.self.inside.builders.items b) up c.self.invariant) c.push_partition.ensures.file
    (ap defs_of back ∙ c.push_partition.ensures.defs ∙ ap defs_of c.deref_mut.ensures.value) c.in_ok-push_partition.ensures.later
    (back ∙ c.in_ok-push_partition.ensures.indexes ∙ ap (map (with_partition (record { token = token_of c.self.inside.writer.partitioner c.args.key.now; place = c.self.inside.writer.offset }) c.args.part.now)) c.deref_mut.ensures.value)

pub returns-clause-ok : goal.returns-clause-ok
returns-clause-ok g c content pairing =
    let back : take c.self.inside.builders.len (c.push_partition.new.builders ++ drop (length c.push_partition.new.builders) c.self.inside.builders.items) ≡ c.push_partition.new.builders =
    given_back c.self.inside.builders.len c.push_partition.new.builders c.self.inside.builders.items (sym (ap (λ (l : List GatheredIndex). length l) c.deref_mut.ensures.value) ∙ c.deref_mut.ensures.len)
    (c.push_partition.ensures.defs ∙ ap defs_of c.deref_mut.ensures.value) in
    pairing_push (g.H.Host.view c.args.host.now) (g.H.Host.view c.push_partition.new.host) c.self.inside.writer c.push_partition.new.writer c.self.inside.builders.items
    (take c.self.inside.builders.len (c.push_partition.new.builders ++ drop (length c.push_partition.new.builders) c.self.inside.builders.items)) content c.args.key.now c.args.part.now c.push_partition.ensures.partitioner
    (back ∙ c.in_ok-push_partition.ensures.indexes ∙ ap (map (with_partition (record { token = token_of c.self.inside.writer.partitioner c.args.key.now; place = c.self.inside.writer.offset }) c.args.part.now)) c.deref_mut.ensures.value)
    (c.in_ok-push_partition.ensures.ok content)
    (pairing_with (g.H.Host.view c.args.host.now) c.self.inside.writer (c.self.inside.usable && c.self.inside.writer.usable) c.self.inside.builders.items content
    (subst (λ (v : PairView). IsPairing (g.H.Host.view c.args.host.now) v content) (sym c.self.view_is) pairing))

pub push_partition-requires-clause-typed : goal.push_partition-requires-clause-typed
push_partition-requires-clause-typed g c =
    subst (λ (l : List GatheredIndex). AllByRecursion (CanTake c.args.part.now) l) (sym c.deref_mut.ensures.value)
    (all_of_defs (CanIndex c.args.part.now) c.self.inside.builders.items (subst (λ (v : PairView). AllByRecursion (CanIndex c.args.part.now) (defs_of v.indexes)) (sym c.self.view_is) c.requires.typed))
