use Rattle.std.proofs.Common.{List, Option, Some, map, refl, subst, sym, ◌∙◌}
use Rattle.std.specs.FinMap as fin
use Rattle.std.specs.List.{AllByRecursion}
use Rattle.std.proofs.lemmas.Result.{err_from_is_err_and}
use Rattle.sasi_types.specs.declared.class.Class.{Class}
use Rattle.sasi_types.specs.declared.decorated_key.DecoratedKey.{DecoratedKey}
use Rattle.sasi_types.specs.declared.index_def.IndexDef.{IndexDef}
use Rattle.sasi_model.specs.Cells.{Partition}
use Rattle.sasi_pairs.specs.Gathered.{LacksClass, defs_of}
use Rattle.sasi_tables.specs.Held.{KnowsDef, maps_with, merged_in}
use Rattle.sasi_tables.specs.MergedMaps.{GivesNext, merged_after}
use Rattle.sasi_tables.proofs.MapWriting.{takes_next, touches_also, writes_all, writes_next, writes_none}
use Rattle.sasi_tables.proofs.MergedMaps.{merged_all, next_is, next_none}
use Rattle.sasi_tables.proofs.PushFaults.{lacks_none, memory_stops, push_stops}
use Rattle.sasi_tables.proofs.flush_file.write_merged.Goals as goal

pub loop-turn-init : goal.loop-turn-init
loop-turn-init g c = record {
  on = writes_none (g.H.Host.view c.args.host.now) c.args.files.now (merged_in c.args.maps.now c.args.unflushed.now) _ (merged_all (maps_with c.args.maps.now c.args.unflushed.now))
      c.requires.decorated c.requires.bodies c.requires.typed c.requires.begun c.requires.room c.requires.usable;
  kinds = refl;
}

pub returns-in_err-found-clause-causes : goal.returns-in_err-found-clause-causes
returns-in_err-found-clause-causes g c =
    let on = c.loop-turn.invariant.on in
    let p = err_from_is_err_and c.from_residual.result c.from_residual.ensures.1 in
    rw (p.1, p.2) (memory_stops (g.H.Host.view c.args.host.now) (g.H.Host.view c.loop-turn.host) on.disk on.out on.reads)

pub returns-in_default-clause-written : goal.returns-in_default-clause-written
returns-in_default-clause-written g c =
    let ms = maps_with c.args.maps.now c.args.unflushed.now in
    let gives = subst (λ (l : Option DecoratedKey). GivesNext l ms c.in_ok-found.found) c.as_ref.ensures.value c.in_ok-found.ensures in
    writes_all (g.H.Host.view c.args.host.now) (g.H.Host.view c.loop-turn.host) c.args.files.now c.loop-turn.files (merged_in c.args.maps.now c.args.unflushed.now) (merged_after c.loop-turn.last ms)
    (next_none c.loop-turn.last ms c.in_ok-found.found c.in_default.is gives) c.loop-turn.invariant.on

pub push-requires-clause-typed : goal.push-requires-clause-typed
push-requires-clause-typed g c =
    let ms = maps_with c.args.maps.now c.args.unflushed.now in
    let e : DecoratedKey × Partition = (c.in-Some.key, c.in-Some.partition) in
    let gives = subst (λ (l : Option DecoratedKey). GivesNext l ms c.in_ok-found.found) c.as_ref.ensures.value c.in_ok-found.ensures in
    takes_next (g.H.Host.view c.args.host.now) (g.H.Host.view c.loop-turn.host) c.args.files.now c.loop-turn.files (fin.entries (merged_in c.args.maps.now c.args.unflushed.now)) (merged_after c.loop-turn.last ms) (merged_after (Some c.in-Some.key) ms) e
    (next_is c.loop-turn.last ms c.in_ok-found.found e c.in-Some.is gives) c.loop-turn.invariant.on

pub loop-turn-preserved : goal.loop-turn-preserved
loop-turn-preserved g c =
    let ms = maps_with c.args.maps.now c.args.unflushed.now in
    let e : DecoratedKey × Partition = (c.in-Some.key, c.in-Some.partition) in
    let gives = subst (λ (l : Option DecoratedKey). GivesNext l ms c.in_ok-found.found) c.as_ref.ensures.value c.in_ok-found.ensures in
    record {
      on = writes_next (g.H.Host.view c.args.host.now) (g.H.Host.view c.loop-turn.host) c.args.files.now c.loop-turn.files (fin.entries (merged_in c.args.maps.now c.args.unflushed.now)) (merged_after c.loop-turn.last ms) (merged_after (Some c.in-Some.key) ms) e
          (next_is c.loop-turn.last ms c.in_ok-found.found e c.in-Some.is gives) c.loop-turn.invariant.on (g.H.Host.view c.push.new.host) c.push.new.self
          c.in_ok-push.ensures.ok c.in_ok-push.ensures.last c.in_ok-push.ensures.room c.in_ok-push.ensures.usable c.push.ensures.file c.push.ensures.partitioner c.push.ensures.defs c.push.ensures.changes
          c.in_ok-push.ensures.causes.ok c.push.ensures.causes.out c.push.ensures.causes.reads;
      kinds = c.push.ensures.classes ∙ c.loop-turn.invariant.kinds;
    }

pub returns-in_err-push-clause-changes : goal.returns-in_err-push-clause-changes
returns-in_err-push-clause-changes g c =
    touches_also (g.H.Host.view c.args.host.now) (g.H.Host.view c.loop-turn.host) (g.H.Host.view c.push.new.host) c.args.files.now.writer.file c.loop-turn.files.writer.file c.loop-turn.invariant.on.file c.loop-turn.invariant.on.changes c.push.ensures.changes

pub returns-in_err-push-clause-causes : goal.returns-in_err-push-clause-causes
returns-in_err-push-clause-causes g c =
    let on = c.loop-turn.invariant.on in
    let kinds = map (λ b. (goal.Analyzer-dyn g (b.vtable, b.value)).kind b.value) c.loop-turn.kit.objects.items in
    let known : AllByRecursion (KnowsDef kinds) (defs_of c.loop-turn.files.indexes) =
    subst (λ (ds : List IndexDef). AllByRecursion (KnowsDef kinds) ds) (sym on.defs) (subst (λ (ks : List Class). AllByRecursion (KnowsDef ks) (defs_of c.args.files.now.indexes)) (sym c.loop-turn.invariant.kinds) c.requires.known) in
    let p = err_from_is_err_and c.from_residual-in_err-push.result c.from_residual-in_err-push.ensures.1 in
    rw (p.1, p.2) (push_stops (LacksClass kinds (defs_of c.loop-turn.files.indexes)) (g.H.Host.view c.args.host.now) (g.H.Host.view c.loop-turn.host) (g.H.Host.view c.push.new.host) c.in_err-push.field-0.0 on.disk on.out on.reads
    (lacks_none kinds (defs_of c.loop-turn.files.indexes) known) c.in_err-push.ensures.causes)

pub returns-clause-causes : goal.returns-clause-causes
returns-clause-causes g c = let on = c.loop-turn.invariant.on in memory_stops (g.H.Host.view c.args.host.now) (g.H.Host.view c.loop-turn.host) on.disk on.out on.reads
