use Rattle.std.proofs.Common.{List, map, refl, subst, sym, ◌∙◌}
use Rattle.std.specs.FinMap as fin
use Rattle.std.specs.List.{AllByRecursion}
use Rattle.std.proofs.lemmas.Result.{err_from_is_err_and}
use Rattle.sasi_types.specs.declared.class.Class.{Class}
use Rattle.sasi_types.specs.declared.index_def.IndexDef.{IndexDef}
use Rattle.sasi_pairs.specs.Gathered.{LacksClass, defs_of}
use Rattle.sasi_tables.specs.Held.{KnowsDef}
use Rattle.sasi_tables.proofs.MapWriting.{takes_next, touches_also, writes_all, writes_next, writes_none}
use Rattle.sasi_tables.proofs.PushFaults.{lacks_none, push_stops}
use Rattle.sasi_tables.proofs.flush_file.write_map.Goals as goal

pub loop-key-init : goal.loop-key-init
loop-key-init g c = record {
  on = writes_none (g.H.Host.view c.args.host.now) c.args.files.now c.args.memtable.now.partitions c.into_iter-key-iterator.result
      (c.into_iter-key-iterator.ensures.into_iter_gives ∙ c.iter-key-items.ensures.rest)
      c.requires.decorated c.requires.bodies c.requires.typed c.requires.begun c.requires.room c.requires.usable;
  kinds = refl;
}

pub push-requires-clause-typed : goal.push-requires-clause-typed
push-requires-clause-typed g c =
    takes_next (g.H.Host.view c.args.host.now) (g.H.Host.view c.loop-key.host) c.args.files.now c.loop-key.files (fin.entries c.args.memtable.now.partitions) c.loop-key.key-iterator c.next.new.self
    (c.in-Some.key.now, c.in-Some.partition.now) c.in-Some.ensures.steps c.loop-key.invariant.on

pub loop-key-preserved : goal.loop-key-preserved
loop-key-preserved g c = record {
  on = writes_next (g.H.Host.view c.args.host.now) (g.H.Host.view c.loop-key.host) c.args.files.now c.loop-key.files (fin.entries c.args.memtable.now.partitions) c.loop-key.key-iterator c.next.new.self
      (c.in-Some.key.now, c.in-Some.partition.now) c.in-Some.ensures.steps c.loop-key.invariant.on (g.H.Host.view c.push.new.host) c.push.new.self
      c.in_ok-push.ensures.ok c.in_ok-push.ensures.last c.in_ok-push.ensures.room c.in_ok-push.ensures.usable c.push.ensures.file c.push.ensures.partitioner c.push.ensures.defs c.push.ensures.changes
      c.in_ok-push.ensures.causes.ok c.push.ensures.causes.out c.push.ensures.causes.reads;
  kinds = c.push.ensures.classes ∙ c.loop-key.invariant.kinds;
}

pub returns-in_err-push-clause-changes : goal.returns-in_err-push-clause-changes
returns-in_err-push-clause-changes g c =
    touches_also (g.H.Host.view c.args.host.now) (g.H.Host.view c.loop-key.host) (g.H.Host.view c.push.new.host) c.args.files.now.writer.file c.loop-key.files.writer.file c.loop-key.invariant.on.file c.loop-key.invariant.on.changes c.push.ensures.changes

pub returns-in_err-push-clause-causes : goal.returns-in_err-push-clause-causes
returns-in_err-push-clause-causes g c =
    let on = c.loop-key.invariant.on in
    let kinds = map (λ b. (goal.Analyzer-dyn g (b.vtable, b.value)).kind b.value) c.loop-key.kit.objects.items in
    let known : AllByRecursion (KnowsDef kinds) (defs_of c.loop-key.files.indexes) =
    subst (λ (ds : List IndexDef). AllByRecursion (KnowsDef kinds) ds) (sym on.defs) (subst (λ (ks : List Class). AllByRecursion (KnowsDef ks) (defs_of c.args.files.now.indexes)) (sym c.loop-key.invariant.kinds) c.requires.known) in
    let p = err_from_is_err_and c.from_residual.result c.from_residual.ensures.1 in
    rw (p.1, p.2) (push_stops (LacksClass kinds (defs_of c.loop-key.files.indexes)) (g.H.Host.view c.args.host.now) (g.H.Host.view c.loop-key.host) (g.H.Host.view c.push.new.host) c.in_err-push.field-0.0 on.disk on.out on.reads
    (lacks_none kinds (defs_of c.loop-key.files.indexes) known) c.in_err-push.ensures.causes)

pub returns-clause-written : goal.returns-clause-written
returns-clause-written g c =
    writes_all (g.H.Host.view c.args.host.now) (g.H.Host.view c.loop-key.host) c.args.files.now c.loop-key.files c.args.memtable.now.partitions c.loop-key.key-iterator c.in-None.ensures.steps.0 c.loop-key.invariant.on
