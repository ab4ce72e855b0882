use Rattle.std.specs.Prelude.{max, ◌∷◌, []}
use Rattle.std.proofs.Common.{Ok, ap, refl, sym, subst, ◌∙◌, ℕ, ◌≡◌, ◌-◌, Some, slice_get, arith}
use Rattle.std.proofs.lemmas.Result.{err_from_is_err_and}
use Rattle.sasi_types.specs.Token.{AreBytes}
use Rattle.sasi_layout.specs.Moves.{Put}
use Rattle.sasi_layout.specs.Serving.{StoreInMemory}
use Rattle.sasi_tables.specs.Held.{held_of}
use Rattle.sasi_tables.specs.MakesMoves.{MakesMoves}
use Rattle.sasi_tables.specs.TablesView.{memory_of}
use Rattle.sasi_tables.specs.declared.fault.StepFault.TheVariants.{OutOfMemory}
use Rattle.sasi_tables.specs.Faults.{fault_of_call}
use Rattle.sasi_tables.proofs.MoveCauses.{call_failed, call_made, call_plain, made_then_full}
use Rattle.sasi_tables.proofs.Putting.{has_table, map_there_for, put_at, put_can, put_known, put_made, put_maps, put_memory, put_stopped, put_tables_are, put_there}
use Rattle.sasi_tables.proofs.PinnedMaps.{pinned_put}
use Rattle.sasi_tables.proofs.TablesInMemory.{inside_there}
use Rattle.sasi_tables.specs.declared.table_maps.TableMaps.{TableMaps}
use Rattle.sasi_tables.proofs.writes.put.Goals as goal

pub merge-requires-clause-there : goal.merge-requires-clause-there
merge-requires-clause-there g c = map_there_for (g.H.Host.view c.args.host.now) c.args.parts.now c.args.mutation c.requires.ready c.requires.parts c.requires.writable

pub merge-requires-clause-can : goal.merge-requires-clause-can
merge-requires-clause-can g c = put_can (g.H.Host.view c.args.host.now) c.args.parts.now c.args.mutation c.requires.ready c.requires.parts c.requires.writable

pub merge-requires-clause-known : goal.merge-requires-clause-known
merge-requires-clause-known g c = put_known (g.H.Host.view c.args.host.now) c.args.parts.now c.args.mutation c.requires.ready c.requires.parts c.requires.writable _ c.requires.classes

pub returns-in_err-append-clause-makes : goal.returns-in_err-append-clause-makes
returns-in_err-append-clause-makes g c =
    let p = err_from_is_err_and c.from_residual.result c.from_residual.ensures.1 in
    let a = g.H.Host.view c.args.host.now in
    let b = g.H.Host.view c.append.new.host in
    let bytes = subst AreBytes c.bytes.ensures c.note_bytes.ensures in
    rw (p.1, p.2) (put_stopped a b (g.met.H.Host.sound c.args.host.now) (memory_of c.args.parts.now) c.args.mutation c.requires.ready c.requires.writable bytes _ (fault_of_call c.in_err-append.field-0.0)
    c.append.ensures.any_moment c.append.ensures.changes c.in_err-append.ensures.causes.reads (call_plain c.in_err-append.field-0.0) (call_failed a b c.in_err-append.field-0.0 c.in_err-append.ensures.causes))

pub returns-in_err-time-clause-makes : goal.returns-in_err-time-clause-makes
returns-in_err-time-clause-makes g c =
    let p = err_from_is_err_and c.from_residual-in_err-time.result c.from_residual-in_err-time.ensures.1 in
    let a = g.H.Host.view c.args.host.now in
    let b = g.H.Host.view c.append.new.host in
    let bytes = subst AreBytes c.bytes.ensures c.note_bytes.ensures in
    rw (p.1, p.2) (put_stopped a b (g.met.H.Host.sound c.args.host.now) (memory_of c.args.parts.now) c.args.mutation c.requires.ready c.requires.writable bytes _ OutOfMemory
    c.append.ensures.any_moment c.append.ensures.changes c.in_ok-append.ensures.causes.reads tt (made_then_full a b _ c.in_ok-append.ensures.causes))

pub returns-clause-makes : goal.returns-clause-makes
returns-clause-makes g c =
    let a = g.H.Host.view c.args.host.now in
    let b = g.H.Host.view c.append.new.host in
    let bytes = subst AreBytes c.bytes.ensures c.note_bytes.ensures in
    let there = has_table a c.args.parts.now c.args.mutation.table c.requires.writable.definition c.requires.ready c.requires.writable.some c.requires.writable.there in
    let at = put_at (g.H.Host.view c.args.host.now) c.args.parts.now c.args.mutation c.requires.ready c.requires.parts c.requires.writable c.merge.new.tables.items c.merge.new.maps c.in_ok-time.ensures.ok in
    let e = c.in_ok-append.ensures in
    subst (λ (s : StoreInMemory). MakesMoves (λ l. Put c.args.mutation ∷ []) a b (memory_of c.args.parts.now) s (Ok tt))
    (sym (put_memory c.args.parts.now c.args.mutation c.requires.parts there (held_of c.merge.new.maps c.merge.new.tables.items) at c.append.new.self _ (c.max-parts.ensures ∙ ap (λ (n : ℕ). max c.args.parts.now.max_timestamp n) c.in_ok-time.ensures.time)))
    (put_made a b (g.met.H.Host.sound c.args.host.now) (memory_of c.args.parts.now) c.args.mutation c.requires.ready c.requires.writable bytes tt c.append.new.self
    e.any_moment e.changes e.ok e.file e.room e.usable e.causes.reads (call_made a b _ tt e.causes))

pub returns-clause-parts : goal.returns-clause-parts
returns-clause-parts g c =
    let a = g.H.Host.view c.args.host.now in
    let there = has_table a c.args.parts.now c.args.mutation.table c.requires.writable.definition c.requires.ready c.requires.writable.some c.requires.writable.there in
    let at = put_at (g.H.Host.view c.args.host.now) c.args.parts.now c.args.mutation c.requires.ready c.requires.parts c.requires.writable c.merge.new.tables.items c.merge.new.maps c.in_ok-time.ensures.ok in
    record {
      regular = c.requires.parts.regular;
      tables = put_tables_are c.args.parts.now c.args.mutation c.requires.parts there (held_of c.merge.new.maps c.merge.new.tables.items) at;
      mapped = put_maps (g.H.Host.view c.args.host.now) c.args.parts.now c.args.mutation c.requires.ready c.requires.parts c.requires.writable c.merge.new.tables.items c.merge.new.maps c.in_ok-time.ensures.ok;
    }

pub returns-clause-there : goal.returns-clause-there
returns-clause-there g c =
    let a = g.H.Host.view c.args.host.now in
    let there = has_table a c.args.parts.now c.args.mutation.table c.requires.writable.definition c.requires.ready c.requires.writable.some c.requires.writable.there in
    let at = put_at (g.H.Host.view c.args.host.now) c.args.parts.now c.args.mutation c.requires.ready c.requires.parts c.requires.writable c.merge.new.tables.items c.merge.new.maps c.in_ok-time.ensures.ok in
    put_there c.args.parts.now c.args.mutation c.requires.parts there (held_of c.merge.new.maps c.merge.new.tables.items) at

pub returns-clause-knows : goal.returns-clause-knows
returns-clause-knows g c = record {
  definitions_are = refl;
  timestamp_is = c.max-parts.ensures ∙ ap (λ (n : ℕ). max c.args.parts.now.max_timestamp n) c.in_ok-time.ensures.time;
}

pub returns-clause-pinned : goal.returns-clause-pinned
returns-clause-pinned g c views =
    let p = c.args.parts.now in
    let at = c.args.mutation.table - 1 in
    let has = map_there_for (g.H.Host.view c.args.host.now) p c.args.mutation c.requires.ready c.requires.parts c.requires.writable in
    let own : (t : TableMaps) × (slice_get p.tables.items at ≡ Some t) = inside_there p.tables.items at (omega (arith, has.some, has.inside)) in
    pinned_put views p _ p.numbers.log c.args.mutation own.0 own.1 (c.in_ok-time.ensures.ok own.0 own.1) refl
