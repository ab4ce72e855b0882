use Rattle.std.proofs.Common.{◌≡◌, ◌-◌, List, Some, refl, slice_get, subst, sym, arith, ◌∷◌, [], Bool, ◌∙◌}
use Rattle.std.specs.List.{AllByRecursion}
use Rattle.sasi_layout.specs.Classes.{KnowsIndexes}
use Rattle.sasi_layout.specs.Moves.{after_moves}
use Rattle.sasi_layout.specs.Serving.{CanChange, Serves, StoreInMemory}
use Rattle.sasi_tables.specs.Freezing.{HasFrozenIf, freeze_where}
use Rattle.sasi_tables.specs.Held.{HasMapFor, HeldTable, held_of, in_memory}
use Rattle.sasi_tables.specs.TablesView.{held_in, memory_of, wanted_of}
use Rattle.sasi_tables.specs.declared.table_maps.TableMaps.{TableMaps}
use Rattle.sasi_tables.proofs.FlushingParts.{memory_at, table_at}
use Rattle.sasi_tables.proofs.HeldChanges.{has_map}
use Rattle.sasi_tables.proofs.Freezing.{empty_memory, frozen_empty, frozen_knows, frozen_parts, held_memory, where_ready, where_serves}
use Rattle.std.proofs.lemmas.Result.{on_ok_weaker}
use Rattle.sasi_tables.proofs.PinnedMaps.{pinned_listed}
use Rattle.sasi_layout.specs.Statements.{any_partition}
use Rattle.sasi_tables.proofs.frozen.freeze.Goals as goal

pub holds_any-requires : goal.holds_any-requires
holds_any-requires g c =
    let p = c.args.parts.now in
    subst (λ (ts : List TableMaps). HasMapFor c.args.table ts p.maps) (sym c.deref.ensures.value) (has_map p.maps p.last_map (wanted_of p) p.tables.items c.requires.parts.mapped c.args.table c.requires.there)

pub freeze_held-requires-clause-inside : goal.freeze_held-requires-clause-inside
freeze_held-requires-clause-inside g c =
    let p = c.args.parts.now in
    let has = has_map p.maps p.last_map (wanted_of p) p.tables.items c.requires.parts.mapped c.args.table c.requires.there in
    omega (arith, has.some, has.inside)

pub freeze_held-requires-clause-known : goal.freeze_held-requires-clause-known
freeze_held-requires-clause-known g c = subst (AllByRecursion (KnowsIndexes _)) c.requires.listed c.requires.classes

pub returns-then-holds_any-clause-memory : goal.returns-then-holds_any-clause-memory
returns-then-holds_any-clause-memory g c =
    let p = c.args.parts.now in
    let own : (t : HeldTable) × (slice_get (held_in p) (c.args.table - 1) ≡ Some t) = table_at p c.args.table c.requires.there in
    let tells = c.holds_any.ensures own.0 (subst (λ (ts : List TableMaps). slice_get (held_of p.maps ts) (c.args.table - 1) ≡ Some own.0) (sym c.deref.ensures.value) own.1) in
    on_ok_weaker c.freeze_held.result (λ frozen. held_memory p c.freeze_held.new.parts c.requires.parts c.args.table c.requires.there.some own.0 own.1 (frozen own.0 own.1) c.holds_any.result c.if-holds_any.true tells) c.freeze_held.ensures.frozen

pub returns-then-holds_any-clause-serves : goal.returns-then-holds_any-clause-serves
returns-then-holds_any-clause-serves g c =
    let v = g.H.Host.view c.args.host.now in
    let p = c.args.parts.now in
    let table = c.args.table in
    let own : (t : HeldTable) × (slice_get (held_in p) (table - 1) ≡ Some t) = table_at p table c.requires.there in
    let tells = c.holds_any.ensures own.0 (subst (λ (ts : List TableMaps). slice_get (held_of p.maps ts) (table - 1) ≡ Some own.0) (sym c.deref.ensures.value) own.1) in
    on_ok_weaker c.freeze_held.result (λ frozen l serves.
    subst (λ (s : StoreInMemory). Serves v s (after_moves (freeze_where table l) l))
    (sym (held_memory p c.freeze_held.new.parts c.requires.parts table c.requires.there.some own.0 own.1 (frozen own.0 own.1) c.holds_any.result c.if-holds_any.true tells))
    (where_serves table v (memory_of p) l serves c.requires.there.some (in_memory own.0) (memory_at p table own.0 own.1)))
    c.freeze_held.ensures.frozen

pub returns-then-holds_any-clause-ready : goal.returns-then-holds_any-clause-ready
returns-then-holds_any-clause-ready g c =
    let v = g.H.Host.view c.args.host.now in
    let p = c.args.parts.now in
    let table = c.args.table in
    let own : (t : HeldTable) × (slice_get (held_in p) (table - 1) ≡ Some t) = table_at p table c.requires.there in
    let tells = c.holds_any.ensures own.0 (subst (λ (ts : List TableMaps). slice_get (held_of p.maps ts) (table - 1) ≡ Some own.0) (sym c.deref.ensures.value) own.1) in
    on_ok_weaker c.freeze_held.result (λ frozen ready.
    subst (CanChange v)
    (sym (held_memory p c.freeze_held.new.parts c.requires.parts table c.requires.there.some own.0 own.1 (frozen own.0 own.1) c.holds_any.result c.if-holds_any.true tells))
    (where_ready table (memory_of p) (in_memory own.0) (memory_at p table own.0 own.1) v ready))
    c.freeze_held.ensures.frozen

pub returns-then-holds_any-clause-knows : goal.returns-then-holds_any-clause-knows
returns-then-holds_any-clause-knows g c =
    let p = c.args.parts.now in
    let own : (t : HeldTable) × (slice_get (held_in p) (c.args.table - 1) ≡ Some t) = table_at p c.args.table c.requires.there in
    on_ok_weaker c.freeze_held.result (λ frozen. frozen_knows p c.freeze_held.new.parts c.requires.parts c.args.table c.requires.there.some own.0 own.1 (frozen own.0 own.1)) c.freeze_held.ensures.frozen

pub returns-then-holds_any-clause-parts : goal.returns-then-holds_any-clause-parts
returns-then-holds_any-clause-parts g c =
    let p = c.args.parts.now in
    let own : (t : HeldTable) × (slice_get (held_in p) (c.args.table - 1) ≡ Some t) = table_at p c.args.table c.requires.there in
    on_ok_weaker c.freeze_held.result (λ frozen. frozen_parts p c.freeze_held.new.parts c.requires.parts c.args.table c.requires.there.some own.0 own.1 (frozen own.0 own.1)) c.freeze_held.ensures.frozen

pub returns-clause-memory : goal.returns-clause-memory
returns-clause-memory g c =
    let p = c.args.parts.now in
    let own : (t : HeldTable) × (slice_get (held_in p) (c.args.table - 1) ≡ Some t) = table_at p c.args.table c.requires.there in
    let tells = c.holds_any.ensures own.0 (subst (λ (ts : List TableMaps). slice_get (held_of p.maps ts) (c.args.table - 1) ≡ Some own.0) (sym c.deref.ensures.value) own.1) in
    empty_memory p c.args.table own.0 own.1 c.holds_any.result c.if-holds_any.false tells

pub returns-clause-serves : goal.returns-clause-serves
returns-clause-serves g c l serves =
    let v = g.H.Host.view c.args.host.now in
    let p = c.args.parts.now in
    let table = c.args.table in
    let own : (t : HeldTable) × (slice_get (held_in p) (table - 1) ≡ Some t) = table_at p table c.requires.there in
    let tells = c.holds_any.ensures own.0 (subst (λ (ts : List TableMaps). slice_get (held_of p.maps ts) (table - 1) ≡ Some own.0) (sym c.deref.ensures.value) own.1) in
    subst (λ (s : StoreInMemory). Serves v s (after_moves (freeze_where table l) l)) (sym (empty_memory p table own.0 own.1 c.holds_any.result c.if-holds_any.false tells))
    (where_serves table v (memory_of p) l serves c.requires.there.some (in_memory own.0) (memory_at p table own.0 own.1))

pub returns-clause-knows : goal.returns-clause-knows
returns-clause-knows g c = record { definitions_are = refl; timestamp_is = refl }

pub returns-then-holds_any-clause-frozen : goal.returns-then-holds_any-clause-frozen
returns-then-holds_any-clause-frozen g c =
    let p = c.args.parts.now in
    let tells = subst (λ (ts : List TableMaps). (t : HeldTable) → slice_get (held_of p.maps ts) (c.args.table - 1) ≡ Some t → c.holds_any.result ≡ any_partition (t.memtable.partitions ∷ [])) c.deref.ensures.value c.holds_any.ensures in
    on_ok_weaker c.freeze_held.result (λ frozen t found. subst (λ (b : Bool). HasFrozenIf b (c.args.table - 1) t p c.freeze_held.new.parts) (sym c.if-holds_any.true ∙ tells t found) (frozen t found)) c.freeze_held.ensures.frozen

pub returns-clause-frozen : goal.returns-clause-frozen
returns-clause-frozen g c t found =
    let p = c.args.parts.now in
    let tells = subst (λ (ts : List TableMaps). (t : HeldTable) → slice_get (held_of p.maps ts) (c.args.table - 1) ≡ Some t → c.holds_any.result ≡ any_partition (t.memtable.partitions ∷ [])) c.deref.ensures.value c.holds_any.ensures in
    subst (λ (b : Bool). HasFrozenIf b (c.args.table - 1) t p p) (sym c.if-holds_any.false ∙ tells t found) refl

pub returns-then-holds_any-clause-empty : goal.returns-then-holds_any-clause-empty
returns-then-holds_any-clause-empty g c =
    let p = c.args.parts.now in
    let own : (t : HeldTable) × (slice_get (held_in p) (c.args.table - 1) ≡ Some t) = table_at p c.args.table c.requires.there in
    on_ok_weaker c.freeze_held.result (λ frozen. frozen_empty p c.freeze_held.new.parts (c.args.table - 1) own.0 own.1 (frozen own.0 own.1)) c.freeze_held.ensures.frozen

pub returns-clause-empty : goal.returns-clause-empty
returns-clause-empty g c t found =
    let p = c.args.parts.now in
    let tells = subst (λ (ts : List TableMaps). (t : HeldTable) → slice_get (held_of p.maps ts) (c.args.table - 1) ≡ Some t → c.holds_any.result ≡ any_partition (t.memtable.partitions ∷ [])) c.deref.ensures.value c.holds_any.ensures in
    sym (tells t found) ∙ c.if-holds_any.false

pub returns-then-holds_any-clause-pinned : goal.returns-then-holds_any-clause-pinned
returns-then-holds_any-clause-pinned g c = c.freeze_held.ensures.pinned

pub returns-clause-pinned : goal.returns-clause-pinned
returns-clause-pinned g c views = pinned_listed views c.args.parts.now c.args.parts.now (λ number some. refl) refl refl
