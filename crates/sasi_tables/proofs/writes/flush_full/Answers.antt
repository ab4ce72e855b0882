use Rattle.std.proofs.Common.{◌≡◌, ◌-◌, List, Some, refl, slice_get, subst, sym, ◌∙◌}
use Rattle.sasi_layout.specs.Statements.{are_full}
use Rattle.sasi_tables.specs.Held.{HasMapFor, HeldTable, held_of, in_memory, unflushed_maps}
use Rattle.sasi_tables.specs.TablesView.{memory_of, wanted_of}
use Rattle.sasi_tables.specs.declared.table_maps.TableMaps.{TableMaps}
use Rattle.sasi_tables.proofs.Composition.{passes, passes_not}
use Rattle.sasi_tables.proofs.FlushingParts.{is_unflushed, memory_at, table_at}
use Rattle.sasi_tables.proofs.HeldChanges.{has_map}
use Rattle.sasi_tables.proofs.Unflushed.{any_merged, full_any}
use Rattle.sasi_tables.proofs.PinnedMaps.{pinned_listed}
use Rattle.sasi_tables.proofs.writes.flush_full.Goals as goal

pub is_full-requires : goal.is_full-requires
is_full-requires g c =
    let p = c.args.parts.now in
    subst (λ (ts : List TableMaps). HasMapFor c.args.table ts p.maps) (sym c.deref.ensures.value) (has_map p.maps p.last_map (wanted_of p) p.tables.items c.requires.parts.mapped c.args.table c.requires.there)

pub flush_table-requires-clause-held : goal.flush_table-requires-clause-held
flush_table-requires-clause-held g c =
    let p = c.args.parts.now in
    let t = table_at p c.args.table c.requires.there in
    let is = subst (λ (ts : List TableMaps). (t : HeldTable) → slice_get (held_of p.maps ts) (c.args.table - 1) ≡ Some t → c.is_full.result ≡ are_full (unflushed_maps (in_memory t))) c.deref.ensures.value c.is_full.ensures in
    is_unflushed p c.args.table c.requires.there.some t.0 t.1 (any_merged (unflushed_maps (in_memory t.0)) (full_any (unflushed_maps (in_memory t.0)) (sym (is t.0 t.1) ∙ c.if-is_full.true)))

pub returns-then-is_full-clause-makes : goal.returns-then-is_full-clause-makes
returns-then-is_full-clause-makes g c =
    let p = c.args.parts.now in
    let t = table_at p c.args.table c.requires.there in
    let is = subst (λ (ts : List TableMaps). (t : HeldTable) → slice_get (held_of p.maps ts) (c.args.table - 1) ≡ Some t → c.is_full.result ≡ are_full (unflushed_maps (in_memory t))) c.deref.ensures.value c.is_full.ensures in
    passes are_full c.args.table (g.H.Host.view c.args.host.now) (memory_of p) (in_memory t.0) c.requires.there.some (memory_at p c.args.table t.0 t.1)
    (g.H.Host.view c.flush_table.new.host) (memory_of c.flush_table.new.parts) c.flush_table.result (sym (is t.0 t.1) ∙ c.if-is_full.true) c.flush_table.ensures.makes

pub returns-clause-makes : goal.returns-clause-makes
returns-clause-makes g c =
    let p = c.args.parts.now in
    let t = table_at p c.args.table c.requires.there in
    let is = subst (λ (ts : List TableMaps). (t : HeldTable) → slice_get (held_of p.maps ts) (c.args.table - 1) ≡ Some t → c.is_full.result ≡ are_full (unflushed_maps (in_memory t))) c.deref.ensures.value c.is_full.ensures in
    passes_not are_full c.args.table (g.H.Host.view c.args.host.now) (memory_of p) (in_memory t.0) c.requires.there.some (memory_at p c.args.table t.0 t.1)
    (g.met.H.Host.sound c.args.host.now) c.requires.ready (sym (is t.0 t.1) ∙ c.if-is_full.false)

pub returns-then-is_full-clause-knows : goal.returns-then-is_full-clause-knows
returns-then-is_full-clause-knows g c = c.flush_table.ensures.knows

pub returns-clause-knows : goal.returns-clause-knows
returns-clause-knows g c = record { definitions_are = refl; timestamp_is = refl }

pub returns-then-is_full-clause-pinned : goal.returns-then-is_full-clause-pinned
returns-then-is_full-clause-pinned g c = c.flush_table.ensures.pinned

pub returns-clause-pinned : goal.returns-clause-pinned
returns-clause-pinned g c = pinned_listed c.args.views.now c.args.parts.now c.args.parts.now (λ number some. refl) refl refl
