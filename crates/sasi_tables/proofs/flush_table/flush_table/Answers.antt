use Rattle.std.proofs.Common.{◌≡◌, ◌-◌, ◌^◌, ◌<◌, ◌∷◌, [], List, Ok, Some, ap, arith, length, map, refl, slice_get, subst, sym, ◌∙◌}
use Rattle.std.proofs.lemmas.Result.{err_from_is_err_and}
use Rattle.std.specs.List.{AllByRecursion}
use Rattle.sasi_layout.specs.Classes.{KnowsIndexes}
use Rattle.sasi_layout.specs.Moves.{Flush, new_listed_file}
use Rattle.sasi_layout.specs.Serving.{StoreInMemory}
use Rattle.sasi_manifest.specs.Listings.{listed_definitions}
use Rattle.sasi_manifest.specs.OpenManifest.{ManifestState}
use Rattle.sasi_types.specs.declared.class.Class.{Class}
use Rattle.sasi_memtable.specs.MemtableView.{empty_memtable}
use Rattle.sasi_schema.specs.Numbers.{RisesFrom}
use Rattle.sasi_tables.specs.Clearing.{IsCleared}
use Rattle.sasi_tables.specs.Floors.{floor_in_memory}
use Rattle.sasi_tables.specs.Flushing.{whole_of}
use Rattle.sasi_tables.specs.Held.{AreMapped, HasRegularIndexes, Subject, held_by, held_of, in_memory, numbers_of, subjects_of}
use Rattle.sasi_tables.specs.MakesMoves.{MakesMoves}
use Rattle.sasi_tables.specs.declared.parts.Parts.{Parts}
use Rattle.sasi_tables.specs.declared.fault.StepFault.TheVariants.{OutOfMemory}
use Rattle.sasi_tables.proofs.MoveCauses.{makes_nothing}
use Rattle.sasi_tables.specs.TablesView.{AreTables, held_in, memory_of, wanted_of}
use Rattle.sasi_tables.specs.declared.table_maps.TableMaps.{TableMaps}
use Rattle.sasi_tables.proofs.FlushingParts.{can, can_merge, flush_made, flush_stopped, flush_unfinished, flushed_memory, flushed_parts, partitioner_after, tables_after, unflushed_there, whole_there}
use Rattle.sasi_tables.proofs.FlushPrepared.{draw_stopped, drawn_can_index, has_drawn}
use Rattle.sasi_tables.proofs.HeldChanges.{has_map}
use Rattle.sasi_tables.proofs.FlushedMaps.{definitions_flushed, regular_flushed, wanted_flushed}
use Rattle.sasi_tables.proofs.HeldMaps.{held_numbers, held_there}
use Rattle.sasi_tables.proofs.TablesInMemory.{index_got}
use Rattle.sasi_tables.proofs.PinnedMaps.{pinned_again, pinned_listed}
use Rattle.sasi_tables.proofs.flush_table.flush_table.Goals as goal

pub draw_numbers-requires-clause-there : goal.draw_numbers-requires-clause-there
draw_numbers-requires-clause-there g c = unflushed_there c.args.parts.now c.args.table c.requires.held

pub returns-in_err-drawn-clause-makes : goal.returns-in_err-drawn-clause-makes
returns-in_err-drawn-clause-makes g c =
    let e = err_from_is_err_and c.from_residual.result c.from_residual.ensures.1 in
    let v = g.H.Host.view c.args.host.now in
    let p = c.args.parts.now in
    let there = unflushed_there p c.args.table c.requires.held in
    let stops = c.in_err-drawn.ensures.stops in
    rw (e.1, e.2) (draw_stopped v p c.requires.ready c.args.table there.some stops.0 stops.1 (g.met.H.Host.sound c.args.host.now) c.in_err-drawn.field-0.0 stops.2)

pub floor_without-requires : goal.floor_without-requires
floor_without-requires g c =
    let p = c.args.parts.now in
    subst (λ (ts : List TableMaps). RisesFrom 1 (map (λ (t : TableMaps). t.number) ts)) (sym c.deref.ensures.value) (subst (RisesFrom 1) (held_numbers p.maps p.tables.items) c.requires.parts.tables.numbers)

pub index-row-requires : goal.index-row-requires
index-row-requires g c =
    let p = c.args.parts.now in
    let has = has_map p.maps p.last_map (wanted_of p) p.tables.items c.requires.parts.mapped c.args.table (unflushed_there p c.args.table c.requires.held) in
    omega (arith, has.some, has.inside, p.tables.ok.0)

pub returns-in_err-own-clause-makes : goal.returns-in_err-own-clause-makes
returns-in_err-own-clause-makes g c =
    let v = g.H.Host.view c.args.host.now in
    let e = err_from_is_err_and c.from_residual-in_err-own.result c.from_residual-in_err-own.ensures.1 in
    rw (e.1, e.2) (makes_nothing (λ l. Flush c.args.table ∷ []) v (g.met.H.Host.sound c.args.host.now) (memory_of c.args.parts.now) (memory_of c.args.parts.now) OutOfMemory tt tt tt (λ is. cc))

pub flush-requires-clause-maps : goal.flush-requires-clause-maps
flush-requires-clause-maps g c =
    let a = g.H.Host.view c.args.host.now in
    let p = c.args.parts.now in
    let there = unflushed_there p c.args.table c.requires.held in
    let d = c.in_ok-drawn.drawn in
    let drew = c.in_ok-drawn.ensures.drawn in
    let has = has_drawn a p c.requires.ready c.args.table there.some drew.0 drew.1 d.defs d.parts d.numbers drew.2 in
    let small : c.args.table < 2 ^ 32 = omega (arith, c.ranges.table.fits) in
    let floor_is = c.floor_without.ensures p.maps ∙ ap (λ (ts : List TableMaps). floor_in_memory 1 c.args.table d.numbers.log (map in_memory (held_of p.maps ts))) c.deref.ensures.value in
    let x : TableMaps = c.index-row.result.now in
    let map_for = has_map p.maps p.last_map (wanted_of p) p.tables.items c.requires.parts.mapped c.args.table there in
    let within : c.args.table - 1 < length p.tables.items = omega (arith, map_for.some, map_for.inside) in
    let got : slice_get p.tables.items (c.args.table - 1) ≡ Some x = index_got p.tables.items (c.args.table - 1) x within c.index-row.ensures in
    let own_is : c.as_slice.result.now ≡ numbers_of x = c.as_slice.ensures ∙ c.in_ok-own.ensures in
    can_merge a (g.met.H.Host.sound c.args.host.now) p c.requires.parts c.requires.ready c.args.table small c.requires.held d.defs d.parts d.numbers has c.floor_without.result floor_is x got c.as_slice.result.now own_is

pub flush-requires-clause-can : goal.flush-requires-clause-can
flush-requires-clause-can g c =
    let a = g.H.Host.view c.args.host.now in
    let p = c.args.parts.now in
    let there = unflushed_there p c.args.table c.requires.held in
    let d = c.in_ok-drawn.drawn in
    let drew = c.in_ok-drawn.ensures.drawn in
    let has = has_drawn a p c.requires.ready c.args.table there.some drew.0 drew.1 d.defs d.parts d.numbers drew.2 in
    let small : c.args.table < 2 ^ 32 = omega (arith, c.ranges.table.fits) in
    let floor_is = c.floor_without.ensures p.maps ∙ ap (λ (ts : List TableMaps). floor_in_memory 1 c.args.table d.numbers.log (map in_memory (held_of p.maps ts))) c.deref.ensures.value in
    let x : TableMaps = c.index-row.result.now in
    let map_for = has_map p.maps p.last_map (wanted_of p) p.tables.items c.requires.parts.mapped c.args.table there in
    let within : c.args.table - 1 < length p.tables.items = omega (arith, map_for.some, map_for.inside) in
    let got : slice_get p.tables.items (c.args.table - 1) ≡ Some x = index_got p.tables.items (c.args.table - 1) x within c.index-row.ensures in
    let own_is : c.as_slice.result.now ≡ numbers_of x = c.as_slice.ensures ∙ c.in_ok-own.ensures in
    can a (g.met.H.Host.sound c.args.host.now) p c.requires.parts c.requires.ready c.args.table small c.requires.held d.defs d.parts d.numbers has c.floor_without.result floor_is x got c.as_slice.result.now own_is

pub flush-requires-clause-indexes : goal.flush-requires-clause-indexes
flush-requires-clause-indexes g c =
    let a = g.H.Host.view c.args.host.now in
    let p = c.args.parts.now in
    let there = unflushed_there p c.args.table c.requires.held in
    let d = c.in_ok-drawn.drawn in
    let drew = c.in_ok-drawn.ensures.drawn in
    let has = has_drawn a p c.requires.ready c.args.table there.some drew.0 drew.1 d.defs d.parts d.numbers drew.2 in
    let small : c.args.table < 2 ^ 32 = omega (arith, c.ranges.table.fits) in
    let floor_is = c.floor_without.ensures p.maps ∙ ap (λ (ts : List TableMaps). floor_in_memory 1 c.args.table d.numbers.log (map in_memory (held_of p.maps ts))) c.deref.ensures.value in
    let x : TableMaps = c.index-row.result.now in
    let map_for = has_map p.maps p.last_map (wanted_of p) p.tables.items c.requires.parts.mapped c.args.table there in
    let within : c.args.table - 1 < length p.tables.items = omega (arith, map_for.some, map_for.inside) in
    let got : slice_get p.tables.items (c.args.table - 1) ≡ Some x = index_got p.tables.items (c.args.table - 1) x within c.index-row.ensures in
    let own_is : c.as_slice.result.now ≡ numbers_of x = c.as_slice.ensures ∙ c.in_ok-own.ensures in
    drawn_can_index a p c.requires.ready c.args.table there.some drew.0 drew.1 d.defs d.parts d.numbers drew.2 (map (λ b. (goal.Analyzer-dyn g (b.vtable, b.value)).kind b.value) c.args.kit.now.objects.items) c.requires.classes
    (held_by p.maps x) (held_there p.maps p.tables.items (c.args.table - 1) x got) (whole_of p.manifest.listing.partitioner p.maps c.as_slice.result.now) (whole_there p x c.as_slice.result.now own_is)

pub returns-in_err-parts-clause-makes : goal.returns-in_err-parts-clause-makes
returns-in_err-parts-clause-makes g c =
    let e = err_from_is_err_and c.from_residual-in_err-parts.result c.from_residual-in_err-parts.ensures.1 in
    let a = g.H.Host.view c.args.host.now in
    let p = c.args.parts.now in
    let there = unflushed_there p c.args.table c.requires.held in
    let d = c.in_ok-drawn.drawn in
    let drew = c.in_ok-drawn.ensures.drawn in
    let has = has_drawn a p c.requires.ready c.args.table there.some drew.0 drew.1 d.defs d.parts d.numbers drew.2 in
    let small : c.args.table < 2 ^ 32 = omega (arith, c.ranges.table.fits) in
    let floor_is = c.floor_without.ensures p.maps ∙ ap (λ (ts : List TableMaps). floor_in_memory 1 c.args.table d.numbers.log (map in_memory (held_of p.maps ts))) c.deref.ensures.value in
    let x : TableMaps = c.index-row.result.now in
    let map_for = has_map p.maps p.last_map (wanted_of p) p.tables.items c.requires.parts.mapped c.args.table there in
    let within : c.args.table - 1 < length p.tables.items = omega (arith, map_for.some, map_for.inside) in
    let got : slice_get p.tables.items (c.args.table - 1) ≡ Some x = index_got p.tables.items (c.args.table - 1) x within c.index-row.ensures in
    let own_is : c.as_slice.result.now ≡ numbers_of x = c.as_slice.ensures ∙ c.in_ok-own.ensures in
    rw (e.1, e.2) (flush_stopped a (g.met.H.Host.sound c.args.host.now) p c.requires.parts c.requires.ready c.args.table small c.requires.held d.defs d.parts d.numbers has c.floor_without.result floor_is x got c.as_slice.result.now own_is
    (g.H.Host.view c.flush.new.host) c.flush.ensures.any_moment c.flush.ensures.changes _ c.in_err-parts.field-0.0 c.in_err-parts.ensures.causes)

pub clear-requires-clause-inside : goal.clear-requires-clause-inside
clear-requires-clause-inside g c =
    let p = c.args.parts.now in
    let map_for = has_map p.maps p.last_map (wanted_of p) p.tables.items c.requires.parts.mapped c.args.table (unflushed_there p c.args.table c.requires.held) in
    omega (arith, map_for.some, map_for.inside)

pub clear-requires-clause-mapped : goal.clear-requires-clause-mapped
clear-requires-clause-mapped g c =
    let a = g.H.Host.view c.args.host.now in
    let p = c.args.parts.now in
    let there = unflushed_there p c.args.table c.requires.held in
    let d = c.in_ok-drawn.drawn in
    let drew = c.in_ok-drawn.ensures.drawn in
    let has = has_drawn a p c.requires.ready c.args.table there.some drew.0 drew.1 d.defs d.parts d.numbers drew.2 in
    let small : c.args.table < 2 ^ 32 = omega (arith, c.ranges.table.fits) in
    let floor_is = c.floor_without.ensures p.maps ∙ ap (λ (ts : List TableMaps). floor_in_memory 1 c.args.table d.numbers.log (map in_memory (held_of p.maps ts))) c.deref.ensures.value in
    let x : TableMaps = c.index-row.result.now in
    let map_for = has_map p.maps p.last_map (wanted_of p) p.tables.items c.requires.parts.mapped c.args.table there in
    let within : c.args.table - 1 < length p.tables.items = omega (arith, map_for.some, map_for.inside) in
    let got : slice_get p.tables.items (c.args.table - 1) ≡ Some x = index_got p.tables.items (c.args.table - 1) x within c.index-row.ensures in
    let own_is : c.as_slice.result.now ≡ numbers_of x = c.as_slice.ensures ∙ c.in_ok-own.ensures in
    let after = tables_after a (g.met.H.Host.sound c.args.host.now) p c.requires.parts c.requires.ready c.args.table small c.requires.held d.defs d.parts d.numbers has c.floor_without.result floor_is x got c.as_slice.result.now own_is c.flush.new.manifest c.in_ok-parts.ensures.listing in
    let wanted : map subjects_of c.flush.new.manifest.listing.tables ≡ wanted_of p = ap (map subjects_of) after ∙ wanted_flushed [] (new_listed_file d.numbers.«data» d.parts ∷ []) d.numbers.log c.args.table p.manifest.listing.tables in
    subst (λ (w : List (List Subject)). AreMapped p.maps p.last_map w p.tables.items) (sym wanted) c.requires.parts.mapped

pub clear-requires-clause-known : goal.clear-requires-clause-known
clear-requires-clause-known g c =
    let a = g.H.Host.view c.args.host.now in
    let p = c.args.parts.now in
    let there = unflushed_there p c.args.table c.requires.held in
    let d = c.in_ok-drawn.drawn in
    let drew = c.in_ok-drawn.ensures.drawn in
    let has = has_drawn a p c.requires.ready c.args.table there.some drew.0 drew.1 d.defs d.parts d.numbers drew.2 in
    let small : c.args.table < 2 ^ 32 = omega (arith, c.ranges.table.fits) in
    let floor_is = c.floor_without.ensures p.maps ∙ ap (λ (ts : List TableMaps). floor_in_memory 1 c.args.table d.numbers.log (map in_memory (held_of p.maps ts))) c.deref.ensures.value in
    let x : TableMaps = c.index-row.result.now in
    let map_for = has_map p.maps p.last_map (wanted_of p) p.tables.items c.requires.parts.mapped c.args.table there in
    let within : c.args.table - 1 < length p.tables.items = omega (arith, map_for.some, map_for.inside) in
    let got : slice_get p.tables.items (c.args.table - 1) ≡ Some x = index_got p.tables.items (c.args.table - 1) x within c.index-row.ensures in
    let own_is : c.as_slice.result.now ≡ numbers_of x = c.as_slice.ensures ∙ c.in_ok-own.ensures in
    let after = tables_after a (g.met.H.Host.sound c.args.host.now) p c.requires.parts c.requires.ready c.args.table small c.requires.held d.defs d.parts d.numbers has c.floor_without.result floor_is x got c.as_slice.result.now own_is c.flush.new.manifest c.in_ok-parts.ensures.listing in
    let wanted : map subjects_of c.flush.new.manifest.listing.tables ≡ wanted_of p = ap (map subjects_of) after ∙ wanted_flushed [] (new_listed_file d.numbers.«data» d.parts ∷ []) d.numbers.log c.args.table p.manifest.listing.tables in
    let defined : p.schema.definitions ≡ listed_definitions c.flush.new.manifest.listing.tables =
    c.requires.ready.definitions ∙ sym (ap listed_definitions after ∙ definitions_flushed [] (new_listed_file d.numbers.«data» d.parts ∷ []) d.numbers.log c.args.table p.manifest.listing.tables) in
    let known = subst (AllByRecursion (KnowsIndexes (map (λ b. (goal.Analyzer-dyn g (b.vtable, b.value)).kind b.value) c.args.kit.now.objects.items))) defined c.requires.classes in
    subst (λ (kinds : List Class). AllByRecursion (KnowsIndexes kinds) (listed_definitions c.flush.new.manifest.listing.tables)) (sym c.in_ok-parts.ensures.kinds) known

pub returns-in_err-clear-clause-makes : goal.returns-in_err-clear-clause-makes
returns-in_err-clear-clause-makes g c =
    let e = err_from_is_err_and c.from_residual-in_err-clear.result c.from_residual-in_err-clear.ensures.1 in
    let a = g.H.Host.view c.args.host.now in
    let p = c.args.parts.now in
    let there = unflushed_there p c.args.table c.requires.held in
    let d = c.in_ok-drawn.drawn in
    let drew = c.in_ok-drawn.ensures.drawn in
    let has = has_drawn a p c.requires.ready c.args.table there.some drew.0 drew.1 d.defs d.parts d.numbers drew.2 in
    let small : c.args.table < 2 ^ 32 = omega (arith, c.ranges.table.fits) in
    let floor_is = c.floor_without.ensures p.maps ∙ ap (λ (ts : List TableMaps). floor_in_memory 1 c.args.table d.numbers.log (map in_memory (held_of p.maps ts))) c.deref.ensures.value in
    let x : TableMaps = c.index-row.result.now in
    let map_for = has_map p.maps p.last_map (wanted_of p) p.tables.items c.requires.parts.mapped c.args.table there in
    let within : c.args.table - 1 < length p.tables.items = omega (arith, map_for.some, map_for.inside) in
    let got : slice_get p.tables.items (c.args.table - 1) ≡ Some x = index_got p.tables.items (c.args.table - 1) x within c.index-row.ensures in
    let own_is : c.as_slice.result.now ≡ numbers_of x = c.as_slice.ensures ∙ c.in_ok-own.ensures in
    rw (e.1, e.2) (flush_unfinished a (g.met.H.Host.sound c.args.host.now) p c.requires.parts c.requires.ready c.args.table small c.requires.held d.defs d.parts d.numbers has c.floor_without.result floor_is x got c.as_slice.result.now own_is
    (g.H.Host.view c.flush.new.host) c.flush.ensures.any_moment c.flush.ensures.changes _ _ c.in_ok-parts.ensures.causes)

pub returns-clause-makes : goal.returns-clause-makes
returns-clause-makes g c =
    let a = g.H.Host.view c.args.host.now in
    let p = c.args.parts.now in
    let there = unflushed_there p c.args.table c.requires.held in
    let d = c.in_ok-drawn.drawn in
    let drew = c.in_ok-drawn.ensures.drawn in
    let has = has_drawn a p c.requires.ready c.args.table there.some drew.0 drew.1 d.defs d.parts d.numbers drew.2 in
    let small : c.args.table < 2 ^ 32 = omega (arith, c.ranges.table.fits) in
    let floor_is = c.floor_without.ensures p.maps ∙ ap (λ (ts : List TableMaps). floor_in_memory 1 c.args.table d.numbers.log (map in_memory (held_of p.maps ts))) c.deref.ensures.value in
    let x : TableMaps = c.index-row.result.now in
    let map_for = has_map p.maps p.last_map (wanted_of p) p.tables.items c.requires.parts.mapped c.args.table there in
    let within : c.args.table - 1 < length p.tables.items = omega (arith, map_for.some, map_for.inside) in
    let got : slice_get p.tables.items (c.args.table - 1) ≡ Some x = index_got p.tables.items (c.args.table - 1) x within c.index-row.ensures in
    let own_is : c.as_slice.result.now ≡ numbers_of x = c.as_slice.ensures ∙ c.in_ok-own.ensures in
    let cleared : IsCleared (c.args.table - 1) (held_by p.maps x) (record p { manifest = c.flush.new.manifest; log = c.in_ok-parts.field-0; numbers = d.numbers }) c.clear.new.parts =
    c.in_ok-clear.ensures.cleared (held_by p.maps x) (held_there p.maps p.tables.items (c.args.table - 1) x got) in
    let e = c.in_ok-parts.ensures in
    let memory_is = ap (λ (q : Parts). record (memory_of q) { tables = map in_memory (held_in c.clear.new.parts) }) cleared.rest in
    subst (λ (s : StoreInMemory). MakesMoves (λ l. Flush c.args.table ∷ []) a (g.H.Host.view c.flush.new.host) (memory_of p) s (Ok tt))
    (sym (memory_is ∙ flushed_memory p c.requires.parts c.args.table there.some (held_by p.maps x) (held_there p.maps p.tables.items (c.args.table - 1) x got) (empty_memtable c.flush.new.manifest.listing.partitioner) (held_in c.clear.new.parts) cleared.held d.parts c.flush.new.manifest c.in_ok-parts.field-0 d.numbers has.next_is refl))
    (flush_made a (g.met.H.Host.sound c.args.host.now) p c.requires.parts c.requires.ready c.args.table small c.requires.held d.defs d.parts d.numbers has c.floor_without.result floor_is x got c.as_slice.result.now own_is
    (g.H.Host.view c.flush.new.host) e.any_moment e.changes _ tt c.flush.new.manifest c.in_ok-parts.field-0 e.flushed e.listing e.number e.manifest_room e.manifest_usable e.log_file e.log_room e.log_usable e.files e.stands e.causes)

pub returns-clause-parts : goal.returns-clause-parts
returns-clause-parts g c =
    let a = g.H.Host.view c.args.host.now in
    let p = c.args.parts.now in
    let there = unflushed_there p c.args.table c.requires.held in
    let d = c.in_ok-drawn.drawn in
    let drew = c.in_ok-drawn.ensures.drawn in
    let has = has_drawn a p c.requires.ready c.args.table there.some drew.0 drew.1 d.defs d.parts d.numbers drew.2 in
    let small : c.args.table < 2 ^ 32 = omega (arith, c.ranges.table.fits) in
    let floor_is = c.floor_without.ensures p.maps ∙ ap (λ (ts : List TableMaps). floor_in_memory 1 c.args.table d.numbers.log (map in_memory (held_of p.maps ts))) c.deref.ensures.value in
    let x : TableMaps = c.index-row.result.now in
    let map_for = has_map p.maps p.last_map (wanted_of p) p.tables.items c.requires.parts.mapped c.args.table there in
    let within : c.args.table - 1 < length p.tables.items = omega (arith, map_for.some, map_for.inside) in
    let got : slice_get p.tables.items (c.args.table - 1) ≡ Some x = index_got p.tables.items (c.args.table - 1) x within c.index-row.ensures in
    let own_is : c.as_slice.result.now ≡ numbers_of x = c.as_slice.ensures ∙ c.in_ok-own.ensures in
    let after = tables_after a (g.met.H.Host.sound c.args.host.now) p c.requires.parts c.requires.ready c.args.table small c.requires.held d.defs d.parts d.numbers has c.floor_without.result floor_is x got c.as_slice.result.now own_is c.flush.new.manifest c.in_ok-parts.ensures.listing in
    let wanted : map subjects_of c.flush.new.manifest.listing.tables ≡ wanted_of p = ap (map subjects_of) after ∙ wanted_flushed [] (new_listed_file d.numbers.«data» d.parts ∷ []) d.numbers.log c.args.table p.manifest.listing.tables in
    let cleared : IsCleared (c.args.table - 1) (held_by p.maps x) (record p { manifest = c.flush.new.manifest; log = c.in_ok-parts.field-0; numbers = d.numbers }) c.clear.new.parts =
    c.in_ok-clear.ensures.cleared (held_by p.maps x) (held_there p.maps p.tables.items (c.args.table - 1) x got) in
    let manifest_is : c.clear.new.parts.manifest ≡ c.flush.new.manifest = ap (λ (q : Parts). q.manifest) cleared.rest in
    record {
      mapped = cleared.mapped;
      regular = subst (λ (m : ManifestState). AllByRecursion HasRegularIndexes m.listing.tables) (sym manifest_is)
          (subst (AllByRecursion HasRegularIndexes) (sym after) (regular_flushed [] (new_listed_file d.numbers.«data» d.parts ∷ []) d.numbers.log c.args.table p.manifest.listing.tables c.requires.parts.regular));
      tables = subst (λ (m : ManifestState). AreTables m.listing.partitioner (held_in c.clear.new.parts)) (sym manifest_is)
          (flushed_parts p c.requires.parts c.args.table there.some (held_by p.maps x) (held_there p.maps p.tables.items (c.args.table - 1) x got) (empty_memtable c.flush.new.manifest.listing.partitioner) (held_in c.clear.new.parts) cleared.held c.flush.new.manifest.listing.partitioner
          (partitioner_after a (g.met.H.Host.sound c.args.host.now) p c.requires.parts c.requires.ready c.args.table small c.requires.held d.defs d.parts d.numbers has c.floor_without.result floor_is x got c.as_slice.result.now own_is c.flush.new.manifest c.in_ok-parts.ensures.listing) refl);
    }

pub returns-clause-knows : goal.returns-clause-knows
returns-clause-knows g c =
    let a = g.H.Host.view c.args.host.now in
    let p = c.args.parts.now in
    let there = unflushed_there p c.args.table c.requires.held in
    let d = c.in_ok-drawn.drawn in
    let drew = c.in_ok-drawn.ensures.drawn in
    let has = has_drawn a p c.requires.ready c.args.table there.some drew.0 drew.1 d.defs d.parts d.numbers drew.2 in
    let small : c.args.table < 2 ^ 32 = omega (arith, c.ranges.table.fits) in
    let floor_is = c.floor_without.ensures p.maps ∙ ap (λ (ts : List TableMaps). floor_in_memory 1 c.args.table d.numbers.log (map in_memory (held_of p.maps ts))) c.deref.ensures.value in
    let x : TableMaps = c.index-row.result.now in
    let map_for = has_map p.maps p.last_map (wanted_of p) p.tables.items c.requires.parts.mapped c.args.table there in
    let within : c.args.table - 1 < length p.tables.items = omega (arith, map_for.some, map_for.inside) in
    let got : slice_get p.tables.items (c.args.table - 1) ≡ Some x = index_got p.tables.items (c.args.table - 1) x within c.index-row.ensures in
    let cleared : IsCleared (c.args.table - 1) (held_by p.maps x) (record p { manifest = c.flush.new.manifest; log = c.in_ok-parts.field-0; numbers = d.numbers }) c.clear.new.parts =
    c.in_ok-clear.ensures.cleared (held_by p.maps x) (held_there p.maps p.tables.items (c.args.table - 1) x got) in
    record { definitions_are = ap (λ (q : Parts). q.schema.definitions) cleared.rest; timestamp_is = ap (λ (q : Parts). q.max_timestamp) cleared.rest }

pub returns-clause-others : goal.returns-clause-others
returns-clause-others g c = c.in_ok-clear.ensures.others

pub returns-clause-pinned : goal.returns-clause-pinned
returns-clause-pinned g c =
    let p = c.args.parts.now in
    let flushed : Parts = record p { manifest = c.flush.new.manifest; log = c.in_ok-parts.field-0; numbers = c.in_ok-drawn.drawn.numbers } in
    pinned_again c.args.views.now p flushed c.clear.new.parts (pinned_listed c.args.views.now p flushed (λ number some. refl) refl refl) c.in_ok-clear.ensures.pinned
