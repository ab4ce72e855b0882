use Rattle.std.specs.Prelude.{◌++◌, ◌∷◌, [], refl, ◌≡◌, ◌≤◌, ◌^◌, length, List, None, map, ◌+◌}
use Rattle.std.specs.List.{AllByRecursion}
use Rattle.std.proofs.Common.{Ok, ap, sym, subst, ◌∙◌, arith}
use Rattle.std.proofs.lemmas.List.{length-map, map-append}
use Rattle.std.proofs.lemmas.Result.{err_from_is_err_and}
use Rattle.sasi_layout.specs.Moves.{Create}
use Rattle.sasi_layout.specs.Serving.{StoreInMemory}
use Rattle.sasi_manifest.proofs.EditBytes.{create_short}
use Rattle.sasi_manifest.specs.Edits.{encoded}
use Rattle.sasi_manifest.specs.Format.{IsNext}
use Rattle.sasi_manifest.specs.declared.edit.Edit.{Edit}
use Rattle.sasi_manifest.specs.ListedDefinition.{ListedDefinition}
use Rattle.sasi_manifest.specs.declared.listing.Listing.{Listing}
use Rattle.sasi_model.specs.State.{Index}
use Rattle.sasi_memtable.specs.MemtableView.{MemtableView}
use Rattle.sasi_tables.specs.Held.{HeldTable, in_memory, opened_held}
use Rattle.sasi_recover.specs.declared.opened.TableMap.{TableMap}
use Rattle.sasi_schema.specs.Numbers.{RisesFrom}
use Rattle.sasi_types.specs.declared.partitioner.Partitioner.{Partitioner}
use Rattle.sasi_schema.specs.Defined.{definition}
use Rattle.sasi_schema.specs.SchemaViews.{SchemaView}
use Rattle.sasi_tables.specs.Held.{AreMapped, HasRegularIndexes, Subject, held_of, subjects_of}
use Rattle.sasi_tables.specs.MakesMoves.{MakesMoves}
use Rattle.sasi_tables.specs.TablesView.{held_in, memory_of, wanted_of}
use Rattle.sasi_tables.specs.Faults.{fault_of_call}
use Rattle.sasi_tables.specs.declared.fault.StepFault.TheVariants.{OutOfMemory}
use Rattle.sasi_tables.proofs.Creating.{create_made, create_stopped, edit_of, edits_for, listed_after, memory_after_create, nothing_held_yet}
use Rattle.sasi_tables.proofs.HeldChanges.{added_held, added_mapped}
use Rattle.sasi_tables.proofs.TablesInMemory.{all_push, as_many, rises_push}
use Rattle.sasi_tables.proofs.MoveCauses.{call_failed, call_made, call_plain, made_then_full, makes_nothing}
use Rattle.sasi_tables.proofs.PinnedMaps.{pinned_added}
use Rattle.sasi_tables.proofs.creation.create.Goals as goal

pub returns-in_err-edits-clause-makes : goal.returns-in_err-edits-clause-makes
returns-in_err-edits-clause-makes g c =
    let p = err_from_is_err_and c.from_residual.result c.from_residual.ensures.1 in
    let v = g.H.Host.view c.args.host.now in
    rw (p.1, p.2) (makes_nothing (λ l. Create (definition c.args.table) ∷ []) v (g.met.H.Host.sound c.args.host.now) (memory_of c.args.parts.now) (memory_of c.args.parts.now) OutOfMemory tt tt tt (λ e. cc))

pub append-requires-clause-short : goal.append-requires-clause-short
append-requires-clause-short g c =
    let edits : c.in_ok-edits.edits ≡ edits_for (memory_of c.args.parts.now) c.args.table = c.in_ok-edits.ensures ∙ ap (λ (k : Listing). edit_of c.args.table k.last ∷ []) c.listing.ensures.listing in
    let t = c.args.table in
    let short = create_short c.args.parts.now.manifest.listing t.number t.name t.columns t.key c.args.parts.now.manifest.listing.last c.requires.creatable.applies in
    subst (λ (es : List Edit). length (encoded es) ≤ 2 ^ 30) (sym edits) (omega (arith, short))

pub returns-in_err-append-clause-makes : goal.returns-in_err-append-clause-makes
returns-in_err-append-clause-makes g c =
    let p = err_from_is_err_and c.from_residual-in_err-append.result c.from_residual-in_err-append.ensures.1 in
    let a = g.H.Host.view c.args.host.now in
    let b = g.H.Host.view c.append.new.host in
    let edits : c.in_ok-edits.edits ≡ edits_for (memory_of c.args.parts.now) c.args.table = c.in_ok-edits.ensures ∙ ap (λ (k : Listing). edit_of c.args.table k.last ∷ []) c.listing.ensures.listing in
    rw (p.1, p.2) (create_stopped a b (g.met.H.Host.sound c.args.host.now) (memory_of c.args.parts.now) c.args.table c.requires.ready c.requires.creatable _ (fault_of_call c.in_err-append.field-0.0)
    (λ next is. c.append.ensures.any_moment next (subst (λ (es : List Edit). IsNext c.args.parts.now.manifest.listing es next) (sym edits) is)) c.append.ensures.changes c.in_err-append.ensures.causes.reads (call_plain c.in_err-append.field-0.0)
    (call_failed a b c.in_err-append.field-0.0 c.in_err-append.ensures.causes))

pub returns-in_err-restore_table-clause-makes : goal.returns-in_err-restore_table-clause-makes
returns-in_err-restore_table-clause-makes g c =
    let p = err_from_is_err_and c.from_residual-in_err-restore_table.result c.from_residual-in_err-restore_table.ensures.1 in
    let a = g.H.Host.view c.args.host.now in
    let b = g.H.Host.view c.append.new.host in
    let edits : c.in_ok-edits.edits ≡ edits_for (memory_of c.args.parts.now) c.args.table = c.in_ok-edits.ensures ∙ ap (λ (k : Listing). edit_of c.args.table k.last ∷ []) c.listing.ensures.listing in
    rw (p.1, p.2) (create_stopped a b (g.met.H.Host.sound c.args.host.now) (memory_of c.args.parts.now) c.args.table c.requires.ready c.requires.creatable _ OutOfMemory
    (λ next is. c.append.ensures.any_moment next (subst (λ (es : List Edit). IsNext c.args.parts.now.manifest.listing es next) (sym edits) is)) c.append.ensures.changes c.in_ok-append.ensures.causes.reads tt
    (made_then_full a b _ c.in_ok-append.ensures.causes))

pub returns-in_err-add_table-clause-makes : goal.returns-in_err-add_table-clause-makes
returns-in_err-add_table-clause-makes g c =
    let p = err_from_is_err_and c.from_residual-in_err-add_table.result c.from_residual-in_err-add_table.ensures.1 in
    let a = g.H.Host.view c.args.host.now in
    let b = g.H.Host.view c.append.new.host in
    let edits : c.in_ok-edits.edits ≡ edits_for (memory_of c.args.parts.now) c.args.table = c.in_ok-edits.ensures ∙ ap (λ (k : Listing). edit_of c.args.table k.last ∷ []) c.listing.ensures.listing in
    rw (p.1, p.2) (create_stopped a b (g.met.H.Host.sound c.args.host.now) (memory_of c.args.parts.now) c.args.table c.requires.ready c.requires.creatable _ OutOfMemory
    (λ next is. c.append.ensures.any_moment next (subst (λ (es : List Edit). IsNext c.args.parts.now.manifest.listing es next) (sym edits) is)) c.append.ensures.changes c.in_ok-append.ensures.causes.reads tt
    (made_then_full a b _ c.in_ok-append.ensures.causes))

pub returns-clause-makes : goal.returns-clause-makes
returns-clause-makes g c =
    let a = g.H.Host.view c.args.host.now in
    let b = g.H.Host.view c.append.new.host in
    let e = c.in_ok-append.ensures in
    let edits : c.in_ok-edits.edits ≡ edits_for (memory_of c.args.parts.now) c.args.table = c.in_ok-edits.ensures ∙ ap (λ (k : Listing). edit_of c.args.table k.last ∷ []) c.listing.ensures.listing in
    let listed : IsNext c.args.parts.now.manifest.listing (edits_for (memory_of c.args.parts.now) c.args.table) c.append.new.self.listing = subst (λ (es : List Edit). IsNext c.args.parts.now.manifest.listing es c.append.new.self.listing) edits e.listing in
    let p = c.args.parts.now in
    let row : TableMap = record { number = c.args.table.number; memtable = c.new.result; first = None } in
    let pushed : map in_memory (held_of c.add_table.new.maps c.add_table.new.tables.items) ≡ map in_memory (held_in p) ++ nothing_held_yet ∷ [] =
    ap (map in_memory) (added_held p.maps p.last_map (wanted_of p) p.tables.items c.requires.parts.mapped row [] c.add_table.new.maps c.add_table.new.tables.items c.in_ok-add_table.ensures.ok)
    ∙ map-append in_memory (held_in p) (opened_held row ∷ []) ∙ ap (λ (m : MemtableView). map in_memory (held_in p) ++ record { first = None; frozen = []; memtable = m.partitions } ∷ []) c.new.ensures in
    let defined = ap (λ (v : SchemaView). v.definitions) c.in_ok-restore_table.ensures.ok in
    let memory_is : memory_of (record c.args.parts.now { schema = c.restore_table.new.self; manifest = c.append.new.self; tables = c.add_table.new.tables; maps = c.add_table.new.maps; last_map = c.add_table.new.last }) ≡ memory_after_create c.args.table c.append.new.self (memory_of c.args.parts.now) =
    λ i. record (memory_of c.args.parts.now) { definitions = defined i; manifest = c.append.new.self; tables = pushed i } in
    subst (λ (s : StoreInMemory). MakesMoves (λ l. Create (definition c.args.table) ∷ []) a b (memory_of c.args.parts.now) s (Ok tt)) (sym memory_is)
    (create_made a b (g.met.H.Host.sound c.args.host.now) (memory_of c.args.parts.now) c.args.table c.requires.ready c.requires.creatable tt c.append.new.self
    (λ next is. e.any_moment next (subst (λ (es : List Edit). IsNext c.args.parts.now.manifest.listing es next) (sym edits) is)) e.changes e.number listed e.ok (e.room) e.usable e.causes.reads (call_made a b _ tt e.causes))

pub returns-clause-parts : goal.returns-clause-parts
returns-clause-parts g c =
    let a = g.H.Host.view c.args.host.now in
    let b = g.H.Host.view c.append.new.host in
    let store = memory_of c.args.parts.now in
    let listing = c.args.parts.now.manifest.listing in
    let p = c.args.parts.now in
    let old = held_in p in
    let count = as_many listing.partitioner listing.floor listing.last store.definitions store.tables c.requires.ready.tables in
    let number : c.args.table.number ≡ 1 + length (map (λ (t : HeldTable). t.number) old) =
    omega (arith, count, length-map old in_memory, length-map old (λ (t : HeldTable). t.number), c.requires.creatable.number) in
    let edits : c.in_ok-edits.edits ≡ edits_for store c.args.table = c.in_ok-edits.ensures ∙ ap (λ (k : Listing). edit_of c.args.table k.last ∷ []) c.listing.ensures.listing in
    let listed : IsNext listing (edits_for store c.args.table) c.append.new.self.listing = subst (λ (es : List Edit). IsNext listing es c.append.new.self.listing) edits c.in_ok-append.ensures.listing in
    let same = (listed_after a b (g.met.H.Host.sound c.args.host.now) store c.args.table c.requires.ready c.requires.creatable c.append.new.self.listing listed).0 in
    let rows = (listed_after a b (g.met.H.Host.sound c.args.host.now) store c.args.table c.requires.ready c.requires.creatable c.append.new.self.listing listed).3 in
    let more : ListedDefinition = record { definition = definition c.args.table; numbers = []; since = listing.last; files = [] } in
    let row : TableMap = record { number = c.args.table.number; memtable = c.new.result; first = None } in
    let under : c.new.result.partitioner ≡ c.append.new.self.listing.partitioner = ap (λ (m : MemtableView). m.partitioner) c.new.ensures ∙ ap (λ (k : Listing). k.partitioner) c.listing-2.ensures.listing in
    let added = c.in_ok-add_table.ensures.ok in
    let held_is = added_held p.maps p.last_map (wanted_of p) p.tables.items c.requires.parts.mapped row [] c.add_table.new.maps c.add_table.new.tables.items added in
    record {
      mapped = subst (λ (w : List (List Subject)). AreMapped c.add_table.new.maps c.add_table.new.last w c.add_table.new.tables.items) (sym (ap (map subjects_of) rows ∙ map-append subjects_of listing.tables (more ∷ [])))
          (added_mapped p.maps p.last_map (wanted_of p) p.tables.items c.requires.parts.mapped row [] c.add_table.new.maps c.add_table.new.tables.items added c.add_table.new.last c.in_ok-add_table.ensures.last);
      regular = subst (AllByRecursion HasRegularIndexes) (sym rows) (all_push HasRegularIndexes listing.tables more c.requires.parts.regular (subst (AllByRecursion (λ (index : Index). 1 ≤ index.column)) (sym c.requires.creatable.unindexed) tt));
      tables = record {
        numbers = subst (λ (ts : List HeldTable). RisesFrom 1 (map (λ (t : HeldTable). t.number) ts)) (sym held_is)
            (subst (RisesFrom 1) (sym (map-append (λ (t : HeldTable). t.number) old (opened_held row ∷ []))) (rises_push 1 (map (λ (t : HeldTable). t.number) old) c.args.table.number c.requires.parts.tables.numbers number));
        under = subst (λ (ts : List HeldTable). AllByRecursion (λ (t : HeldTable). t.memtable.partitioner ≡ c.append.new.self.listing.partitioner) ts) (sym held_is)
            (all_push (λ (t : HeldTable). t.memtable.partitioner ≡ c.append.new.self.listing.partitioner) old (opened_held row)
            (subst (λ (p : Partitioner). AllByRecursion (λ (t : HeldTable). t.memtable.partitioner ≡ p) old) (sym same) c.requires.parts.tables.under) under);
        frozen = subst (λ (ts : List HeldTable). AllByRecursion (λ (t : HeldTable). AllByRecursion (λ (m : MemtableView). m.partitioner ≡ c.append.new.self.listing.partitioner) t.frozen) ts) (sym held_is)
            (all_push (λ (t : HeldTable). AllByRecursion (λ (m : MemtableView). m.partitioner ≡ c.append.new.self.listing.partitioner) t.frozen) old (opened_held row)
            (subst (λ (p : Partitioner). AllByRecursion (λ (t : HeldTable). AllByRecursion (λ (m : MemtableView). m.partitioner ≡ p) t.frozen) old) (sym same) c.requires.parts.tables.frozen) tt);
      };
    }

pub returns-clause-knows : goal.returns-clause-knows
returns-clause-knows g c = record { definitions_are = ap (λ (v : SchemaView). v.definitions) c.in_ok-restore_table.ensures.ok; timestamp_is = refl }

pub returns-clause-pinned : goal.returns-clause-pinned
returns-clause-pinned g c views =
    let p = c.args.parts.now in
    let row : TableMap = record { number = c.args.table.number; memtable = c.new.result; first = None } in
    pinned_added views p _ row [] c.in_ok-add_table.ensures.ok (omega (arith, c.in_ok-add_table.ensures.last))
