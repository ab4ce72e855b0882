use Rattle.std.proofs.Common.{◌≡◌, ◌-◌, get_or, map, ◌<◌, ◌≤◌, ◌^◌, ◌∙◌, ◌∷◌, [], ℕ, Ok, Some, List, ap, arith, length, subst, suc, sym, refl}
use Rattle.std.proofs.lemmas.Result.{err_from_is_err_and}
use Rattle.std.specs.FinMap.{get}
use Rattle.std.specs.List.{AllByRecursion}
use Rattle.sasi_layout.specs.Moves.{Define}
use Rattle.sasi_layout.specs.Serving.{StoreInMemory}
use Rattle.sasi_manifest.proofs.EditBytes.{index_short}
use Rattle.sasi_manifest.specs.Edits.{AllApply, encoded}
use Rattle.sasi_manifest.specs.Format.{IsNext}
use Rattle.sasi_manifest.specs.declared.edit.Edit.{Edit}
use Rattle.sasi_schema.specs.IndexFacts.{IsIndexIn}
use Rattle.sasi_schema.specs.SchemaViews.{SchemaView, index_of_new, numbered_def, with_index_def}
use Rattle.sasi_types.specs.declared.index_def.IndexDef.{IndexDef}
use Rattle.sasi_types.specs.declared.partitioner.Partitioner.{Partitioner}
use Rattle.sasi_manifest.specs.ListedDefinition.{ListedDefinition}
use Rattle.sasi_manifest.specs.Listings.{index_edit}
use Rattle.sasi_memindex.specs.Book.{CanAdd}
use Rattle.sasi_tables.specs.Held.{in_memory}
use Rattle.sasi_tables.specs.Held.{AreMapped, HasRegularIndexes, IsAddedToAll, KnowsDef, numbers_of, subjects_of}
use Rattle.sasi_tables.specs.MakesMoves.{MakesMoves}
use Rattle.sasi_tables.specs.TablesView.{AreTables, held_in, memory_of}
use Rattle.sasi_tables.specs.Faults.{fault_of_call}
use Rattle.sasi_tables.specs.declared.fault.StepFault.TheVariants.{OutOfMemory}
use Rattle.sasi_tables.proofs.Defining.{define_made, define_spent, define_stopped, edits_for, listed_after, memory_after_define}
use Rattle.sasi_tables.proofs.DefinedParts.{can_index, index_held, index_inside, index_mapped, index_regular, rising}
use Rattle.sasi_tables.proofs.TablesInMemory.{index_got}
use Rattle.sasi_tables.proofs.MoveCauses.{call_failed, call_made, call_plain, made_then_full, makes_nothing}
use Rattle.sasi_tables.proofs.PinnedMaps.{pinned_indexed}
use Rattle.sasi_tables.proofs.definition.define.Goals as goal

pub returns-in_err-number-clause-makes : goal.returns-in_err-number-clause-makes
returns-in_err-number-clause-makes g c =
    let p = err_from_is_err_and c.from_residual.result c.from_residual.ensures.1 in
    rw (p.1, p.2) (define_spent (g.H.Host.view c.args.host.now) (g.met.H.Host.sound c.args.host.now) (memory_of c.args.parts.now) c.args.index c.in_err-number.field-0.0 c.in_err-number.ensures.spent)

pub returns-in_err-edits-clause-makes : goal.returns-in_err-edits-clause-makes
returns-in_err-edits-clause-makes g c =
    let p = err_from_is_err_and c.from_residual-in_err-edits.result c.from_residual-in_err-edits.ensures.1 in
    let v = g.H.Host.view c.args.host.now in
    rw (p.1, p.2) (makes_nothing (λ l. Define c.args.index.table (index_of_new c.args.index) ∷ []) v (g.met.H.Host.sound c.args.host.now) (memory_of c.args.parts.now) (memory_of c.args.parts.now) OutOfMemory tt tt tt (λ e. cc))

pub append-requires-clause-apply : goal.append-requires-clause-apply
append-requires-clause-apply g c =
    let next = c.in_ok-number.ensures.next in
    let def_is : c.numbered-def.result ≡ numbered_def (suc c.args.parts.now.numbers.index) c.args.index = c.numbered-def.ensures ∙ ap (λ (n : ℕ). numbered_def n c.args.index) next.next_is in
    let edits : c.in_ok-edits.edits ≡ edits_for (suc c.args.parts.now.numbers.index) c.args.index = c.in_ok-edits.ensures ∙ ap (λ (d : IndexDef). index_edit d ∷ []) def_is in
    let fits : suc c.args.parts.now.numbers.index < 2 ^ 32 = subst (λ (n : ℕ). n < 2 ^ 32) next.next_is next.fits in
    subst (AllApply (Some c.args.parts.now.manifest.listing)) (sym edits) (c.requires.definable.applies (suc c.args.parts.now.numbers.index) (omega arith) fits, tt)

pub append-requires-clause-some : goal.append-requires-clause-some
append-requires-clause-some g c =
    let next = c.in_ok-number.ensures.next in
    let def_is : c.numbered-def.result ≡ numbered_def (suc c.args.parts.now.numbers.index) c.args.index = c.numbered-def.ensures ∙ ap (λ (n : ℕ). numbered_def n c.args.index) next.next_is in
    let edits : c.in_ok-edits.edits ≡ edits_for (suc c.args.parts.now.numbers.index) c.args.index = c.in_ok-edits.ensures ∙ ap (λ (d : IndexDef). index_edit d ∷ []) def_is in
    let fits : suc c.args.parts.now.numbers.index < 2 ^ 32 = subst (λ (n : ℕ). n < 2 ^ 32) next.next_is next.fits in
    subst (λ (es : List Edit). 1 ≤ length es) (sym edits) (omega arith)

pub append-requires-clause-short : goal.append-requires-clause-short
append-requires-clause-short g c =
    let next = c.in_ok-number.ensures.next in
    let def_is : c.numbered-def.result ≡ numbered_def (suc c.args.parts.now.numbers.index) c.args.index = c.numbered-def.ensures ∙ ap (λ (n : ℕ). numbered_def n c.args.index) next.next_is in
    let edits : c.in_ok-edits.edits ≡ edits_for (suc c.args.parts.now.numbers.index) c.args.index = c.in_ok-edits.ensures ∙ ap (λ (d : IndexDef). index_edit d ∷ []) def_is in
    let fits : suc c.args.parts.now.numbers.index < 2 ^ 32 = subst (λ (n : ℕ). n < 2 ^ 32) next.next_is next.fits in
    let short = index_short c.args.parts.now.manifest.listing (numbered_def (suc c.args.parts.now.numbers.index) c.args.index) _ (c.requires.definable.applies (suc c.args.parts.now.numbers.index) (omega arith) fits) in
    subst (λ (es : List Edit). length (encoded es) ≤ 2 ^ 30) (sym edits) (omega (arith, short))

pub restore_index-requires : goal.restore_index-requires
restore_index-requires g c = subst (IsIndexIn c.args.parts.now.schema.definitions) (sym c.numbered-def.ensures) (c.requires.definable.fits c.in_ok-number.number)

pub returns-in_err-append-clause-makes : goal.returns-in_err-append-clause-makes
returns-in_err-append-clause-makes g c =
    let p = err_from_is_err_and c.from_residual-in_err-append.result c.from_residual-in_err-append.ensures.1 in
    let a = g.H.Host.view c.args.host.now in
    let b = g.H.Host.view c.append.new.host in
    let next = c.in_ok-number.ensures.next in
    let def_is : c.numbered-def.result ≡ numbered_def (suc c.args.parts.now.numbers.index) c.args.index = c.numbered-def.ensures ∙ ap (λ (n : ℕ). numbered_def n c.args.index) next.next_is in
    let edits : c.in_ok-edits.edits ≡ edits_for (suc c.args.parts.now.numbers.index) c.args.index = c.in_ok-edits.ensures ∙ ap (λ (d : IndexDef). index_edit d ∷ []) def_is in
    let fits : suc c.args.parts.now.numbers.index < 2 ^ 32 = subst (λ (n : ℕ). n < 2 ^ 32) next.next_is next.fits in
    rw (p.1, p.2) (define_stopped a b (g.met.H.Host.sound c.args.host.now) (memory_of c.args.parts.now) c.args.index c.requires.ready c.requires.definable fits _ (fault_of_call c.in_err-append.field-0.0)
    (λ made is. c.append.ensures.any_moment made (subst (λ (es : List Edit). IsNext c.args.parts.now.manifest.listing es made) (sym edits) is)) c.append.ensures.changes c.in_err-append.ensures.causes.reads (call_plain c.in_err-append.field-0.0)
    (call_failed a b c.in_err-append.field-0.0 c.in_err-append.ensures.causes))

pub index-table-requires : goal.index-table-requires
index-table-requires g c =
    let q = c.args.parts.now in
    let v = g.H.Host.view c.args.host.now in
    let number = suc q.numbers.index in
    let def_is : c.numbered-def.result ≡ numbered_def number c.args.index = c.numbered-def.ensures ∙ ap (λ (n : ℕ). numbered_def n c.args.index) c.in_ok-number.ensures.next.next_is in
    let inside = index_inside v q c.requires.ready c.requires.parts c.args.index c.requires.definable in
    let table : c.numbered-def.result.table ≡ c.args.index.table = ap (λ (d : IndexDef). d.table) def_is in
    omega (arith, inside, table, q.tables.ok.0)

pub add_to_all-requires-clause-can : goal.add_to_all-requires-clause-can
add_to_all-requires-clause-can g c =
    let q = c.args.parts.now in
    let v = g.H.Host.view c.args.host.now in
    let number = suc q.numbers.index in
    let def_is : c.numbered-def.result ≡ numbered_def number c.args.index = c.numbered-def.ensures ∙ ap (λ (n : ℕ). numbered_def n c.args.index) c.in_ok-number.ensures.next.next_is in
    let row = c.index-table.result.now in
    let inside = index_inside v q c.requires.ready c.requires.parts c.args.index c.requires.definable in
    let there = index_got q.tables.items (c.args.index.table - 1) row inside (subst (λ (d : IndexDef). row ≡ get_or q.tables.items (d.table - 1) row) def_is c.index-table.ensures) in
    subst (λ (d : IndexDef). AllByRecursion (λ n. CanAdd d.column d.kind (get q.maps n)) (numbers_of row)) (sym def_is) (can_index v q c.requires.ready c.requires.parts c.args.index c.requires.definable row there)

pub add_to_all-requires-clause-apart : goal.add_to_all-requires-clause-apart
add_to_all-requires-clause-apart g c =
    let q = c.args.parts.now in
    let v = g.H.Host.view c.args.host.now in
    let number = suc q.numbers.index in
    let def_is : c.numbered-def.result ≡ numbered_def number c.args.index = c.numbered-def.ensures ∙ ap (λ (n : ℕ). numbered_def n c.args.index) c.in_ok-number.ensures.next.next_is in
    let row = c.index-table.result.now in
    let inside = index_inside v q c.requires.ready c.requires.parts c.args.index c.requires.definable in
    let there = index_got q.tables.items (c.args.index.table - 1) row inside (subst (λ (d : IndexDef). row ≡ get_or q.tables.items (d.table - 1) row) def_is c.index-table.ensures) in
    rising v q c.requires.ready c.requires.parts c.args.index c.requires.definable row there

pub add_to_all-requires-clause-known : goal.add_to_all-requires-clause-known
add_to_all-requires-clause-known g c =
    let number = suc c.args.parts.now.numbers.index in
    let def_is : c.numbered-def.result ≡ numbered_def number c.args.index = c.numbered-def.ensures ∙ ap (λ (n : ℕ). numbered_def n c.args.index) c.in_ok-number.ensures.next.next_is in
    subst (KnowsDef _) (sym def_is) c.requires.needed

pub returns-in_err-add_to_all-clause-makes : goal.returns-in_err-add_to_all-clause-makes
returns-in_err-add_to_all-clause-makes g c =
    let p = err_from_is_err_and c.from_residual-in_err-add_to_all.result c.from_residual-in_err-add_to_all.ensures.1 in
    let a = g.H.Host.view c.args.host.now in
    let b = g.H.Host.view c.append.new.host in
    let next = c.in_ok-number.ensures.next in
    let def_is : c.numbered-def.result ≡ numbered_def (suc c.args.parts.now.numbers.index) c.args.index = c.numbered-def.ensures ∙ ap (λ (n : ℕ). numbered_def n c.args.index) next.next_is in
    let edits : c.in_ok-edits.edits ≡ edits_for (suc c.args.parts.now.numbers.index) c.args.index = c.in_ok-edits.ensures ∙ ap (λ (d : IndexDef). index_edit d ∷ []) def_is in
    let fits : suc c.args.parts.now.numbers.index < 2 ^ 32 = subst (λ (n : ℕ). n < 2 ^ 32) next.next_is next.fits in
    rw (p.1, p.2) (define_stopped a b (g.met.H.Host.sound c.args.host.now) (memory_of c.args.parts.now) c.args.index c.requires.ready c.requires.definable fits _ OutOfMemory
    (λ made is. c.append.ensures.any_moment made (subst (λ (es : List Edit). IsNext c.args.parts.now.manifest.listing es made) (sym edits) is)) c.append.ensures.changes c.in_ok-append.ensures.causes.reads tt
    (made_then_full a b _ c.in_ok-append.ensures.causes))

pub returns-in_err-restore_index-clause-makes : goal.returns-in_err-restore_index-clause-makes
returns-in_err-restore_index-clause-makes g c =
    let p = err_from_is_err_and c.from_residual-in_err-restore_index.result c.from_residual-in_err-restore_index.ensures.1 in
    let a = g.H.Host.view c.args.host.now in
    let b = g.H.Host.view c.append.new.host in
    let next = c.in_ok-number.ensures.next in
    let def_is : c.numbered-def.result ≡ numbered_def (suc c.args.parts.now.numbers.index) c.args.index = c.numbered-def.ensures ∙ ap (λ (n : ℕ). numbered_def n c.args.index) next.next_is in
    let edits : c.in_ok-edits.edits ≡ edits_for (suc c.args.parts.now.numbers.index) c.args.index = c.in_ok-edits.ensures ∙ ap (λ (d : IndexDef). index_edit d ∷ []) def_is in
    let fits : suc c.args.parts.now.numbers.index < 2 ^ 32 = subst (λ (n : ℕ). n < 2 ^ 32) next.next_is next.fits in
    rw (p.1, p.2) (define_stopped a b (g.met.H.Host.sound c.args.host.now) (memory_of c.args.parts.now) c.args.index c.requires.ready c.requires.definable fits _ OutOfMemory
    (λ made is. c.append.ensures.any_moment made (subst (λ (es : List Edit). IsNext c.args.parts.now.manifest.listing es made) (sym edits) is)) c.append.ensures.changes c.in_ok-append.ensures.causes.reads tt
    (made_then_full a b _ c.in_ok-append.ensures.causes))

pub returns-clause-makes : goal.returns-clause-makes
returns-clause-makes g c =
    let a = g.H.Host.view c.args.host.now in
    let b = g.H.Host.view c.append.new.host in
    let e = c.in_ok-append.ensures in
    let next = c.in_ok-number.ensures.next in
    let def_is : c.numbered-def.result ≡ numbered_def (suc c.args.parts.now.numbers.index) c.args.index = c.numbered-def.ensures ∙ ap (λ (n : ℕ). numbered_def n c.args.index) next.next_is in
    let edits : c.in_ok-edits.edits ≡ edits_for (suc c.args.parts.now.numbers.index) c.args.index = c.in_ok-edits.ensures ∙ ap (λ (d : IndexDef). index_edit d ∷ []) def_is in
    let fits : suc c.args.parts.now.numbers.index < 2 ^ 32 = subst (λ (n : ℕ). n < 2 ^ 32) next.next_is next.fits in
    let listed : IsNext c.args.parts.now.manifest.listing (edits_for (suc c.args.parts.now.numbers.index) c.args.index) c.append.new.self.listing = subst (λ (es : List Edit). IsNext c.args.parts.now.manifest.listing es c.append.new.self.listing) edits e.listing in
    let defined = ap (λ (v : SchemaView). v.definitions) (c.in_ok-restore_index.ensures.ok ∙ ap (λ (d : IndexDef). with_index_def d c.args.parts.now.schema) def_is) in
    let q = c.args.parts.now in
    let v = g.H.Host.view c.args.host.now in
    let number = suc q.numbers.index in
    let def_is : c.numbered-def.result ≡ numbered_def number c.args.index = c.numbered-def.ensures ∙ ap (λ (n : ℕ). numbered_def n c.args.index) c.in_ok-number.ensures.next.next_is in
    let row = c.index-table.result.now in
    let inside = index_inside v q c.requires.ready c.requires.parts c.args.index c.requires.definable in
    let there = index_got q.tables.items (c.args.index.table - 1) row inside (subst (λ (d : IndexDef). row ≡ get_or q.tables.items (d.table - 1) row) def_is c.index-table.ensures) in
    let all = subst (λ (d : IndexDef). IsAddedToAll d (numbers_of row) q.maps c.add_to_all.new.maps) def_is c.in_ok-add_to_all.ensures.ok in
    let held = index_held v q c.requires.ready c.requires.parts c.args.index c.requires.definable row there number c.add_to_all.new.maps all in
    let memory_is : memory_of (record c.args.parts.now { schema = c.restore_index.new.self; manifest = c.append.new.self; maps = c.add_to_all.new.maps; numbers = record c.args.parts.now.numbers { index = c.in_ok-number.number } }) ≡ memory_after_define c.args.index c.append.new.self (memory_of c.args.parts.now) =
    λ i. record (memory_of c.args.parts.now) { definitions = defined i; manifest = c.append.new.self; tables = map in_memory (held i); used = record (memory_of c.args.parts.now).used { index = next.next_is i } } in
    subst (λ (s : StoreInMemory). MakesMoves (λ l. Define c.args.index.table (index_of_new c.args.index) ∷ []) a b (memory_of c.args.parts.now) s (Ok tt)) (sym memory_is)
    (define_made a b (g.met.H.Host.sound c.args.host.now) (memory_of c.args.parts.now) c.args.index c.requires.ready c.requires.definable fits tt c.append.new.self next.unspent
    (λ made is. e.any_moment made (subst (λ (es : List Edit). IsNext c.args.parts.now.manifest.listing es made) (sym edits) is)) e.changes e.number listed e.ok e.room e.usable e.causes.reads (call_made a b _ tt e.causes))

pub returns-clause-parts : goal.returns-clause-parts
returns-clause-parts g c =
    let a = g.H.Host.view c.args.host.now in
    let b = g.H.Host.view c.append.new.host in
    let next = c.in_ok-number.ensures.next in
    let def_is : c.numbered-def.result ≡ numbered_def (suc c.args.parts.now.numbers.index) c.args.index = c.numbered-def.ensures ∙ ap (λ (n : ℕ). numbered_def n c.args.index) next.next_is in
    let edits : c.in_ok-edits.edits ≡ edits_for (suc c.args.parts.now.numbers.index) c.args.index = c.in_ok-edits.ensures ∙ ap (λ (d : IndexDef). index_edit d ∷ []) def_is in
    let fits : suc c.args.parts.now.numbers.index < 2 ^ 32 = subst (λ (n : ℕ). n < 2 ^ 32) next.next_is next.fits in
    let listed : IsNext c.args.parts.now.manifest.listing (edits_for (suc c.args.parts.now.numbers.index) c.args.index) c.append.new.self.listing = subst (λ (es : List Edit). IsNext c.args.parts.now.manifest.listing es c.append.new.self.listing) edits c.in_ok-append.ensures.listing in
    let same = (listed_after a b (g.met.H.Host.sound c.args.host.now) (memory_of c.args.parts.now) c.args.index c.requires.ready c.requires.definable fits c.append.new.self.listing listed).0 in
    let q = c.args.parts.now in
    let v = g.H.Host.view c.args.host.now in
    let number = suc q.numbers.index in
    let def_is : c.numbered-def.result ≡ numbered_def number c.args.index = c.numbered-def.ensures ∙ ap (λ (n : ℕ). numbered_def n c.args.index) c.in_ok-number.ensures.next.next_is in
    let row = c.index-table.result.now in
    let inside = index_inside v q c.requires.ready c.requires.parts c.args.index c.requires.definable in
    let there = index_got q.tables.items (c.args.index.table - 1) row inside (subst (λ (d : IndexDef). row ≡ get_or q.tables.items (d.table - 1) row) def_is c.index-table.ensures) in
    let all = subst (λ (d : IndexDef). IsAddedToAll d (numbers_of row) q.maps c.add_to_all.new.maps) def_is c.in_ok-add_to_all.ensures.ok in
    let held = index_held v q c.requires.ready c.requires.parts c.args.index c.requires.definable row there number c.add_to_all.new.maps all in
    let rows = (listed_after a b (g.met.H.Host.sound c.args.host.now) (memory_of c.args.parts.now) c.args.index c.requires.ready c.requires.definable fits c.append.new.self.listing listed).3 in
    record {
      tables = subst (AreTables c.append.new.self.listing.partitioner) (sym held) (subst (λ (p : Partitioner). AreTables p (held_in q)) (sym same) c.requires.parts.tables);
      mapped = subst (λ (ts : List ListedDefinition). AreMapped c.add_to_all.new.maps q.last_map (map subjects_of ts) q.tables.items) (sym rows) (index_mapped v q c.requires.ready c.requires.parts c.args.index c.requires.definable row there number c.add_to_all.new.maps all);
      regular = subst (AllByRecursion HasRegularIndexes) (sym rows) (index_regular v q c.requires.ready c.requires.parts c.args.index c.requires.definable row there number c.add_to_all.new.maps all);
    }

pub returns-clause-knows : goal.returns-clause-knows
returns-clause-knows g c =
    let next = c.in_ok-number.ensures.next in
    let def_is : c.numbered-def.result ≡ numbered_def (suc c.args.parts.now.numbers.index) c.args.index = c.numbered-def.ensures ∙ ap (λ (n : ℕ). numbered_def n c.args.index) next.next_is in
    let edits : c.in_ok-edits.edits ≡ edits_for (suc c.args.parts.now.numbers.index) c.args.index = c.in_ok-edits.ensures ∙ ap (λ (d : IndexDef). index_edit d ∷ []) def_is in
    let fits : suc c.args.parts.now.numbers.index < 2 ^ 32 = subst (λ (n : ℕ). n < 2 ^ 32) next.next_is next.fits in
    record { definitions_are = ap (λ (v : SchemaView). v.definitions) (c.in_ok-restore_index.ensures.ok ∙ ap (λ (d : IndexDef). with_index_def d c.args.parts.now.schema) def_is); timestamp_is = refl }

pub returns-clause-pinned : goal.returns-clause-pinned
returns-clause-pinned g c views =
    let q = c.args.parts.now in
    let v = g.H.Host.view c.args.host.now in
    let number = suc q.numbers.index in
    let def_is : c.numbered-def.result ≡ numbered_def number c.args.index = c.numbered-def.ensures ∙ ap (λ (n : ℕ). numbered_def n c.args.index) c.in_ok-number.ensures.next.next_is in
    let row = c.index-table.result.now in
    let all = subst (λ (d : IndexDef). IsAddedToAll d (numbers_of row) q.maps c.add_to_all.new.maps) def_is c.in_ok-add_to_all.ensures.ok in
    pinned_indexed views q _ (numbered_def number c.args.index) (numbers_of row) all refl refl
