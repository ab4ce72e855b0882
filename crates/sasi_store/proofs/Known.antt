-- What a store knows of its state without its files, at its opening and after a change.
use Rattle.std.proofs.Common.{◌≡◌, ℕ, zero, suc, List, [], ◌∷◌, ◌++◌, Option, Err, refl, sym, ap, subst, ◌∙◌}
use Rattle.std.specs.Prelude.{max}
use Rattle.std.specs.List.{AllByRecursion}
use Rattle.std.proofs.lemmas.List.{map-append}
use Rattle.sasi_cells.specs.Mutations.{state_with_mutation}
use Rattle.sasi_cells.specs.declared.mutation.Mutation.{Mutation}
use Rattle.sasi_layout.proofs.Numbered.{seen_at}
use Rattle.sasi_layout.specs.Classes.{KnowsClasses, KnowsIndexes}
use Rattle.sasi_layout.specs.Serving.{StoreInMemory, known_in_memory}
use Rattle.sasi_machine.proofs.KnownStates.{definitions_are, knows, max_time_is}
use Rattle.sasi_machine.specs.Prepares.{IsApplicable, IsStateOf}
use Rattle.sasi_model.specs.Abbreviations.{definitions}
use Rattle.sasi_model.specs.Cells.{Partition, max_timestamp_of}
use Rattle.sasi_model.specs.Changes.{at_number, changed_behind, changed_tables, empty_table, state_with_index, table_with_index, with_new_table}
use Rattle.sasi_model.specs.Refusals.{Known}
use Rattle.sasi_model.specs.State.{Definition, Index, State, Table, decorated, with_index}
use Rattle.sasi_host.specs.View.{View}
use Rattle.sasi_recover.specs.OpenedFolder.{IsTimed}
use Rattle.sasi_recover.specs.Promises.{ReportsTruly}
use Rattle.sasi_recover.specs.declared.fault.OpenFault.{OpenFault}
use Rattle.sasi_types.specs.declared.class.Class.{Class}
use Rattle.sasi_types.specs.declared.decorated_key.DecoratedKey.{DecoratedKey}
use Rattle.sasi_types.specs.declared.partitioner.Partitioner.{Partitioner}
use Rattle.sasi_tables.specs.MakesMoves.{Knows}
use Rattle.sasi_tables.proofs.Creating.{new_timestamp}
use Rattle.sasi_tables.proofs.Defining.{index_timestamp}
use Rattle.sasi_store.proofs.Prepared.{blank_time, timed}
use Rattle.sasi_tables.proofs.Timestamps.{put_timestamp}

-- ---- its opening

-- **An opened store is of some state.**
pub opened_state : (store : StoreInMemory) → IsTimed store → (s : State) × IsStateOf (known_in_memory store) s
opened_state store timely = by store.definitions store.max_timestamp timely
  where
    by : (ds : List Definition) (time : ℕ) → (ds ≡ [] → time ≡ 0) → (s : State) × IsStateOf (record { tables = ds; max_timestamp = time }) s
    by [] time none =
        let s : State = record { partitioner = store.manifest.listing.partitioner; tables = [] } in
        (s, knows (record { tables = []; max_timestamp = time }) s refl (blank_time store.manifest.listing.partitioner [] ∙ sym (none refl)))
    by (d ∷ ds) time none = (_, timed store.manifest.listing.partitioner d ds time)

-- what an opening reports, handed on
pub reports_on : {T U : Type 0} (asked : Option Partitioner) (kinds : List Class) (a : View) (f : OpenFault) → ReportsTruly {T = T} asked kinds a (Err f) → ReportsTruly {T = U} asked kinds a (Err f)
reports_on asked kinds a f reports = record { damaged = reports.damaged; undamaged = reports.undamaged; differs = reports.differs; differs_only = reports.differs_only; lacks = reports.lacks; lacks_only = reports.lacks_only }

-- ---- a change

-- the definitions and the largest timestamp are known
abbrev pub known_at : List Definition → ℕ → Known
known_at ds time = record { tables = ds; max_timestamp = time }

-- it knows the state that it is of
pub known_as : (store : StoreInMemory) (ds : List Definition) (time : ℕ) (s : State) → Knows store ds time → IsStateOf (known_at ds time) s → IsStateOf (known_in_memory store) s
known_as store ds time s is of = of ∙ sym (λ i. known_at (is.definitions_are i) (is.timestamp_is i))

-- a new table
pub created_state : (ds : List Definition) (time : ℕ) (s : State) (d : Definition) → IsStateOf (known_at ds time) s → IsStateOf (known_at (ds ++ d ∷ []) time) (with_new_table s d)
created_state ds time s d of =
    knows (known_at (ds ++ d ∷ []) time) (with_new_table s d)
    (map-append (λ (t : Table). t.definition) s.tables (empty_table d ∷ []) ∙ ap (λ (l : List Definition). l ++ d ∷ []) (definitions_are (known_at ds time) s of))
    (new_timestamp s d ∙ max_time_is (known_at ds time) s of)

-- a new index
pub defined_state : (ds : List Definition) (time : ℕ) (s : State) (number : ℕ) (index : Index) → IsStateOf (known_at ds time) s
    → IsStateOf (known_at (at_number 1 number (with_index index) ds) time) (state_with_index s number index)
defined_state ds time s number index of =
    knows (known_at (at_number 1 number (with_index index) ds) time) (state_with_index s number index)
    (seen_at (λ (t : Table). t.definition) (table_with_index index) (with_index index) (λ t. refl) 1 number s.tables ∙ ap (at_number 1 number (with_index index)) (definitions_are (known_at ds time) s of))
    (index_timestamp s number index ∙ max_time_is (known_at ds time) s of)

defined_behind : (at : ℕ) (key : DecoratedKey) (change : Partition) (ts : List Table) → definitions (changed_behind at key change ts) ≡ definitions ts
defined_behind at key change [] = refl
defined_behind zero key change (t ∷ ts) = refl
defined_behind (suc at) key change (t ∷ ts) = ap (λ (l : List Definition). t.definition ∷ l) (defined_behind at key change ts)

defined_after : (number : ℕ) (key : DecoratedKey) (change : Partition) (ts : List Table) → definitions (changed_tables number key change ts) ≡ definitions ts
defined_after zero key change ts = refl
defined_after (suc at) key change ts = defined_behind at key change ts

-- a write
pub written_state : (ds : List Definition) (time : ℕ) (s : State) (w : Mutation) → IsApplicable s w → IsStateOf (known_at ds time) s → IsStateOf (known_at ds (max time (max_timestamp_of w.change))) (state_with_mutation s w)
written_state ds time s w fits of =
    knows (known_at ds (max time (max_timestamp_of w.change))) (state_with_mutation s w)
    (defined_after w.table (decorated s.partitioner w.key) w.change s.tables ∙ definitions_are (known_at ds time) s of)
    (put_timestamp s w fits.table fits.some fits.there ∙ ap (λ (n : ℕ). max n (max_timestamp_of w.change)) (max_time_is (known_at ds time) s of))

-- the analyzers that are there for the definitions are there for the store
pub known_after : (kinds : List Class) (store : StoreInMemory) (ds : List Definition) (time : ℕ) → Knows store ds time → AllByRecursion (KnowsIndexes kinds) ds → KnowsClasses kinds store
known_after kinds store ds time is known = subst (AllByRecursion (KnowsIndexes kinds)) (sym is.definitions_are) known
