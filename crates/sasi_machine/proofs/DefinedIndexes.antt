-- What a CREATE CUSTOM INDEX prepares, and the state that it leaves.
use Rattle.std.proofs.Common.{◌≡◌, ℕ, suc, ◌+◌, ◌-◌, ◌<◌, Bool, true, false, nat_eq, if◌then◌else◌, List, [], ◌∷◌, ◌++◌, Option, Some, None, refl, sym, ap, subst, ◌∙◌, inl, inr, arith}
use Rattle.std.proofs.lemmas.Bool.Decides.{nat_tests}
use Rattle.std.specs.Option.{option_map_or}
use Rattle.std.specs.Prelude.{max}
use Rattle.std.specs.FinMap as fin
use Rattle.sasi_types.specs.declared.index_def.IndexDef.{IndexDef}
use Rattle.sasi_types.specs.declared.partitioner.Partitioner.{Partitioner}
use Rattle.sasi_types.specs.declared.statement.Statement.TheVariants.{CreateIndex}
use Rattle.sasi_model.specs.Abbreviations.{definitions, first_refusal, key_type, max_timestamp_of_partitions, max_timestamp_of_tables, ok_line}
use Rattle.sasi_model.specs.Asked.{define_of}
use Rattle.sasi_model.specs.Changes.{at_number, state_with_index, table_with_index}
use Rattle.sasi_model.specs.Indexes.{IndexOption}
use Rattle.sasi_model.specs.Refusals.{Known, index_rules}
use Rattle.sasi_model.specs.State as model
use Rattle.sasi_model.specs.State.{Definition, Index, State, definition_of, with_index, with_table}
use Rattle.sasi_model.specs.Step.{index_given, tables_after}
use Rattle.sasi_memtable.specs.MemtableView.{MemtableView}
use Rattle.sasi_schema.proofs.NewIndexes.{new_index_fits}
use Rattle.sasi_schema.specs.IndexFacts.{IsIndexIn}
use Rattle.sasi_schema.specs.Numbers.{number_of_table}
use Rattle.sasi_schema.specs.SchemaViews.{IsNewIndex, SchemaView, index_of_new, numbered_def, with_index_def}
use Rattle.sasi_schema.specs.declared.index.NewIndex.{NewIndex}
use Rattle.sasi_machine.specs.Outcome.{outcome_of}
use Rattle.sasi_machine.specs.Prepares.{IsAddable, IsPrepared}
use Rattle.sasi_machine.specs.TableRows.{AreStored}
use Rattle.sasi_machine.specs.Tables.{AreMemtables, IsMachineState, state_of, table_with, tables_of}
use Rattle.sasi_machine.specs.declared.prepared.Prepared.TheVariants.{Define}
use Rattle.sasi_machine.proofs.KnownStates.{definitions_are}
use Rattle.sasi_machine.proofs.NumberedTables.{first_or_later, number_some}
use Rattle.sasi_machine.proofs.StatementStepping.{asked_numbered, not_refused, taken_asks, takes}
use Rattle.sasi_machine.proofs.TablesOfMemtables.{definitions_of}

-- ---- a table by its name and by its number

-- items behind the number stay
unchanged : {A : Type 0} (n number : ℕ) (f : A → A) (xs : List A) → number < n → at_number n number f xs ≡ xs
unchanged n number f [] below = refl
unchanged n number f (x ∷ xs) below =
    let other : nat_eq n number ≡ false = grind (arith, nat_tests, below) in
    let rest = unchanged (suc n) number f xs (omega (arith, below)) in
    ap (λ b. (if b then f x else x) ∷ at_number (suc n) number f xs) other ∙ ap (λ l. x ∷ l) rest

-- it is changed alike by both
changed_alike : (name : List ℕ) (f g : model.Table → model.Table) (ts : List model.Table) (n at : ℕ) (d : Definition) → number_of_table name (definitions ts) ≡ Some (suc at) → definition_of name (definitions ts) ≡ Some d
    → ((t : model.Table) → t.definition ≡ d → f t ≡ g t) → with_table name f ts ≡ at_number n (n + at) g ts
changed_alike name f g [] n at d is found alike = cc
changed_alike name f g (t ∷ ts) n at d is found alike =
    elim (first_or_later name t.definition (definitions ts) at is) [
      | inl first ↦
          let same_is : t.definition ≡ d = (let e : Some t.definition ≡ Some d = rw first.0 at found in cc) in
          let here : nat_eq n (n + at) ≡ true = grind (arith, nat_tests, first.1) in
          rw (first.0, here) (ap (λ (x : model.Table). x ∷ ts) (alike t same_is) ∙ ap (λ (rest : List model.Table). g t ∷ rest) (sym (unchanged (suc n) (n + at) g ts (omega (arith, first.1)))))
      | inr later ↦
          let other : nat_eq n (n + at) ≡ false = grind (arith, nat_tests, later.index_is) in
          let moved : suc n + later.index ≡ n + at = omega (arith, later.index_is) in
          rw (later.other, other) (ap (λ (rest : List model.Table). t ∷ rest)
          (changed_alike name f g ts (suc n) later.index d later.later (rw later.other at found) alike ∙ ap (λ (m : ℕ). at_number (suc n) m g ts) moved))
    ]

pub changed_numbered : (name : List ℕ) (f g : model.Table → model.Table) (ts : List model.Table) (number : ℕ) (d : Definition) → number_of_table name (definitions ts) ≡ Some number → definition_of name (definitions ts) ≡ Some d
    → ((t : model.Table) → t.definition ≡ d → f t ≡ g t) → with_table name f ts ≡ at_number 1 number g ts
changed_numbered name f g ts number d is found alike =
    let some = number_some name (definitions ts) number is in
    let suc_is : number ≡ suc (number - 1) = omega arith in
    let on : 1 + (number - 1) ≡ number = omega arith in
    changed_alike name f g ts 1 (number - 1) d (is ∙ ap Some suc_is) found alike ∙ ap (λ (m : ℕ). at_number 1 m g ts) on

-- ---- CREATE CUSTOM INDEX

-- the tables are those of the step
defined_tables : (s : State) (name : Option (List ℕ)) (table column class : List ℕ) (options : List IndexOption) (stepped : Bool) (new : NewIndex) → IsNewIndex (definitions s.tables) name table column options new
    → at_number 1 new.table (table_with_index (index_of_new new)) s.tables ≡ tables_after s (CreateIndex name table column class options stepped)
defined_tables s name table column class options stepped new is =
    let given : Definition → Option Index = λ d. index_given d name table column options in
    let with_given : Option Index → model.Table → model.Table = λ found t. option_map_or (λ index. table_with_index index t) found t in
    sym (changed_numbered table (λ t. with_given (given t.definition) t) (table_with_index (index_of_new new)) s.tables new.table is.definition is.number is.found
    (λ t same. ap (λ (found : Option Index). with_given found t) (ap given same ∙ is.index)))

pub index_asks : (known : Known) (name : Option (List ℕ)) (table column class : List ℕ) (options : List IndexOption) (stepped : Bool) (new : NewIndex) (reply_old reply_new : List ℕ)
    → first_refusal (index_rules known.tables name table column class options (definition_of table known.tables)) ≡ None → IsNewIndex known.tables name table column options new
    → reply_new ≡ reply_old ++ ok_line → IsPrepared known (CreateIndex name table column class options stepped) reply_old reply_new (Define new)
index_asks known name table column class options stepped new reply_old reply_new none is reply_is =
    let statement = CreateIndex name table column class options stepped in
    record {
      asked_is = taken_asks known statement none
          ∙ asked_numbered table (λ n d. define_of n (index_given d name table column options)) known.tables new.table is.definition is.number is.found
          ∙ ap (define_of new.table) is.index;
      of_state = λ s of.
          let here : IsNewIndex (definitions s.tables) name table column options new = subst (λ (ds : List Definition). IsNewIndex ds name table column options new) (sym (definitions_are known s of)) is in (
            takes s statement (state_with_index s new.table (index_of_new new)) reply_old reply_new (outcome_of None) (not_refused s known statement of none)
                (ap (λ (tables : List model.Table). record { partitioner = s.partitioner; tables = tables }) (defined_tables s name table column class options stepped new here))
                reply_is refl,
            (not_refused s known statement of none, here, λ number. new_index_fits (definitions s.tables) name table column options new number here),
          );
    }

-- ---- the machine

tables_indexed : (n number : ℕ) (i : Index) (ds : List Definition) (cs : List MemtableView) → tables_of (at_number n number (with_index i) ds) cs ≡ at_number n number (table_with_index i) (tables_of ds cs)
tables_indexed n number i [] cs = refl
tables_indexed n number i (d ∷ ds) [] = refl
tables_indexed n number i (d ∷ ds) (c ∷ cs) =
    elim (nat_eq n number) as (λ b. table_with (if b then with_index i d else d) c ∷ tables_of (at_number (suc n) number (with_index i) ds) cs
    ≡ (if b then table_with_index i (table_with d c) else table_with d c) ∷ at_number (suc n) number (table_with_index i) (tables_of ds cs)) [
      | true ↦ ap (λ (rest : List model.Table). table_with (with_index i d) c ∷ rest) (tables_indexed (suc n) number i ds cs)
      | false ↦ ap (λ (rest : List model.Table). table_with d c ∷ rest) (tables_indexed (suc n) number i ds cs)
    ]

memtables_indexed : (n number : ℕ) (i : Index) (ds : List Definition) (cs : List MemtableView) → AreMemtables ds cs → AreMemtables (at_number n number (with_index i) ds) cs
memtables_indexed n number i [] cs held = held
memtables_indexed n number i (d ∷ ds) [] held = absurd held
memtables_indexed n number i (d ∷ ds) (c ∷ cs) held = (
  elim (nat_eq n number) as (λ b. AreStored (key_type (if b then with_index i d else d)) c.partitions) [ true ↦ held.0 | false ↦ held.0 ],
  memtables_indexed (suc n) number i ds cs held.1,
)

pub times_indexed : (n number : ℕ) (i : Index) (ts : List model.Table) → max_timestamp_of_tables (at_number n number (table_with_index i) ts) ≡ max_timestamp_of_tables ts
times_indexed n number i [] = refl
times_indexed n number i (t ∷ ts) =
    elim (nat_eq n number) as (λ b. max_timestamp_of_tables ((if b then table_with_index i t else t) ∷ at_number (suc n) number (table_with_index i) ts) ≡ max_timestamp_of_tables (t ∷ ts)) [
      | true ↦ ap (max (max_timestamp_of_partitions (fin.values t.partitions))) (times_indexed (suc n) number i ts)
      | false ↦ ap (max (max_timestamp_of_partitions (fin.values t.partitions))) (times_indexed (suc n) number i ts)
    ]

pub define_kept : (p : Partitioner) (ds : List Definition) (cs : List MemtableView) (g number : ℕ) (i : Index) → IsMachineState p ds cs g → IsMachineState p (at_number 1 number (with_index i) ds) cs g
define_kept p ds cs g number i kept = record {
  held = memtables_indexed 1 number i ds cs kept.held;
  under = kept.under;
  max_timestamp_is = kept.max_timestamp_is ∙ sym (ap max_timestamp_of_tables (tables_indexed 1 number i ds cs) ∙ times_indexed 1 number i (tables_of ds cs));
  limit = kept.limit;
}

pub defined_state : (p : Partitioner) (ds : List Definition) (cs : List MemtableView) (number : ℕ) (i : Index) → state_of p (at_number 1 number (with_index i) ds) cs ≡ state_with_index (state_of p ds cs) number i
defined_state p ds cs number i = ap (λ (tables : List model.Table). record { partitioner = p; tables = tables }) (tables_indexed 1 number i ds cs)

-- the definitions behind a further index
pub defined_schema : (number : ℕ) (new : NewIndex) (def : IndexDef) (old after : SchemaView) → def ≡ numbered_def number new → after ≡ with_index_def def old → after.definitions ≡ at_number 1 new.table (with_index (index_of_new new)) old.definitions
defined_schema number new def old after numbered is = ap (λ (v : SchemaView). v.definitions) (is ∙ ap (λ (d : IndexDef). with_index_def d old) numbered)

pub addable : (s : State) (p : Partitioner) (ds : List Definition) (cs : List MemtableView) (g number : ℕ) (new : NewIndex) → state_of p ds cs ≡ s → IsMachineState p ds cs g → IsAddable s new
    → IsIndexIn ds (numbered_def number new)
addable s p ds cs g number new is kept can = subst (λ (ds : List Definition). IsIndexIn ds (numbered_def number new)) (ap (λ (s : State). definitions s.tables) (sym is) ∙ definitions_of ds cs kept.held) (can number)
