-- How many candidates a SELECT checks, by its table.
use Rattle.std.proofs.Common.{◌≡◌, ◌-◌, ◌<◌, ◌≤◌, ℕ, true, false, List, length, map, Option, None, Some, is_some, slice_get, Result, IfErr, arith, refl, sym, ap, subst, ◌∙◌}
use Rattle.std.specs.Prelude.{◌^◌, min}
use Rattle.std.specs.FinMap as map_
use Rattle.std.specs.List.{filter}
use Rattle.std.specs.Option.{option_map, option_map_or}
use Rattle.std.proofs.lemmas.List.{length-map}
use Rattle.std.proofs.lemmas.Option.{slice_get-map}
use Rattle.sasi_types.specs.declared.class.Class.{Class}
use Rattle.sasi_types.specs.declared.decorated_key.DecoratedKey.{DecoratedKey}
use Rattle.sasi_types.specs.declared.kit_fault.KitFault.{KitFault}
use Rattle.sasi_types.specs.declared.statement.Select.{Select}
use Rattle.sasi_types.specs.declared.statement.Statement.TheVariants.{Query}
use Rattle.sasi_candidates.specs.Candidates.{is_candidate}
use Rattle.sasi_candidates.specs.Checks.{checked, looked}
use Rattle.sasi_cells.specs.Maps.{merged}
use Rattle.sasi_layout.specs.Layout.{Layout, TableParts, state_of}
use Rattle.sasi_layout.specs.Statements.{definitions_of}
use Rattle.sasi_layout.proofs.StatementLaws.{definitions_are}
use Rattle.sasi_machine.specs.Classes.{OnMissing, TableLacks, TablesLack, WhereLacks}
use Rattle.sasi_machine.proofs.Lacking.{definition_there, missing_result}
use Rattle.sasi_machine.proofs.NumberedTables.{definition_numbered}
use Rattle.sasi_model.specs.Abbreviations.{Partitions, first_refusal}
use Rattle.sasi_model.specs.Cells.{Partition}
use Rattle.sasi_model.specs.Conditions.{Condition}
use Rattle.sasi_model.specs.Filters.{Filter, answers}
use Rattle.sasi_model.specs.Refusals.{Refusal, refusal, select_rules}
use Rattle.sasi_model.specs.State.{Definition, definition_of}
use Rattle.sasi_schema.specs.Defined.{definition, definitions, numbers_of}
use Rattle.sasi_schema.specs.Numbers.{number_of_table}
use Rattle.sasi_schema.proofs.Indexed.{number_within}
use Rattle.sasi_schema.specs.declared.table.Table.{Table}
use Rattle.sasi_machine_layout.specs.Checks.{answered_checks, select_checks, table_checks}
use Rattle.sasi_machine_layout.specs.Contents.{IsContents, layout_of, maps_in, table_with}
use Rattle.sasi_machine_layout.specs.Hits.{parts_in}
use Rattle.sasi_machine_layout.specs.declared.contents.Contents.{Contents}
use Rattle.sasi_machine_layout.specs.declared.contents.TableContents.{TableContents}
use Rattle.sasi_machine_layout.proofs.PartHits.{maps_are}
use Rattle.sasi_machine_layout.proofs.TableLists.{as_many, definitions_in, has_at}

nothing_answered : (o : Option Refusal) (n : ℕ) → n ≡ 0 → option_map_or (λ r. 0) o n ≡ 0
nothing_answered None n none = none
nothing_answered (Some r) n none = refl

-- where no table has the name, none
none_named : (l : Layout) (select : Select) → number_of_table select.table (definitions_of l) ≡ None → answered_checks l select ≡ 0
none_named l select none =
    nothing_answered (refusal (state_of l) (Query select)) (select_checks l select)
    (ap (λ (o : Option ℕ). option_map_or (λ number. option_map_or (λ (t : TableParts). table_checks t select) (slice_get l.tables (number - 1)) 0) o 0) none)

-- the refusal is that over the definition of the table
refused_by : (l : Layout) (select : Select) (d : Definition) → definition_of select.table (definitions_of l) ≡ Some d → refusal (state_of l) (Query select) ≡ first_refusal (select_rules select (Some d))
unfolding refusal
refused_by l select d found = ap (λ (o : Option Definition). first_refusal (select_rules select o)) (ap (definition_of select.table) (sym (definitions_are l)) ∙ found)

-- **In the table of the name they are those that are checked there.**
answered_in : (l : Layout) (select : Select) (number : ℕ) (t : TableParts) → number_of_table select.table (definitions_of l) ≡ Some number → definition_of select.table (definitions_of l) ≡ Some t.definition → slice_get l.tables (number - 1) ≡ Some t
    → option_map_or (λ r. 0) (first_refusal (select_rules select (Some t.definition))) (table_checks t select) ≡ answered_checks l select
answered_in l select number t named found there =
    ap (λ (o : Option Refusal). option_map_or (λ r. 0) o (table_checks t select)) (sym (refused_by l select t.definition found))
    ∙ ap (λ n. option_map_or (λ r. 0) (refusal (state_of l) (Query select)) n)
    (sym (ap (λ (o : Option ℕ). option_map_or (λ number. option_map_or (λ (t : TableParts). table_checks t select) (slice_get l.tables (number - 1)) 0) o 0) named
    ∙ ap (λ (o : Option TableParts). option_map_or (λ (t : TableParts). table_checks t select) o 0) there))

-- ---- of what the code refuses

module _ {R : Type 0} (seen : R → Refusal) where
  pub refused_none : (o : Option R) (first : Option Refusal) (n : ℕ) → option_map seen o ≡ first → is_some o ≡ true → option_map_or (λ r. 0) first n ≡ 0
  refused_none None first n is some = cc
  refused_none (Some r) first n is some = ap (λ (f : Option Refusal). option_map_or (λ r. 0) f n) (sym is)

  pub taken : (o : Option R) (first : Option Refusal) → option_map seen o ≡ first → is_some o ≡ false → first ≡ None
  taken None first is none = sym is
  taken (Some r) first is none = cc

-- a class that a condition of the query needs is one that an index of the table needs
pub missing_kinds : {A : Type 0} (d : Definition) (conditions : List Condition) (old kinds : List Class) (result : Result A KitFault) → kinds ≡ old → ((class : Class) → WhereLacks kinds conditions class → TableLacks kinds d class)
    → IfErr result (OnMissing (WhereLacks kinds conditions)) → IfErr result (OnMissing (TableLacks old d))
missing_kinds d conditions old kinds result same classes missing =
    subst (λ (k : List Class). IfErr result (OnMissing (TableLacks k d))) same (missing_result (WhereLacks kinds conditions) (TableLacks kinds d) result classes missing)

-- ---- of what the loop counts

-- over the merge of the parts
pub checked_over : (table : Table) (t : TableContents) (limit : Option ℕ) (f : Filter) (n : ℕ)
    → n ≡ min (looked limit (answers f) (filter (λ (e : DecoratedKey × Partition). is_candidate (parts_in table t) f e.0) (map_.entries (merged (maps_in t))))) (2 ^ 64 - 1) → n ≡ min (checked limit f (parts_in table t)) (2 ^ 64 - 1)
checked_over table t limit f n counted =
    counted
    ∙ ap (λ (ms : List Partitions). min (looked limit (answers f) (filter (λ (e : DecoratedKey × Partition). is_candidate (parts_in table t) f e.0) (map_.entries (merged ms)))) (2 ^ 64 - 1)) (sym (maps_are table t))

-- ---- of the table of a name

-- it has a definition and contents
pub record IsHeldAt (c : Contents) (number : ℕ) : Type 0 where
  pub some : 1 ≤ number
  pub defined : number - 1 < length c.schema.definitions
  pub held : number - 1 < length c.tables.items

pub held_at : (c : Contents) (name : List ℕ) (number : ℕ) → IsContents c → number_of_table name c.schema.definitions ≡ Some number → IsHeldAt c number
held_at c name number good is =
    let within = number_within name c.schema.definitions number is in
    let many = as_many c.schema.definitions c.schema.numbers c.tables.items good.held in
    record { some = within.0; defined = omega (arith, within.0, within.1); held = omega (arith, within.0, within.1, many) }

-- where there is none, nothing is checked
pub none_at : (c : Contents) (select : Select) → IsContents c → number_of_table select.table c.schema.definitions ≡ None → 0 ≡ answered_checks (layout_of c) select
none_at c select good none =
    sym (none_named (layout_of c) select (ap (number_of_table select.table) (definitions_in c.schema.definitions c.schema.numbers c.tables.items good.held) ∙ none))

pub as_many_tables : (tables : List Table) (ds : List Definition) → definitions tables ≡ ds → length tables ≡ length ds
as_many_tables tables ds are = sym (length-map tables definition) ∙ ap length are

module _ (c : Contents) (name : List ℕ) (tables : List Table) (number : ℕ) (table : Table) (good : IsContents c) (is : number_of_table name c.schema.definitions ≡ Some number) (defined : definitions tables ≡ c.schema.definitions)
    (got : slice_get tables (number - 1) ≡ Some table) where
  all_defined : definitions_of (layout_of c) ≡ c.schema.definitions
  all_defined = definitions_in c.schema.definitions c.schema.numbers c.tables.items good.held

  definition_got : slice_get c.schema.definitions (number - 1) ≡ Some (definition table)
  definition_got = ap (λ (ds : List Definition). slice_get ds (number - 1)) (sym defined) ∙ slice_get-map definition tables (number - 1) ∙ ap (option_map definition) got

  found_definition : definition_of name (definitions_of (layout_of c)) ≡ Some (definition table)
  found_definition = ap (definition_of name) all_defined ∙ definition_numbered name c.schema.definitions number (definition table) is definition_got

  -- a class that an index of it needs is one that an index of the tables needs
  pub lacking_at : (kinds : List Class) (class : Class) → TableLacks kinds (definition table) class → TablesLack kinds (definitions_of (layout_of c)) class
  lacking_at kinds class lacks = record { definition = definition table; defined = definition_there name (definitions_of (layout_of c)) (definition table) found_definition; lacks = lacks }

  -- **The count over its contents is that of the layout.**
  pub answered_at : (select : Select) (t : TableContents) → select.table ≡ name → map numbers_of tables ≡ c.schema.numbers → slice_get c.tables.items (number - 1) ≡ Some t
      → option_map_or (λ r. 0) (first_refusal (select_rules select (Some (definition table)))) (table_checks (table_with (definition table) (numbers_of table) t) select) ≡ answered_checks (layout_of c) select
  answered_at select t named numbered here =
      let at = has_at c.schema.definitions c.schema.numbers c.tables.items (number - 1) t good.held here in
      let d_is : at.definition ≡ definition table = (let e : Some at.definition ≡ Some (definition table) = sym at.defined ∙ definition_got in cc) in
      let n_got : slice_get c.schema.numbers (number - 1) ≡ Some (numbers_of table) = ap (λ (ns : List (List ℕ)). slice_get ns (number - 1)) (sym numbered) ∙ slice_get-map numbers_of tables (number - 1) ∙ ap (option_map numbers_of) got in
      let n_is : at.numbers ≡ numbers_of table = (let e : Some at.numbers ≡ Some (numbers_of table) = sym at.numbered ∙ n_got in cc) in
      answered_in (layout_of c) select number (table_with (definition table) (numbers_of table) t)
      (ap (λ (n : List ℕ). number_of_table n (definitions_of (layout_of c))) named ∙ ap (number_of_table name) all_defined ∙ is)
      (ap (λ (n : List ℕ). definition_of n (definitions_of (layout_of c))) named ∙ found_definition)
      (at.there ∙ (λ i. Some (table_with (d_is i) (n_is i) t)))
