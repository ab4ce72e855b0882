-- A SELECT over the table of a store: its plan.
use Rattle.std.proofs.Common.{◌≡◌, ◌<◌, ◌≤◌, ◌-◌, ℕ, List, length, map, get_or, slice_get, Some, refl, sym, ap, subst, ◌∙◌, arith}
use Rattle.std.proofs.lemmas.List.{length-map}
use Rattle.std.specs.List.{AllByRecursion}
use Rattle.sasi_host.specs.Damages.{OnDamage}
use Rattle.sasi_host.specs.declared.damage.Damage.{Damage}
use Rattle.sasi_host.specs.declared.fault.ReadFault.{ReadFault}
use Rattle.sasi_host.specs.declared.fault.ReadFault.TheVariants as read
use Rattle.sasi_host.specs.View.{View}
use Rattle.sasi_layout.specs.Serving.{CanChange}
use Rattle.sasi_layout.specs.Classes.{KnowsClasses}
use Rattle.sasi_machine.specs.Classes as kit_faults
use Rattle.sasi_machine.specs.Classes.{TableLacks}
use Rattle.sasi_machine.specs.Operands.{CanSelect}
use Rattle.sasi_machine.specs.Picks.{pick}
use Rattle.sasi_machine.specs.declared.prepared.Selection.{Selection}
use Rattle.sasi_manifest.specs.declared.listed.ListedTable.{ListedTable}
use Rattle.sasi_manifest.specs.declared.listing.Listing.{Listing}
use Rattle.sasi_manifest.specs.ListedDefinition.{ListedDefinition}
use Rattle.sasi_manifest.specs.ListedTables.{listed}
use Rattle.sasi_model.specs.Abbreviations.{key_type, types_of}
use Rattle.sasi_model.specs.Conditions.{condition_of}
use Rattle.sasi_model.specs.Filters.{row_limit}
use Rattle.sasi_model.specs.State.{Definition}
use Rattle.sasi_model.specs.Step.{selected_columns}
use Rattle.sasi_engine.specs.Asked.{asked_of}
use Rattle.sasi_plan.specs.Plans.{IsAskedOf, IsSourceOf, PlanView}
use Rattle.sasi_schema.specs.Defined.{definition}
use Rattle.sasi_types.specs.declared.class.Class.{Class}
use Rattle.sasi_types.specs.declared.kit_fault.KitFault.{KitFault}
use Rattle.sasi_types.specs.declared.kit_fault.KitFault.TheVariants as kit_fault
use Rattle.sasi_types.specs.declared.partitioner.Partitioner.{Partitioner}
use Rattle.sasi_tables.specs.Faults.{OnStepDamage, fault_of_read}
use Rattle.sasi_tables.specs.Held.{held_by}
use Rattle.sasi_store.specs.Selects.{IsPlanFor, IsSelectable}
use Rattle.sasi_tables.specs.TablesView.{memory_of}
use Rattle.sasi_tables.specs.declared.parts.Parts.{Parts}
use Rattle.sasi_tables.proofs.KnownClasses.{known_at, no_index_lacks}
use Rattle.sasi_tables.proofs.Putting.{has_table}
use Rattle.sasi_tables.proofs.TablesInMemory.{index_got, map_there, seen_as, there_inside}

-- ---- faults

pub on_damage : (P Q : Damage → Type 0) → ((damage : Damage) → P damage → Q damage) → (f : ReadFault) → OnDamage P f → OnStepDamage Q (fault_of_read f)
on_damage P Q follows read.Failed is = tt
on_damage P Q follows read.OutOfMemory is = tt
on_damage P Q follows (read.Damaged damage) is = follows damage is

-- where no class is missing, memory ran out
pub only_memory : (P : Class → Type 0) (f : KitFault) → kit_faults.OnMissing P f → ((class : Class) → P class → ⊥) → f ≡ kit_fault.OutOfMemory
only_memory P kit_fault.OutOfMemory missing none = refl
only_memory P (kit_fault.Missing class) missing none = absurd (none class missing)

there_one : {A : Type 0} (x y : A) → Some x ≡ Some y → x ≡ y
there_one x y e = cc

-- ---- the table of a SELECT

module _ (v : View) (p : Parts) (ready : CanChange v (memory_of p)) (rows : Selection) (can : IsSelectable (memory_of p) rows) where
  abbrev listing : Listing
  listing = p.manifest.listing

  abbrev at : ℕ
  at = rows.table - 1

  defined : (t : ListedDefinition) × (slice_get listing.tables at ≡ Some t) × (t.definition ≡ can.definition)
  defined = seen_as (λ (t : ListedDefinition). t.definition) listing.tables at can.definition (ap (λ (ds : List Definition). slice_get ds at) (sym ready.definitions) ∙ can.there)

  -- it is one of the tables in memory
  table_within : rows.table ≤ length p.tables.items
  table_within = let has = has_table v p rows.table can.definition ready can.some can.there in omega (arith, has.inside, length-map p.tables.items (held_by p.maps))

  -- ---- what stands at its index among the listed tables

  module _ (tables : List ListedTable) (seen : map listed tables ≡ listing.tables) where
    inside_listed : at < length tables
    inside_listed =
        let size : length (map listed tables) ≡ length tables = length-map tables listed in
        omega (arith, there_inside listing.tables at defined.0 defined.1, size, ap length seen)

    module _ (row : ListedTable) (is_row : row ≡ get_or tables at row) where
      row_listed : slice_get listing.tables at ≡ Some (listed row)
      row_listed = ap (λ (l : List ListedDefinition). slice_get l at) (sym seen) ∙ map_there listed tables at row (index_got tables at row inside_listed is_row)

      row_defined : definition row.table ≡ can.definition
      row_defined = ap (λ (d : ListedDefinition). d.definition) (there_one (listed row) defined.0 (sym row_listed ∙ defined.1)) ∙ defined.2

      -- it can be asked, and lacks no class
      pub can_ask : CanSelect (definition row.table) rows.select
      can_ask = subst (λ (d : Definition). CanSelect d rows.select) (sym row_defined) can.can

      pub none_lacks : (kinds : List Class) → KnowsClasses kinds (memory_of p) → (class : Class) → TableLacks kinds (definition row.table) class → ⊥
      none_lacks kinds known class lacks =
          no_index_lacks kinds can.definition (known_at kinds (memory_of p).definitions at can.definition known can.there) class
          (subst (λ (d : Definition). TableLacks kinds d class) row_defined lacks)

      -- **A plan that was made for it is one for the SELECT.**
      pub planned : (plan : PlanView) (other : ListedTable) → row ≡ other → plan.picked.key ≡ key_type (definition other.table) → plan.picked.columns ≡ map pick (selected_columns (definition other.table) rows.select.columns)
          → plan.limit ≡ row_limit rows.select.limit → plan.conditions ≡ map (condition_of (definition other.table)) rows.select.relations → plan.types ≡ types_of (definition other.table)
          → (q : Partitioner) → q ≡ listing.partitioner → IsSourceOf q other.table.indexes plan.conditions plan.source → AllByRecursion (IsAskedOf (definition other.table)) (asked_of plan.conditions) → IsPlanFor p rows plan
      planned plan other same key columns limit conditions types q under source asked = record {
        some = can.some;
        within = table_within;
        row = other;
        there = subst (λ (r : ListedTable). slice_get listing.tables at ≡ Some (listed r)) same row_listed;
        key = key;
        columns = columns;
        limit = limit;
        conditions = conditions;
        types = types;
        source = subst (λ (r : Partitioner). IsSourceOf r other.table.indexes plan.conditions plan.source) under source;
        asked = asked;
      }
