-- Classes of analyzers that the indexes of a table need, and that a kit lacks.
use Rattle.std.specs.Prelude.{◌≡◌, List, false, Contains, Option, Some, ⊤}
use Rattle.std.specs.Option.{option_map}
use Rattle.sasi_types.specs.Rule.{class_of}
use Rattle.sasi_types.specs.declared.class.Class.{Class}
use Rattle.sasi_types.specs.declared.kit_fault.KitFault.{KitFault}
use Rattle.sasi_types.specs.declared.kit_fault.KitFault.TheVariants.{Missing, OutOfMemory}
use Rattle.sasi_types.specs.declared.rule.Rule.{Rule}
use Rattle.sasi_analyzers.specs.Kits.{has_class}
use Rattle.sasi_model.specs.Conditions.{Condition, Indexed, OfKey, Plain}
use Rattle.sasi_model.specs.State.{Definition, Index}

-- where a class is missing, this is so of it
abbrev pub OnMissing : (Class → Type 0) → KitFault → Type 0
OnMissing P (Missing class) = P class
OnMissing P OutOfMemory = ⊤

-- the rule needs an analyzer of this class, and none of these classes is it
pub record RuleLacks (kinds : List Class) (rule : Option Rule) (class : Class) : Type 0 where
  pub needs : option_map class_of rule ≡ Some class
  pub lacks : has_class class kinds ≡ false

-- so does the rule of an index of the table
pub record TableLacks (kinds : List Class) (d : Definition) (class : Class) : Type 0 where
  pub index : Index
  pub listed : Contains d.indexes index
  pub lacks : RuleLacks kinds index.rule class

-- or of an index of one of the tables
pub record TablesLack (kinds : List Class) (ds : List Definition) (class : Class) : Type 0 where
  pub definition : Definition
  pub defined : Contains ds definition
  pub lacks : TableLacks kinds definition class

-- or of the index of a condition
abbrev pub ConditionLacks : List Class → Condition → Class → Type 0
ConditionLacks kinds (OfKey key) class = ⊥
ConditionLacks kinds (Indexed index search) class = RuleLacks kinds index.rule class
ConditionLacks kinds (Plain column comparison) class = ⊥

-- or of that of one of the conditions
pub record WhereLacks (kinds : List Class) (conditions : List Condition) (class : Class) : Type 0 where
  pub condition : Condition
  pub listed : Contains conditions condition
  pub lacks : ConditionLacks kinds condition class
