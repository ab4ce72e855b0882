-- The values that an index makes terms of, and the class of analyzer that it needs for that.
use Rattle.std.specs.Prelude.{◌≡◌, ◌↔◌, ℕ, Option, None, Some, IfSome, IsSome, true, false, List, Result, Ok, Err, ⊤}
use Rattle.std.specs.Option.{option_and_then}
use Rattle.std.specs.Str.{IsUtf8}
use Rattle.sasi_types.specs.declared.cell.Cell.{Cell}
use Rattle.sasi_types.specs.declared.class.Class.{Class}
use Rattle.sasi_types.specs.declared.column.ColumnType.{ColumnType}
use Rattle.sasi_types.specs.declared.kit_fault.KitFault.{KitFault}
use Rattle.sasi_types.specs.declared.kit_fault.KitFault.TheVariants.{Missing, OutOfMemory}
use Rattle.sasi_types.specs.declared.rule.Rule.{Rule}
use Rattle.sasi_types.specs.declared.value.Value.{Value}
use Rattle.sasi_types.specs.declared.value.Value.TheVariants.{Text, Int, BigInt, Uuid}
use Rattle.sasi_types.specs.Rule.{class_of}
use Rattle.sasi_types.specs.Value.{type_of}
use Rattle.sasi_analyzers.specs.Kits.{has_class}
use Rattle.sasi_model.specs.IndexTerms.{terms_of_value}

-- ---- values

-- a text is UTF-8
abbrev pub IsText : Value → Type 0
IsText (Text text) = IsUtf8 text
IsText value = ⊤

-- the value is one of the type
pub record IsValueOf (type : ColumnType) (value : Value) : Type 0 where
  pub is : type_of value ≡ type
  pub text : IsText value

-- the value that a cell has, if there is a cell and it isn't a tombstone
abbrev pub live_value : Option Cell → Option Value
live_value cell = option_and_then (λ c. c.value) cell

abbrev pub IsCellOf : ColumnType → Option Cell → Type 0
IsCellOf type cell = IfSome (live_value cell) (IsValueOf type)

-- ---- classes

-- the class of analyzer that makes the terms of the value; those of a number need none
abbrev pub class_for : Option Rule → Option Value → Option Class
class_for (Some rule) (Some (Text text)) = Some (class_of rule)
class_for rule value = None

-- The terms of the value, or why there are none: the class is missing exactly where the terms need it and no object is one.
abbrev pub Makes : List Class → Option Rule → Option Value → Result (List (List ℕ)) KitFault → Type 0
Makes classes rule value (Ok found) = IfSome (class_for rule value) (λ class. has_class class classes ≡ true) × (found ≡ terms_of_value rule value)
Makes classes rule value (Err (Missing class)) = (class_for rule value ≡ Some class) × (has_class class classes ≡ false)
Makes classes rule value (Err OutOfMemory) = IfSome (class_for rule value) (λ class. has_class class classes ≡ true) × IsSome value

-- the terms of either value need an analyzer of this class, and no object is one
pub data Lacks (classes : List Class) (rule : Option Rule) (old new : Option Value) (class : Class) : Type 0 where
  for_old : class_for rule old ≡ Some class → has_class class classes ≡ false → Lacks classes rule old new class
  for_new : class_for rule new ≡ Some class → has_class class classes ≡ false → Lacks classes rule old new class

-- a result is Missing exactly where the class is lacking
abbrev pub MissingExactly : List Class → Option Rule → Option Value → Option Value → Result (Unit {0}) KitFault → Type 0
MissingExactly classes rule old new result = (class : Class) → (result ≡ Err (Missing class)) ↔ Lacks classes rule old new class
