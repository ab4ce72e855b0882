-- What a kit of analyzers gives, by the classes of its objects.
use Rattle.std.specs.Prelude.{◌≡◌, ◌+◌, ℕ, Bool, true, false, List, [], slice_get, take, drop, Option, None, Some, Result, Ok, Err}
use Rattle.std.specs.List.{list_any, position_or_len}
use Rattle.sasi_types.specs.Rule.{class_of}
use Rattle.sasi_types.specs.declared.class.Class.{Class}
use Rattle.sasi_types.specs.declared.class.Class.TheVariants.{NonTokenizing, Standard}
use Rattle.sasi_types.specs.declared.kit_fault.KitFault.{KitFault}
use Rattle.sasi_types.specs.declared.kit_fault.KitFault.TheVariants.{Missing, OutOfMemory}
use Rattle.sasi_types.specs.declared.rule.Rule.{Rule}
use Rattle.sasi_terms.specs.Terms.{terms}

abbrev pub same_class : Class → Class → Bool
same_class NonTokenizing NonTokenizing = true
same_class Standard Standard = true
same_class _ _ = false

-- the class is among these
abbrev pub has_class : Class → List Class → Bool
has_class class classes = list_any (same_class class) classes

-- the position of the first one of the class, or how many there are
abbrev pub first_position : Class → List Class → ℕ
first_position class classes = position_or_len (same_class class) classes

-- every object but the first one of the class is as it was
abbrev pub KeepsOthers : {A : Type 0} → Class → List Class → List A → List A → Type 0
KeepsOthers class classes old new =
    (take (first_position class classes) new ≡ take (first_position class classes) old) × (drop (first_position class classes + 1) new ≡ drop (first_position class classes + 1) old)

-- the position of the first one of the class is found, or there is none
abbrev pub FindsFirst : Class → List Class → Option ℕ → Type 0
FindsFirst class classes (Some position) = (slice_get classes position ≡ Some class) × (has_class class (take position classes) ≡ false)
FindsFirst class classes None = has_class class classes ≡ false

-- The terms of the text, or no term and why: the class of the rule is missing exactly where the kit doesn't have it.
abbrev pub Gives : Bool → Rule → List ℕ → List (List ℕ) → Result (Unit {0}) KitFault → Type 0
Gives has rule text out (Ok _) = (has ≡ true) × (out ≡ terms rule text)
Gives has rule text out (Err (Missing class)) = (has ≡ false) × (class ≡ class_of rule) × (out ≡ [])
Gives has rule text out (Err OutOfMemory) = (has ≡ true) × (out ≡ [])
