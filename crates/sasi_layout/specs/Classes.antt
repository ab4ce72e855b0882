-- The classes of analyzers that the indexes of a store need.
use Rattle.std.specs.Prelude.{◌≡◌, ◌<◌, ℕ, true, false, List, [], ◌∷◌, All, Contains, Option, None, Some, ⊤}
use Rattle.std.specs.List.{AllByRecursion, cons_option, flat_map}
use Rattle.std.specs.Option.{option_map}
use Rattle.sasi_types.specs.Rule.{class_of}
use Rattle.sasi_types.specs.declared.class.Class.{Class}
use Rattle.sasi_analyzers.specs.Kits.{has_class}
use Rattle.sasi_model.specs.Asked.{Asked, class_needed}
use Rattle.sasi_model.specs.State.{Definition, Index}
use Rattle.sasi_manifest.specs.ListedDefinition.{ListedDefinition}
use Rattle.sasi_layout.specs.Serving.{StoreInMemory}

-- ---- listed indexes

-- the classes of indexes with these numbers, each with its number; an index of numbers needs none
abbrev pub classes_of : List ℕ → List Index → List (ℕ × Class)
classes_of [] indexes = []
classes_of (n ∷ ns) [] = []
classes_of (n ∷ ns) (index ∷ indexes) = cons_option (option_map (λ rule. (n, class_of rule)) index.rule) (classes_of ns indexes)

-- those that the indexes of the listed tables need
abbrev pub classes_listed : List ListedDefinition → List (ℕ × Class)
classes_listed tables = flat_map (λ t. classes_of t.numbers t.definition.indexes) tables

-- an analyzer of each of the classes is there
abbrev pub HasAll : List Class → List (ℕ × Class) → Type 0
HasAll kinds needed = All (λ (c : ℕ × Class). has_class c.1 kinds ≡ true) needed

-- the class of the index with the least number whose class isn't there
pub record IsFirstMissing (kinds : List Class) (needed : List (ℕ × Class)) (class : Class) : Type 0 where
  pub number : ℕ
  pub needs : Contains needed (number, class)
  pub lacks : has_class class kinds ≡ false
  pub earlier : (n : ℕ) (other : Class) → Contains needed (n, other) → n < number → has_class other kinds ≡ true

-- ---- what a piece asks

-- the class that is needed, if one is, is there
abbrev pub HasNeeded : List Class → Option Class → Type 0
HasNeeded kinds None = ⊤
HasNeeded kinds (Some class) = has_class class kinds ≡ true

-- what is asked needs this class, and it isn't there
pub record LacksNeeded (kinds : List Class) (asked : Asked) (class : Class) : Type 0 where
  pub needs : class_needed asked ≡ Some class
  pub lacks : has_class class kinds ≡ false

-- ---- a store

-- an analyzer is there for each index of the table
abbrev pub KnowsIndexes : List Class → Definition → Type 0
KnowsIndexes kinds d = AllByRecursion (λ (index : Index). HasNeeded kinds (option_map class_of index.rule)) d.indexes

-- and for each index of the store
abbrev pub KnowsClasses : List Class → StoreInMemory → Type 0
KnowsClasses kinds store = AllByRecursion (KnowsIndexes kinds) store.definitions
