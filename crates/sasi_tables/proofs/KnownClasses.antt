-- No class that a SELECT needs is missing where an analyzer is there for each index.
use Rattle.std.proofs.Common.{◌≡◌, ◌<◌, ℕ, zero, suc, true, false, List, [], ◌∷◌, length, slice_get, slice_index_or, Some, sym, subst, ◌∙◌, arith}
use Rattle.std.specs.List.{AllByRecursion}
use Rattle.std.specs.Option.{option_map}
use Rattle.sasi_analyzers.specs.Kits.{has_class}
use Rattle.sasi_layout.specs.Classes.{HasNeeded, KnowsIndexes}
use Rattle.sasi_machine.specs.Classes as kits
use Rattle.sasi_machine.specs.Classes.{TableLacks, TablesLack}
use Rattle.sasi_model.specs.State.{Definition, Index}
use Rattle.sasi_types.specs.Rule.{class_of}
use Rattle.sasi_types.specs.declared.class.Class.{Class}
use Rattle.sasi_types.specs.declared.kit_fault.KitFault.{KitFault}
use Rattle.sasi_types.specs.declared.kit_fault.KitFault.TheVariants as kit_fault
use Rattle.sasi_tables.specs.Faults.{OnMissing, fault_of_kit}

within : {A : Type 0} (P : A → Type 0) (xs : List A) (x : A) (k : ℕ) → k < length xs → slice_index_or xs k x ≡ x → AllByRecursion P xs → P x
within P [] x k below is all = absurd (omega (arith, below))
within P (y ∷ xs) x zero below is all = subst P is all.0
within P (y ∷ xs) x (suc k) below is all = within P xs x k (omega (arith, below)) is all.1

there_and_not : (kinds : List Class) (class : Class) → has_class class kinds ≡ true → has_class class kinds ≡ false → ⊥
there_and_not kinds class there lacks = let no : true ≡ false = sym there ∙ lacks in cc

pub no_index_lacks : (kinds : List Class) (d : Definition) → KnowsIndexes kinds d → (class : Class) → TableLacks kinds d class → ⊥
no_index_lacks kinds d known class lacks =
    let has = within (λ (index : Index). HasNeeded kinds (option_map class_of index.rule)) d.indexes lacks.index lacks.listed.0 lacks.listed.1 lacks.listed.2 known in
    there_and_not kinds class (subst (HasNeeded kinds) lacks.lacks.needs has) lacks.lacks.lacks

pub no_table_lacks : (kinds : List Class) (ds : List Definition) → AllByRecursion (KnowsIndexes kinds) ds → (class : Class) → TablesLack kinds ds class → ⊥
no_table_lacks kinds ds known class lacks =
    no_index_lacks kinds lacks.definition (within (KnowsIndexes kinds) ds lacks.definition lacks.defined.0 lacks.defined.1 lacks.defined.2 known) class lacks.lacks

-- the table at an index
pub known_at : (kinds : List Class) (ds : List Definition) (at : ℕ) (d : Definition) → AllByRecursion (KnowsIndexes kinds) ds → slice_get ds at ≡ Some d → KnowsIndexes kinds d
known_at kinds [] at d known there = cc
known_at kinds (x ∷ ds) zero d known there = let same : x ≡ d = cc in subst (KnowsIndexes kinds) same known.0
known_at kinds (x ∷ ds) (suc at) d known there = known_at kinds ds at d known.1 there

-- so a fault of a kit is want of memory
pub never_lacks : (P : Class → Type 0) (f : KitFault) → kits.OnMissing P f → ((class : Class) → P class → ⊥) → OnMissing (λ _. ⊥) (fault_of_kit f)
never_lacks P kit_fault.OutOfMemory lacks none = tt
never_lacks P (kit_fault.Missing class) lacks none = none class lacks
