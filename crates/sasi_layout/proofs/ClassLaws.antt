-- The classes of analyzers that indexes need, after a change and as they are listed.
use Rattle.std.proofs.Common.{◌≡◌, ℕ, List, [], ◌∷◌, ◌++◌, length, true, Option, None, Some, sym, subst, arith}
use Rattle.std.specs.List.{AllByRecursion, cons_option}
use Rattle.std.specs.Option.{option_map}
use Rattle.std.proofs.lemmas.List.Elements.{All-head, All-tail}
use Rattle.sasi_types.specs.Rule.{class_of}
use Rattle.sasi_types.specs.declared.class.Class.{Class}
use Rattle.sasi_types.specs.declared.rule.Rule.{Rule}
use Rattle.sasi_analyzers.specs.Kits.{has_class}
use Rattle.sasi_manifest.specs.ListedDefinition.{ListedDefinition}
use Rattle.sasi_manifest.specs.Listings.{at_number, listed_definitions}
use Rattle.sasi_model.specs.State.{Definition, Index, with_index}
use Rattle.sasi_layout.specs.Classes.{HasAll, HasNeeded, KnowsIndexes, classes_listed, classes_of}
use Rattle.sasi_layout.specs.NumbersInOrder.{HasIndexesNumbered}
use Rattle.sasi_layout.proofs.Numbered.{all_changed}

-- ---- after a change

all_push : {A : Type 0} (P : A → Type 0) (xs : List A) (y : A) → AllByRecursion P xs → P y → AllByRecursion P (xs ++ y ∷ [])
all_push P [] y all last = (last, tt)
all_push P (x ∷ xs) y all last = (all.0, all_push P xs y all.1 last)

-- a further table has no index
pub known_created : (kinds : List Class) (ds : List Definition) (d : Definition) → d.indexes ≡ [] → AllByRecursion (KnowsIndexes kinds) ds → AllByRecursion (KnowsIndexes kinds) (ds ++ d ∷ [])
known_created kinds ds d none known = all_push (KnowsIndexes kinds) ds d known (subst (AllByRecursion (λ (index : Index). HasNeeded kinds (option_map class_of index.rule))) (sym none) tt)

-- a further index, for which an analyzer is there
pub known_defined : (kinds : List Class) (ds : List Definition) (number : ℕ) (index : Index) → HasNeeded kinds (option_map class_of index.rule) → AllByRecursion (KnowsIndexes kinds) ds
    → AllByRecursion (KnowsIndexes kinds) (at_number 1 number (with_index index) ds)
known_defined kinds ds number index has known =
    all_changed (KnowsIndexes kinds) (KnowsIndexes kinds) (with_index index) (λ d all. all_push (λ (index : Index). HasNeeded kinds (option_map class_of index.rule)) d.indexes index all has) (λ d all. all) 1 number ds known

-- ---- as they are listed

abbrev Has : List Class → ℕ × Class → Type 0
Has kinds c = has_class c.1 kinds ≡ true

known_of : (kinds : List Class) (ns : List ℕ) (indexes : List Index) (rest : List (ℕ × Class)) → length ns ≡ length indexes → HasAll kinds (classes_of ns indexes ++ rest)
    → AllByRecursion (λ (index : Index). HasNeeded kinds (option_map class_of index.rule)) indexes × HasAll kinds rest
known_of kinds [] [] rest counted all = (tt, all)
known_of kinds [] (index ∷ indexes) rest counted all = absurd (omega (arith, counted))
known_of kinds (n ∷ ns) [] rest counted all = absurd (omega (arith, counted))
known_of kinds (n ∷ ns) (index ∷ indexes) rest counted all =
    elim index.rule as (λ (r : Option Rule). HasAll kinds (cons_option (option_map (λ rule. (n, class_of rule)) r) (classes_of ns indexes) ++ rest)
    → (HasNeeded kinds (option_map class_of r) × AllByRecursion (λ (index : Index). HasNeeded kinds (option_map class_of index.rule)) indexes) × HasAll kinds rest) [
      | None ↦ λ all. (let more = known_of kinds ns indexes rest (omega (arith, counted)) all in ((tt, more.0), more.1))
      | Some rule ↦ λ all. (
          let more = known_of kinds ns indexes rest (omega (arith, counted)) (All-tail (Has kinds) (n, class_of rule) (classes_of ns indexes ++ rest) all) in
          ((All-head (Has kinds) (n, class_of rule) (classes_of ns indexes ++ rest) all, more.0), more.1))
    ] all

-- where each listed index has a number
pub known_listed : (kinds : List Class) (high : ℕ) (ts : List ListedDefinition) → AllByRecursion (HasIndexesNumbered high) ts → HasAll kinds (classes_listed ts) → AllByRecursion (KnowsIndexes kinds) (listed_definitions ts)
known_listed kinds high [] numbered all = tt
known_listed kinds high (t ∷ ts) numbered all =
    let more = known_of kinds t.numbers t.definition.indexes (classes_listed ts) numbered.0.counted all in
    (more.0, known_listed kinds high ts numbered.1 more.1)
