-- A class that a WHERE needs is lacking exactly where one is found.
use Rattle.std.proofs.Common.{◌≡◌, ℕ, zero, suc, ◌<◌, Bool, true, false, cond, List, [], ◌∷◌, length, Option, None, Some, refl, sym, ap, subst, ◌∙◌, arith}
use Rattle.std.specs.Prelude.{slice_index_or}
use Rattle.std.specs.Option.{option_or}
use Rattle.sasi_types.specs.Rule.{class_of}
use Rattle.sasi_types.specs.declared.class.Class.{Class}
use Rattle.sasi_types.specs.declared.rule.Rule.{Rule}
use Rattle.sasi_analyzers.specs.Kits.{has_class}
use Rattle.sasi_model.specs.Conditions.{Condition, Indexed, OfKey, Plain}
use Rattle.sasi_machine.specs.Classes.{ConditionLacks, RuleLacks, WhereLacks}
use Rattle.sasi_recheck.specs.Rows.{KnowsWhere}
use Rattle.sasi_plan.specs.Lacking.{first_lacked, lacked_by, lacked_for}

-- ---- a rule

rule_lacks : (kinds : List Class) (rule : Option Rule) (class : Class) → lacked_for kinds rule ≡ Some class → RuleLacks kinds rule class
rule_lacks kinds None class is = cc
rule_lacks kinds (Some rule) class is = by (has_class (class_of rule) kinds) refl is
  where
    by : (b : Bool) → has_class (class_of rule) kinds ≡ b → cond b None (Some (class_of rule)) ≡ Some class → RuleLacks kinds (Some rule) class
    by true has is = cc
    by false has is = (let same : class_of rule ≡ class = cc in record { needs = ap Some same; lacks = ap (λ k. has_class k kinds) (sym same) ∙ has })

lacks_rule : (kinds : List Class) (rule : Option Rule) (class : Class) → RuleLacks kinds rule class → lacked_for kinds rule ≡ Some class
lacks_rule kinds None class is = (let needs = is.needs in cc)
lacks_rule kinds (Some rule) class is =
    let needs : Some (class_of rule) ≡ Some class = is.needs in
    let same : class_of rule ≡ class = cc in
    ap (λ b. cond b None (Some (class_of rule))) (ap (λ k. has_class k kinds) same ∙ is.lacks) ∙ ap Some same

-- ---- a condition

condition_lacks : (kinds : List Class) (c : Condition) (class : Class) → lacked_by kinds c ≡ Some class → ConditionLacks kinds c class
condition_lacks kinds (OfKey key) class is = cc
condition_lacks kinds (Indexed index search) class is = rule_lacks kinds index.rule class is
condition_lacks kinds (Plain column comparison) class is = cc

lacks_condition : (kinds : List Class) (c : Condition) (class : Class) → ConditionLacks kinds c class → lacked_by kinds c ≡ Some class
lacks_condition kinds (OfKey key) class is = absurd is
lacks_condition kinds (Indexed index search) class is = lacks_rule kinds index.rule class is
lacks_condition kinds (Plain column comparison) class is = absurd is

-- ---- all conditions

-- **What is found is lacking,**
pub found_lacks : (kinds : List Class) (cs : List Condition) (class : Class) → first_lacked kinds cs ≡ Some class → WhereLacks kinds cs class
found_lacks kinds [] class is = cc
found_lacks kinds (c ∷ cs) class is = by (lacked_by kinds c) refl is (found_lacks kinds cs class)
  where
    by : (o : Option Class) → lacked_by kinds c ≡ o → option_or o (first_lacked kinds cs) ≡ Some class → (first_lacked kinds cs ≡ Some class → WhereLacks kinds cs class) → WhereLacks kinds (c ∷ cs) class
    by None none is later = (let l = later is in record { condition = l.condition; listed = (suc l.listed.0, omega (arith, l.listed.1), l.listed.2); lacks = l.lacks })
    by (Some k) some is later = (let same : k ≡ class = cc in record { condition = c; listed = (0, omega arith, refl); lacks = condition_lacks kinds c class (some ∙ ap Some same) })

none_there : (kinds : List Class) (cs : List Condition) (k : ℕ) (c : Condition) (class : Class) → first_lacked kinds cs ≡ None → k < length cs → slice_index_or cs k c ≡ c → ConditionLacks kinds c class → ⊥
none_there kinds [] k c class none inside is lacks = absurd (omega (arith, inside))
none_there kinds (x ∷ cs) zero c class none inside is lacks =
    let needs : lacked_by kinds x ≡ Some class = lacks_condition kinds x class (subst (λ (y : Condition). ConditionLacks kinds y class) (sym is) lacks) in
    let differ : Some class ≡ None = sym (ap (λ o. option_or o (first_lacked kinds cs)) needs) ∙ none in
    cc
none_there kinds (x ∷ cs) (suc k) c class none inside is lacks = by (lacked_by kinds x) none (λ left. none_there kinds cs k c class left (omega (arith, inside)) is lacks)
  where
    by : (o : Option Class) → option_or o (first_lacked kinds cs) ≡ None → (first_lacked kinds cs ≡ None → ⊥) → ⊥
    by None left never = never left
    by (Some found) left never = cc

-- **and where none is found none is.**
pub none_lacks : (kinds : List Class) (cs : List Condition) → first_lacked kinds cs ≡ None → KnowsWhere kinds cs
none_lacks kinds cs none class lacks = none_there kinds cs lacks.listed.0 lacks.condition class none lacks.listed.1 lacks.listed.2 lacks.lacks
