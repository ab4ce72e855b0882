-- Rules that are tried on one thing after another.
use Rattle.std.proofs.Common.{◌≡◌, ℕ, suc, ◌+◌, ◌<◌, List, [], ◌∷◌, ◌++◌, length, drop, get_or, Option, None, Some, Result, Ok, Err, IfOk, true, false, if◌then◌else◌, add-one, sym, ap, ◌∙◌}
use Rattle.std.specs.List.{flat_map}
use Rattle.std.specs.Option.{option_map}
use Rattle.std.proofs.Math.Seq.{drop-cons}
use Rattle.sasi_types.specs.declared.literal.Literal.{Literal}
use Rattle.sasi_model.specs.Refusals.{Refusal, RefusalRule, each}
use Rattle.sasi_model.specs.Abbreviations.{first_refusal}
use Rattle.sasi_schema.specs.Answers.{IsFirstRefusal}
use Rattle.sasi_machine.specs.Refusal.{refusal_of}
use Rattle.sasi_machine.specs.declared.refusal.Refusal.{Refusal as Named}
use Rattle.sasi_schema.proofs.RuleLaws.{first_before, first_behind, refused_before}

is_told_by : (refusal_of_fault : Option Refusal) (rules others : List RefusalRule) → first_refusal rules ≡ first_refusal others → IsFirstRefusal refusal_of_fault others → IsFirstRefusal refusal_of_fault rules
is_told_by None rules others same is = tt
is_told_by (Some refusal) rules others same is = same ∙ is

-- the rule of a column refuses it, and those of the columns before pass
pub each_told : (rule : List ℕ → Literal → RefusalRule) (given : List (List ℕ × Literal)) (i : ℕ) (g : List ℕ × Literal) (refusal_of_fault : Option Refusal) → i < length given → g ≡ get_or given i g
    → first_refusal (each rule given) ≡ first_refusal (each rule (drop i given)) → IsFirstRefusal refusal_of_fault (rule g.0 g.1 ∷ []) → IsFirstRefusal refusal_of_fault (each rule given)
each_told rule given i g refusal_of_fault inside is passed refused =
    is_told_by refusal_of_fault (each rule given) (each rule (drop i given)) passed (rw (drop-cons given i g inside, ← is) (refused_before refusal_of_fault (rule g.0 g.1 ∷ []) (each rule (drop (suc i) given)) refused))

-- ---- rules in groups, one group after another

-- a rule of the group refuses, and the groups before pass
pub group_refuses : {R : Type 0} (f : R → List RefusalRule) (groups : List R) (i : ℕ) (d : R) (r : Refusal) → i < length groups
    → first_refusal (flat_map f groups) ≡ first_refusal (flat_map f (drop i groups)) → first_refusal (f (get_or groups i d)) ≡ Some r → first_refusal (flat_map f groups) ≡ Some r
group_refuses f groups i d r inside passed refused = passed ∙ rw (drop-cons groups i d inside) (first_before (f (get_or groups i d)) (flat_map f (drop (suc i) groups)) r refused)

-- the group passes too
pub group_passes : {R : Type 0} (f : R → List RefusalRule) (groups : List R) (i : ℕ) (d : R) → i < length groups
    → first_refusal (flat_map f groups) ≡ first_refusal (flat_map f (drop i groups)) → first_refusal (f (get_or groups i d)) ≡ None → first_refusal (flat_map f groups) ≡ first_refusal (flat_map f (drop (i + 1) groups))
group_passes f groups i d inside passed none = passed ∙ rw (add-one, drop-cons groups i d inside) (first_behind (f (get_or groups i d)) (flat_map f (drop (suc i) groups)) none)

-- ---- the refusal of rules, and then of others

pub refusal_behind : {E : Type 0} (a b : List RefusalRule) (result : Result (Option Named) E) → first_refusal a ≡ None → IfOk result (λ found. option_map refusal_of found ≡ first_refusal b) → IfOk result (λ found. option_map refusal_of found ≡ first_refusal (a ++ b))
refusal_behind a b (Ok found) none is = is ∙ sym (first_behind a b none)
refusal_behind a b (Err e) none is = tt

pub one_behind : {E : Type 0} (rule : RefusalRule) (b : List RefusalRule) (result : Result (Option Named) E) → rule.0 ≡ false → IfOk result (λ found. option_map refusal_of found ≡ first_refusal b) → IfOk result (λ found. option_map refusal_of found ≡ first_refusal (rule ∷ b))
one_behind rule b (Ok found) passes is = is ∙ sym (ap (λ t. if t then Some rule.1 else first_refusal b) passes)
one_behind rule b (Err e) passes is = tt

pub one_refuses : (rule : RefusalRule) (b : List RefusalRule) → rule.0 ≡ true → first_refusal (rule ∷ b) ≡ Some rule.1
one_refuses rule b applies = ap (λ t. if t then Some rule.1 else first_refusal b) applies
