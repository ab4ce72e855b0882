-- Codes of conditions, by which proofs tell them apart. Nothing here says what a SELECT means.
use Rattle.std.specs.Prelude.{◌≡◌, ℕ, suc, zero, ℤ, pos, List, [], None, refl}
use Rattle.std.specs.Coded.{Coded, code_by, coded×, coded_ℕ, coded_ℤ, coded_list}
use Rattle.sasi_types.specs.declared.mode.Mode.TheVariants as modes
use Rattle.sasi_terms.specs.declared.op.Op.{Op}
use Rattle.sasi_terms.specs.declared.op.Op.TheVariants as ops
use Rattle.sasi_model.specs.Codes.{coded_bytes, coded_index}
use Rattle.sasi_model.specs.Conditions.{Between, Condition, Equals, Indexed, OfKey, Plain, Search}
use Rattle.sasi_model.specs.State.{Index}

abbrev pub op_code : Op → ℕ × (ℤ × ℤ)
op_code ops.Eq = (0, (pos 0, pos 0))
op_code ops.Prefix = (1, (pos 0, pos 0))
op_code ops.Suffix = (2, (pos 0, pos 0))
op_code ops.Contains = (3, (pos 0, pos 0))
op_code (ops.Range least greatest) = (4, (least, greatest))

abbrev pub op_from : ℕ → ℤ → ℤ → Op
op_from zero least greatest = ops.Eq
op_from (suc zero) least greatest = ops.Prefix
op_from (suc (suc zero)) least greatest = ops.Suffix
op_from (suc (suc (suc zero))) least greatest = ops.Contains
op_from (suc (suc (suc (suc n)))) least greatest = ops.Range least greatest

abbrev pub op_again : (op : Op) → op_from (op_code op).0 (op_code op).1.0 (op_code op).1.1 ≡ op
op_again ops.Eq = refl
op_again ops.Prefix = refl
op_again ops.Suffix = refl
op_again ops.Contains = refl
op_again (ops.Range least greatest) = refl

abbrev pub coded_op : Coded Op
coded_op = code_by (ℕ × (ℤ × ℤ)) (coded× coded_ℕ (coded× coded_ℤ coded_ℤ)) op_code (λ c. op_from c.0 c.1.0 c.1.1) op_again

abbrev pub coded_search : Coded Search
coded_search = code_by (Op × List (List ℕ)) (coded× coded_op (coded_list coded_bytes)) (λ s. (s.op, s.words)) (λ c. record { op = c.0; words = c.1 }) (λ _. refl)

abbrev pub no_index : Index
no_index = record { name = []; column = 0; mode = modes.Prefix; rule = None }

abbrev pub no_search : Search
no_search = record { op = ops.Eq; words = [] }

abbrev pub ConditionCode : Type 0
ConditionCode = ℕ × (ℕ × (List ℕ × ((ℤ × ℤ) × (Index × Search))))

abbrev pub condition_code : Condition → ConditionCode
condition_code (OfKey key) = (0, (0, (key, ((pos 0, pos 0), (no_index, no_search)))))
condition_code (Indexed index search) = (1, (0, ([], ((pos 0, pos 0), (index, search)))))
condition_code (Plain column (Equals bytes)) = (2, (column, (bytes, ((pos 0, pos 0), (no_index, no_search)))))
condition_code (Plain column (Between least greatest)) = (3, (column, ([], ((least, greatest), (no_index, no_search)))))

abbrev pub condition_from : ℕ → ℕ → List ℕ → ℤ × ℤ → Index → Search → Condition
condition_from zero column bytes range index search = OfKey bytes
condition_from (suc zero) column bytes range index search = Indexed index search
condition_from (suc (suc zero)) column bytes range index search = Plain column (Equals bytes)
condition_from (suc (suc (suc n))) column bytes range index search = Plain column (Between range.0 range.1)

abbrev pub condition_again : (c : Condition) → condition_from (condition_code c).0 (condition_code c).1.0 (condition_code c).1.1.0 (condition_code c).1.1.1.0 (condition_code c).1.1.1.1.0 (condition_code c).1.1.1.1.1 ≡ c
condition_again (OfKey key) = refl
condition_again (Indexed index search) = refl
condition_again (Plain column (Equals bytes)) = refl
condition_again (Plain column (Between least greatest)) = refl

abbrev pub coded_condition : Coded Condition
coded_condition =
    code_by ConditionCode (coded× coded_ℕ (coded× coded_ℕ (coded× coded_bytes (coded× (coded× coded_ℤ coded_ℤ) (coded× coded_index coded_search)))))
    condition_code (λ c. condition_from c.0 c.1.0 c.1.1.0 c.1.1.1.0 c.1.1.1.1.0 c.1.1.1.1.1) condition_again
