-- Relations by their parts.
use Rattle.std.proofs.Common.{◌≡◌, ℕ, List, [], ◌∷◌, ◌++◌, length, suc, refl, ap, arith}
use Rattle.sasi_types.specs.declared.literal.Literal.{Literal}
use Rattle.sasi_types.specs.declared.relation.Relation.{Relation}
use Rattle.sasi_types.specs.declared.relation.Test.{Test}
use Rattle.sasi_types.specs.Related.{related}

-- one more at the end
pub related_more : (columns : List (List ℕ)) (tests : List Test) (values : List Literal) (relation : Relation) → length columns ≡ length tests → length values ≡ length tests
    → related (columns ++ relation.column ∷ []) (tests ++ relation.test ∷ []) (values ++ relation.value ∷ []) ≡ related columns tests values ++ relation ∷ []
related_more [] [] [] relation p q = refl
related_more [] [] (v ∷ values) relation p q = absurd (omega arith)
related_more [] (t ∷ tests) values relation p q = absurd (omega arith)
related_more (c ∷ columns) [] values relation p q = absurd (omega arith)
related_more (c ∷ columns) (t ∷ tests) [] relation p q = absurd (omega arith)
related_more (c ∷ columns) (t ∷ tests) (v ∷ values) relation p q =
    ap (λ l. record { column = c; test = t; value = v } ∷ l) (related_more columns tests values relation (omega arith) (omega arith))

-- as many as tests
pub related_length : (columns : List (List ℕ)) (tests : List Test) (values : List Literal) → length columns ≡ length tests → length values ≡ length tests → length (related columns tests values) ≡ length tests
related_length [] [] values p q = refl
related_length [] (t ∷ tests) values p q = absurd (omega arith)
related_length (c ∷ columns) [] values p q = absurd (omega arith)
related_length (c ∷ columns) (t ∷ tests) [] p q = absurd (omega arith)
related_length (c ∷ columns) (t ∷ tests) (v ∷ values) p q = ap suc (related_length columns tests values (omega arith) (omega arith))
