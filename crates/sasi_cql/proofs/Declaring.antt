-- The items of a CREATE TABLE, by names and what is declared of them.
use Rattle.std.proofs.Common.{◌≡◌, ℕ, List, [], ◌∷◌, ◌++◌, length, refl, ap, arith}
use Rattle.sasi_cql.specs.declared.declared.Declared.{Declared}
use Rattle.sasi_cql.specs.TableItems.{declaration, declarations}

-- one more at the end
pub declarations_more : (names : List (List ℕ)) (kinds : List Declared) (name : List ℕ) (kind : Declared) → length names ≡ length kinds
    → declarations (names ++ name ∷ []) (kinds ++ kind ∷ []) ≡ declarations names kinds ++ declaration name kind ∷ []
declarations_more [] [] name kind same = refl
declarations_more [] (k ∷ kinds) name kind same = absurd (omega arith)
declarations_more (n ∷ names) [] name kind same = absurd (omega arith)
declarations_more (n ∷ names) (k ∷ kinds) name kind same = ap (λ l. declaration n k ∷ l) (declarations_more names kinds name kind (omega arith))
