-- Tables by their names and numbers.
use Rattle.std.proofs.Common.{◌≡◌, ℕ, zero, suc, ◌+◌, ◌<◌, true, false, List, [], ◌∷◌, ◌++◌, length, map, drop, get_or, Some, refl, sym, ap, ◌∙◌, arith, add-one}
use Rattle.std.proofs.Math.Seq.{drop-cons}
use Rattle.std.proofs.lemmas.List.{length-map, map-append}
use Rattle.sasi_model.specs.Statements.{same}
use Rattle.sasi_model.specs.State.{definition_of}
use Rattle.sasi_schema.specs.declared.table.Table.{Table}
use Rattle.sasi_schema.specs.Defined.{definition, definitions}
use Rattle.sasi_schema.specs.Numbers.{number_of_table, RisesFrom}
use Rattle.sasi_schema.proofs.Positions.{from_position, from_more}

-- the number at a position
pub rises_at : (n : ℕ) (tables : List Table) (i : ℕ) (t : Table) → RisesFrom n (map (λ t. t.number) tables) → i < length tables → t ≡ get_or tables i t → t.number ≡ n + i
rises_at n [] i t rises inside is = absurd (omega arith)
rises_at n (x ∷ xs) zero t rises inside is = rw is (rises.0 ∙ omega arith)
rises_at n (x ∷ xs) (suc i) t rises inside is = rises_at (suc n) xs i t rises.1 (omega arith) is ∙ omega arith

-- one more number at the end
pub rises_push : (n : ℕ) (numbers : List ℕ) (number : ℕ) → RisesFrom n numbers → number ≡ n + length numbers → RisesFrom n (numbers ++ number ∷ [])
rises_push n [] number rises is = (is ∙ omega arith, tt)
rises_push n (x ∷ xs) number rises is = (rises.0, rises_push (suc n) xs number rises.1 (is ∙ omega arith))

-- a table of another name is passed
pub named_past : (name : List ℕ) (tables : List Table) (i : ℕ) (t : Table) → i < length tables → t ≡ get_or tables i t → same t.name name ≡ false
    → definition_of name (definitions (drop i tables)) ≡ definition_of name (definitions (drop (i + 1) tables))
named_past name tables i t inside is other = rw (add-one, drop-cons tables i t inside, ← is, other) refl

pub number_past : (name : List ℕ) (tables : List Table) (i : ℕ) (t : Table) → i < length tables → t ≡ get_or tables i t → same t.name name ≡ false
    → from_position i (number_of_table name (definitions (drop i tables))) ≡ from_position (i + 1) (number_of_table name (definitions (drop (i + 1) tables)))
number_past name tables i t inside is other = rw (add-one, drop-cons tables i t inside, ← is, other) (from_more i (number_of_table name (definitions (drop (suc i) tables))))

-- the table of the name is found
pub named_here : (name : List ℕ) (tables : List Table) (i : ℕ) (t : Table) → i < length tables → t ≡ get_or tables i t
    → same t.name name ≡ true → definition_of name (definitions (drop i tables)) ≡ Some (definition t)
named_here name tables i t inside is found = rw (drop-cons tables i t inside, ← is, found) refl

pub number_here : (name : List ℕ) (tables : List Table) (i : ℕ) (t : Table) → i < length tables → t ≡ get_or tables i t → same t.name name ≡ true
    → from_position i (number_of_table name (definitions (drop i tables))) ≡ Some (i + 1)
number_here name tables i t inside is found = rw (drop-cons tables i t inside, ← is, found) refl

-- the number of the table that was found
pub number_told : (name : List ℕ) (tables : List Table) (i : ℕ) (t : Table) → i < length tables → t ≡ get_or tables i t → same t.name name ≡ true
    → number_of_table name (definitions tables) ≡ from_position i (number_of_table name (definitions (drop i tables))) → RisesFrom 1 (map (λ t. t.number) tables)
    → Some t.number ≡ number_of_table name (definitions tables)
number_told name tables i t inside is found passed rises =
    ap Some (rises_at 1 tables i t rises inside is ∙ omega arith) ∙ sym (passed ∙ number_here name tables i t inside is found)

-- one more table
pub rises_made : (tables made : List Table) (t : Table) → RisesFrom 1 (map (λ t. t.number) tables) → t.number ≡ length tables + 1 → made ≡ tables ++ t ∷ [] → RisesFrom 1 (map (λ t. t.number) made)
rises_made tables made t rises number is =
    rw (is, map-append (λ (t : Table). t.number) tables (t ∷ []))
    (rises_push 1 (map (λ t. t.number) tables) t.number rises (number ∙ rw (length-map tables (λ (t : Table). t.number)) (omega arith)))
