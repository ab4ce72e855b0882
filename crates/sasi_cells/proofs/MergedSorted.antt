-- What the merge of two sorted lists takes from their fronts.
use Rattle.std.proofs.Common.{◌≡◌, List, [], ◌∷◌, ◌++◌, Option, None, Some, refl, sym, ap, ◌∙◌}
use Rattle.std.specs.declared.cmp.Ordering.{Ordering}
use Rattle.std.specs.declared.cmp.Ordering.TheVariants.{Less, Equal, Greater}
use Rattle.std.specs.Ordering.{match_ordering}
use Rattle.std.specs.Option.{option_to_list}
use Rattle.sasi_model.specs.Cells.{newest}
use Rattle.sasi_cells.specs.Entries.{Entry, merged_sorted, lower_column, newest_entry}

joined_nil : (xs : List Entry) → merged_sorted xs [] ≡ xs
joined_nil [] = refl
joined_nil (x ∷ xs) = refl

some_same : (a b : Ordering) → Some a ≡ Some b → a ≡ b
some_same a b e = cc

first_lower : (x : Entry) (xs ys : List Entry) → lower_column (x ∷ xs) ys ≡ Some Less → merged_sorted (x ∷ xs) ys ≡ x ∷ merged_sorted xs ys
first_lower x xs [] low = ap (λ l. x ∷ l) (sym (joined_nil xs))
first_lower x xs (y ∷ ys) low =
    ap (λ r. match_ordering r (x ∷ merged_sorted xs (y ∷ ys)) ((x.0, newest x.1 y.1) ∷ merged_sorted xs ys) (y ∷ merged_sorted (x ∷ xs) ys)) (some_same _ _ low)

second_lower : (xs : List Entry) (y : Entry) (ys : List Entry) → lower_column xs (y ∷ ys) ≡ Some Greater → merged_sorted xs (y ∷ ys) ≡ y ∷ merged_sorted xs ys
second_lower [] y ys low = refl
second_lower (x ∷ xs) y ys low =
    ap (λ r. match_ordering r (x ∷ merged_sorted xs (y ∷ ys)) ((x.0, newest x.1 y.1) ∷ merged_sorted xs ys) (y ∷ merged_sorted (x ∷ xs) ys)) (some_same _ _ low)

both_lowest : (x y : Entry) (xs ys : List Entry) → lower_column (x ∷ xs) (y ∷ ys) ≡ Some Equal
    → merged_sorted (x ∷ xs) (y ∷ ys) ≡ (x.0, newest x.1 y.1) ∷ merged_sorted xs ys
both_lowest x y xs ys low =
    ap (λ r. match_ordering r (x ∷ merged_sorted xs (y ∷ ys)) ((x.0, newest x.1 y.1) ∷ merged_sorted xs ys) (y ∷ merged_sorted (x ∷ xs) ys)) (some_same _ _ low)

-- the first list has the lower column
pub takes_first : (xs ys left : List Entry) (taken : Option Entry) → lower_column xs ys ≡ Some Less → xs ≡ option_to_list taken ++ left
    → merged_sorted xs ys ≡ option_to_list taken ++ merged_sorted left ys
takes_first xs ys left None low is = ap (λ l. merged_sorted l ys) is
takes_first xs ys left (Some e) low is = ap (λ l. merged_sorted l ys) is ∙ first_lower e left ys (ap (λ l. lower_column l ys) (sym is) ∙ low)

-- the second list has it
pub takes_second : (xs ys left : List Entry) (taken : Option Entry) → lower_column xs ys ≡ Some Greater → ys ≡ option_to_list taken ++ left
    → merged_sorted xs ys ≡ option_to_list taken ++ merged_sorted xs left
takes_second xs ys left None low is = ap (merged_sorted xs) is
takes_second xs ys left (Some e) low is = ap (merged_sorted xs) is ∙ second_lower xs e left (ap (lower_column xs) (sym is) ∙ low)

not_empty : (ys : List Entry) → lower_column [] ys ≡ Some Equal → ⊥
not_empty [] e = cc
not_empty (y ∷ ys) e = cc

not_empty_behind : (xs : List Entry) → lower_column xs [] ≡ Some Equal → ⊥
not_empty_behind [] e = cc
not_empty_behind (x ∷ xs) e = cc

-- both begin with it
pub takes_both : (xs ys xs' ys' : List Entry) (a b : Option Entry) → lower_column xs ys ≡ Some Equal → xs ≡ option_to_list a ++ xs'
    → ys ≡ option_to_list b ++ ys' → (a ≡ None → xs ≡ []) → (b ≡ None → ys ≡ [])
    → merged_sorted xs ys ≡ option_to_list (newest_entry a b) ++ merged_sorted xs' ys'
takes_both xs ys xs' ys' None b low is_a is_b none_a none_b = absurd (not_empty ys (ap (λ l. lower_column l ys) (sym (none_a refl)) ∙ low))
takes_both xs ys xs' ys' (Some x) None low is_a is_b none_a none_b = absurd (not_empty_behind xs (ap (lower_column xs) (sym (none_b refl)) ∙ low))
takes_both xs ys xs' ys' (Some x) (Some y) low is_a is_b none_a none_b =
    ap (λ l. merged_sorted l ys) is_a ∙ ap (merged_sorted (x ∷ xs')) is_b ∙ both_lowest x y xs' ys' (ap (lower_column (x ∷ xs')) (sym is_b) ∙ ap (λ l. lower_column l ys) (sym is_a) ∙ low)

-- neither begins with any
pub takes_none : (xs ys : List Entry) → lower_column xs ys ≡ None → merged_sorted xs ys ≡ []
takes_none [] [] low = refl
takes_none [] (y ∷ ys) low = cc
takes_none (x ∷ xs) [] low = cc
takes_none (x ∷ xs) (y ∷ ys) low = cc
