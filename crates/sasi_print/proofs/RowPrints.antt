-- What is printed of texts and of the values of a row.
use Rattle.std.proofs.Common.{◌≡◌, ◌==◌, ◌||◌, ◌≤◌, ◌-◌, ℕ, length, take, drop, get_or, arith, Bool, true, false, cond, List, [], ◌∷◌, ◌++◌, map, codes, Option, Result, Ok, Err, OnOk, is_ok, if◌then◌else◌, refl, sym, ap, ◌∙◌, append_assoc}
use Rattle.std.specs.List.{flat_map, list_any}
use Rattle.std.proofs.lemmas.List.{take_all}
use Rattle.sasi_cells.specs.declared.picked.PickedColumn.{PickedColumn}
use Rattle.sasi_types.specs.declared.value.Value.{Value}
use Rattle.sasi_model.specs.Abbreviations.{printed_byte, row_text}
use Rattle.sasi_model.specs.Lines.{printed}

-- a text without quotes is printed as it is
plain : (text : List ℕ) → list_any (λ b. b == 39) text ≡ false → flat_map printed_byte text ≡ text
plain [] none = refl
plain (b ∷ text) none = by (b == 39) refl none (plain text)
  where
    by : (t : Bool) → (b == 39) ≡ t → (t || list_any (λ b. b == 39) text) ≡ false → (list_any (λ b. b == 39) text ≡ false → flat_map printed_byte text ≡ text) → printed_byte b ++ flat_map printed_byte text ≡ b ∷ text
    by true is some rest = cc
    by false is others rest = ap (λ u. cond u (39 ∷ 39 ∷ []) (b ∷ []) ++ flat_map printed_byte text) is ∙ ap (λ (bs : List ℕ). b ∷ bs) (rest others)

-- what is added is that text
pub plain_added : {T E : Type 0} (result : Result T E) (new old text : List ℕ) → list_any (λ b. b == 39) text ≡ false → new ≡ (if is_ok result then old ++ text else old) → OnOk result (new ≡ old ++ flat_map printed_byte text)
plain_added (Ok x) new old text none is = is ∙ ap (λ (bs : List ℕ). old ++ bs) (sym (plain text none))
plain_added (Err e) new old text none is = tt

-- the first value, and the others each behind a separator
others_text : (f : PickedColumn → Option Value) (columns : List PickedColumn) → flat_map (λ value. codes " | " ++ printed value) (map f columns) ≡ flat_map (λ column. codes " | " ++ printed (f column)) columns
others_text f [] = refl
others_text f (c ∷ columns) = ap (λ (bs : List ℕ). (codes " | " ++ printed (f c)) ++ bs) (others_text f columns)

pub columns_text : (f : PickedColumn → Option Value) (columns : List PickedColumn) (first : PickedColumn) (others : List PickedColumn) (old one new : List ℕ) → columns ≡ first ∷ others
    → one ≡ old ++ printed (f first) → new ≡ one ++ flat_map (λ column. codes " | " ++ printed (f column)) others → new ≡ old ++ row_text (map f columns)
columns_text f columns first others old one new are one_is new_is =
    new_is ∙ ap (λ (bs : List ℕ). bs ++ flat_map (λ column. codes " | " ++ printed (f column)) others) one_is
    ∙ append_assoc old (printed (f first)) (flat_map (λ column. codes " | " ++ printed (f column)) others)
    ∙ ap (λ (bs : List ℕ). old ++ (printed (f first) ++ bs)) (sym (others_text f others))
    ∙ ap (λ (cs : List PickedColumn). old ++ row_text (map f cs)) (sym are)

-- the first of some columns, and the others
pub first_and_others : (columns : List PickedColumn) (default : PickedColumn) → 1 ≤ length columns → columns ≡ get_or columns 0 default ∷ take (length columns - 1) (drop 1 columns)
first_and_others [] default some = absurd (omega arith)
first_and_others (c ∷ columns) default some = ap (λ (cs : List PickedColumn). c ∷ cs) (sym (take_all (length (c ∷ columns) - 1) columns (omega arith)))
