-- Items are put one after another.
use Rattle.std.proofs.lemmas.List.{take_more}
use Rattle.std.proofs.Common.{◌≡◌, ℕ, ◌<◌, ◌+◌, length, take, get_or, List, [], ◌∷◌, ◌++◌, refl, sym, ap, ◌∙◌, append_assoc, append-nil, ◌-◌, Some, arith, length-append}
use Rattle.std.specs.Prelude.{slice_get}
use Rattle.std.proofs.lemmas.Option.{slice_get-get_or}
use Rattle.std.proofs.Math.Seq.{get_or-append_seam}
use Rattle.sasi_formats.specs.Fields.{last}
use Rattle.sasi_host.specs.Names.{Bytes}
use Rattle.sasi_formats.specs.Formats.{encoded_items}

-- one more item at the end
pub encoded_push : {A : Type 0} (encode : List A → A → Bytes) (before items : List A) (a : A) → encoded_items encode before (items ++ a ∷ []) ≡ encoded_items encode before items ++ encode (before ++ items) a
encoded_push encode before [] a = append-nil (encode before a) ∙ ap (λ (l : List _). encode l a) (sym (append-nil before))
encoded_push encode before (b ∷ items) a =
    ap (λ (l : Bytes). encode before b ++ l) (encoded_push encode (before ++ b ∷ []) items a)
    ∙ sym (append_assoc (encode before b) (encoded_items encode (before ++ b ∷ []) items) (encode ((before ++ b ∷ []) ++ items) a))
    ∙ ap (λ (l : List _). (encode before b ++ encoded_items encode (before ++ b ∷ []) items) ++ encode l a) (append_assoc before (b ∷ []) items)

-- the turn of a loop
pub encoded_more : {A : Type 0} (encode : A → Bytes) (items : List A) (i : ℕ) (a : A) (start old new : Bytes) → i < length items → a ≡ get_or items i a → old ≡ start ++ encoded_items (λ _. encode) [] (take i items) → new ≡ old ++ encode a
    → new ≡ start ++ encoded_items (λ _. encode) [] (take (i + 1) items)
encoded_more encode items i a start old new within is so_far put =
    put ∙ ap (λ (l : Bytes). l ++ encode a) so_far ∙ append_assoc start (encoded_items (λ _. encode) [] (take i items)) (encode a)
    ∙ ap (λ (l : Bytes). start ++ l) (sym (encoded_push (λ _. encode) [] (take i items) a) ∙ ap (λ (l : List _). encoded_items (λ _. encode) [] l) (sym (take_more items i a within ∙ ap (λ x. take i items ++ x ∷ []) (sym is))))

-- items are encoded alike where each of them is
pub same_items : {A : Type 0} (first second : List A → A → Bytes) → ((before : List A) (a : A) → first before a ≡ second before a) → (values before : List A) → encoded_items first before values ≡ encoded_items second before values
same_items first second each [] before = refl
same_items first second each (a ∷ others) before =
    ap (λ (l : Bytes). l ++ encoded_items first (before ++ a ∷ []) others) (each before a) ∙ ap (λ (l : Bytes). second before a ++ l) (same_items first second each others (before ++ a ∷ []))

-- five fields
pub five_parts : (o p q r s t a b c d e : Bytes) → p ≡ o ++ a → q ≡ p ++ b → r ≡ q ++ c → s ≡ r ++ d → t ≡ s ++ e → t ≡ o ++ (a ++ (b ++ (c ++ (d ++ e))))
five_parts o p q r s t a b c d e h1 h2 h3 h4 h5 = rw (h5, h4, h3, h2, h1) (simp append_assoc)

-- the last item of a list is the one that was put last
pub last_push : {A : Type 0} (before : List A) (a : A) → last (before ++ a ∷ []) ≡ Some a
last_push {A = A} before a =
    let size : length (before ++ a ∷ []) - 1 ≡ length before = omega (arith, length-append before (a ∷ [])) in
    let within : length before < length (before ++ a ∷ []) = omega (arith, length-append before (a ∷ [])) in
    ap (λ (n : ℕ). slice_get (before ++ a ∷ []) n) size ∙ slice_get-get_or (before ++ a ∷ []) (length before) a within ∙ ap (λ (x : A). Some x) (get_or-append_seam before a [] a)
