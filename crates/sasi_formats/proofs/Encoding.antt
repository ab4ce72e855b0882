-- A value has one encoding, and it has one where it fits.
use Rattle.std.proofs.Common.{◌≡◌, true, false, None, Some, List, [], ◌∷◌, ◌++◌, length, refl, ap, ◌∙◌}
use Rattle.sasi_host.specs.Names.{Bytes}
use Rattle.sasi_formats.specs.Formats.{Format, Empty, Sized, Then, Decoded, Optional, Counted, Part, are_items, Encodes, encoded, encoded_items, Fits, fit_items}

-- bytes of two equal parts
joined_same : (p q a b bytes : Bytes) → bytes ≡ p ++ q → p ≡ a → q ≡ b → bytes ≡ a ++ b
joined_same p q a b bytes whole first second = whole ∙ ap (λ (l : Bytes). l ++ q) first ∙ ap (λ (l : Bytes). a ++ l) second

encode_items : {A : Type 0} (is : List A → A → Part) (encode : List A → A → Bytes) → ((before : List A) (a : A) (bytes : Bytes) → is before a bytes → bytes ≡ encode before a)
    → (values before : List A) (bytes : Bytes) → are_items is before values bytes → bytes ≡ encoded_items encode before values
encode_items is encode each [] before bytes h = h
encode_items is encode each (a ∷ others) before bytes h =
    joined_same h.front h.behind (encode before a) (encoded_items encode (before ++ a ∷ []) others) bytes h.whole (each before a h.front h.starts) (encode_items is encode each others (before ++ a ∷ []) h.behind h.ends)

-- the bytes of a value are those that a writer puts
pub encoded_only : {A : Type 0} (format : Format A) (value : A) (bytes : Bytes) → Encodes format value bytes → bytes ≡ encoded format value
encoded_only (Empty a) value bytes h = h.0
encoded_only (Sized size rule coding) value bytes h =
    h.whole ∙ ap (λ (l : Bytes). l ++ coding.encode value) (encoded_only size (length (coding.encode value)) h.front h.starts)
encoded_only (Then first next) value bytes h =
    joined_same h.front h.behind (encoded first value.0) (encoded (next value.0) value.1) bytes h.whole (encoded_only first value.0 h.front h.starts) (encoded_only (next value.0) value.1 h.behind h.ends)
encoded_only (Decoded rule seen coding format) value bytes h = encoded_only format (coding.encode value) bytes h.is
encoded_only (Optional choice format) None bytes h = encoded_only choice false bytes h
encoded_only (Optional choice format) (Some a) bytes h =
    joined_same h.front h.behind (encoded choice true) (encoded format a) bytes h.whole (encoded_only choice true h.front h.starts) (encoded_only format a h.behind h.ends)
encoded_only (Counted count item) values bytes h =
    joined_same h.front h.behind (encoded count (length values)) (encoded_items (λ before. encoded (item before)) [] values) bytes h.whole (encoded_only count (length values) h.front h.starts)
    (encode_items (λ before. Encodes (item before)) (λ before. encoded (item before)) (λ before a bytes p. encoded_only (item before) a bytes p) values [] h.behind h.ends)

items_fit : {A : Type 0} (is : List A → A → Part) (fit : List A → A → Type 0) → ((before : List A) (a : A) (bytes : Bytes) → is before a bytes → fit before a)
    → (values before : List A) (bytes : Bytes) → are_items is before values bytes → fit_items fit before values
items_fit is fit each [] before bytes h = tt
items_fit is fit each (a ∷ others) before bytes h = (each before a h.front h.starts, items_fit is fit each others (before ++ a ∷ []) h.behind h.ends)

-- a value that has bytes fits
pub fits : {A : Type 0} (format : Format A) (value : A) (bytes : Bytes) → Encodes format value bytes → Fits format value
fits (Empty a) value bytes h = h.1
fits (Sized size rule coding) value bytes h = (fits size (length (coding.encode value)) h.front h.starts, h.is_value)
fits (Then first next) value bytes h = (fits first value.0 h.front h.starts, fits (next value.0) value.1 h.behind h.ends)
fits (Decoded rule seen coding format) value bytes h = (fits format (coding.encode value) bytes h.is, h.is_value)
fits (Optional choice format) None bytes h = fits choice false bytes h
fits (Optional choice format) (Some a) bytes h = (fits choice true h.front h.starts, fits format a h.behind h.ends)
fits (Counted count item) values bytes h =
    (fits count (length values) h.front h.starts, items_fit (λ before. Encodes (item before)) (λ before. Fits (item before)) (λ before a bytes p. fits (item before) a bytes p) values [] h.behind h.ends)

items_encode : {A : Type 0} (is : List A → A → Part) (fit : List A → A → Type 0) (encode : List A → A → Bytes) → ((before : List A) (a : A) → fit before a → is before a (encode before a))
    → (values before : List A) → fit_items fit before values → are_items is before values (encoded_items encode before values)
items_encode is fit encode each [] before h = refl
items_encode is fit encode each (a ∷ others) before h = record { front = encode before a; behind = encoded_items encode (before ++ a ∷ []) others; whole = refl; starts = each before a h.0; ends = items_encode is fit encode each others (before ++ a ∷ []) h.1 }

-- a value that fits has bytes
pub encodes : {A : Type 0} (format : Format A) (value : A) → Fits format value → Encodes format value (encoded format value)
encodes (Empty a) value h = (refl, h)
encodes (Sized size rule coding) value h = record { front = encoded size (length (coding.encode value)); whole = refl; starts = encodes size (length (coding.encode value)) h.0; is_value = h.1 }
encodes (Then first next) value h = record { front = encoded first value.0; behind = encoded (next value.0) value.1; whole = refl; starts = encodes first value.0 h.0; ends = encodes (next value.0) value.1 h.1 }
encodes (Decoded rule seen coding format) value h = record { is = encodes format (coding.encode value) h.0; is_value = h.1 }
encodes (Optional choice format) None h = encodes choice false h
encodes (Optional choice format) (Some a) h = record { front = encoded choice true; behind = encoded format a; whole = refl; starts = encodes choice true h.0; ends = encodes format a h.1 }
encodes (Counted count item) values h = record {
  front = encoded count (length values);
  behind = encoded_items (λ before. encoded (item before)) [] values;
  whole = refl;
  starts = encodes count (length values) h.0;
  ends = items_encode (λ before. Encodes (item before)) (λ before. Fits (item before)) (λ before. encoded (item before)) (λ before a p. encodes (item before) a p) values [] h.1;
}
