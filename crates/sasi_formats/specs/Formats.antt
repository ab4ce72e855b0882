-- Byte formats as data. A format says which bytes encode which value.
use Rattle.std.specs.Prelude.{◌≡◌, ℕ, Bool, true, false, List, [], ◌∷◌, ◌++◌, length, Option, None, Some, MatchOption}
use Rattle.std.specs.Option.{option_map_or}
use Rattle.sasi_host.specs.Names.{Bytes}
use Rattle.sasi_host.specs.declared.damage.FormatRule.{FormatRule}

-- how a value is decoded, if it can be, and how it is encoded; each value has one encoding
pub record Coding (A B : Type 0) : Type 0 where
  pub decode : A → Option B
  pub encode : B → A
  pub canonical : (a : A) (b : B) → decode a ≡ Some b → encode b ≡ a

pub data Format : Type 0 → Type 1 where
  -- no bytes, which encode this value
  Empty : {A : Type 0} → A → Format A
  -- a size, and this many bytes that decode to a value; others break the rule where they begin, and eight of them are reported
  Sized : {A : Type 0} → Format ℕ → FormatRule → Coding Bytes A → Format A
  -- a format, and after it one that may depend on its value
  Then : {A B : Type 0} → Format A → (A → Format B) → Format (A × B)
  -- whether there is a value, and after it the format of the value if there is one
  Optional : {A : Type 0} → Format Bool → Format A → Format (Option A)
  -- a value that decodes to another; one that doesn't breaks the rule where it begins, and this many bytes are reported
  Decoded : {A B : Type 0} → FormatRule → ℕ → Coding A B → Format A → Format B
  -- a count, and this many items; the format of each may depend on those before
  Counted : {A : Type 0} → Format ℕ → (List A → Format A) → Format (List A)

-- ---- bytes and values

-- a property of bytes
abbrev pub Part : Type 1
Part = Bytes → Type 0

-- bytes of the first kind, and then bytes of the second kind
pub record Joined (first second : Part) (bytes : Bytes) : Type 0 where
  pub front : Bytes
  pub behind : Bytes
  pub whole : bytes ≡ front ++ behind
  pub starts : first front
  pub ends : second behind

-- the size of the value's bytes, and then these bytes
pub record IsSized {A : Type 0} (size : ℕ → Part) (coding : Coding Bytes A) (value : A) (bytes : Bytes) : Type 0 where
  pub front : Bytes
  pub whole : bytes ≡ front ++ coding.encode value
  pub starts : size (length (coding.encode value)) front
  pub is_value : coding.decode (coding.encode value) ≡ Some value

-- the bytes of what decodes to the value
pub record IsDecoded {A B : Type 0} (part : A → Part) (coding : Coding A B) (value : B) (bytes : Bytes) : Type 0 where
  pub is : part (coding.encode value) bytes
  pub is_value : coding.decode (coding.encode value) ≡ Some value

-- items one after another, after those before
abbrev pub are_items : {A : Type 0} → (List A → A → Part) → List A → List A → Part
are_items item before [] = λ bytes. bytes ≡ []
are_items item before (a ∷ others) = Joined (item before a) (are_items item (before ++ a ∷ []) others)

-- whether there is a value, and the value
abbrev pub is_optional : {A : Type 0} → (Bool → Part) → (A → Part) → Option A → Part
is_optional choice format None = choice false
is_optional choice format (Some a) = Joined (choice true) (format a)

-- the bytes encode the value
abbrev pub Encodes : {A : Type 0} → Format A → A → Part
Encodes (Empty a) value bytes = (bytes ≡ []) × (value ≡ a)
Encodes (Sized size rule coding) value bytes = IsSized (Encodes size) coding value bytes
Encodes (Then first next) value bytes = Joined (Encodes first value.0) (Encodes (next value.0) value.1) bytes
Encodes (Decoded rule seen coding format) value bytes = IsDecoded (Encodes format) coding value bytes
Encodes (Optional choice format) value bytes = is_optional (Encodes choice) (Encodes format) value bytes
Encodes (Counted count item) values bytes = Joined (Encodes count (length values)) (are_items (λ before. Encodes (item before)) [] values) bytes

-- ---- the bytes of a value

abbrev pub encoded_items : {A : Type 0} → (List A → A → Bytes) → List A → List A → Bytes
encoded_items item before [] = []
encoded_items item before (a ∷ others) = item before a ++ encoded_items item (before ++ a ∷ []) others

-- the bytes that a writer puts
abbrev pub encoded : {A : Type 0} → Format A → A → Bytes
encoded (Empty a) value = []
encoded (Sized size rule coding) value = encoded size (length (coding.encode value)) ++ coding.encode value
encoded (Then first next) value = encoded first value.0 ++ encoded (next value.0) value.1
encoded (Decoded rule seen coding format) value = encoded format (coding.encode value)
encoded (Optional choice format) value = option_map_or (λ a. encoded choice true ++ encoded format a) value (encoded choice false)
encoded (Counted count item) values = encoded count (length values) ++ encoded_items (λ before. encoded (item before)) [] values

-- ---- the values that have bytes

abbrev pub fit_items : {A : Type 0} → (List A → A → Type 0) → List A → List A → Type 0
fit_items item before [] = Unit {0}
fit_items item before (a ∷ others) = item before a × fit_items item (before ++ a ∷ []) others

-- the value has bytes in the format
abbrev pub Fits : {A : Type 0} → Format A → A → Type 0
Fits (Empty a) value = value ≡ a
Fits (Sized size rule coding) value = Fits size (length (coding.encode value)) × (coding.decode (coding.encode value) ≡ Some value)
Fits (Then first next) value = Fits first value.0 × Fits (next value.0) value.1
Fits (Decoded rule seen coding format) value = Fits format (coding.encode value) × (coding.decode (coding.encode value) ≡ Some value)
Fits (Optional choice format) value = MatchOption value (Fits choice false) (λ a. Fits choice true × Fits format a)
Fits (Counted count item) values = Fits count (length values) × fit_items (λ before. Fits (item before)) [] values
