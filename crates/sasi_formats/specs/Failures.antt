-- Where bytes break a format.
use Rattle.std.specs.Prelude.{◌≡◌, ◌≢◌, ℕ, zero, suc, ◌<◌, Bool, true, false, List, [], ◌∷◌, ◌++◌, length, take, None, ◌⊎◌}
use Rattle.sasi_host.specs.Names.{Bytes}
use Rattle.sasi_host.specs.declared.damage.FormatRule.{FormatRule}
use Rattle.sasi_fields.specs.Reading.{Reading, ReadsField}
use Rattle.sasi_formats.specs.Formats.{Coding, Format, Empty, Sized, Then, Decoded, Optional, Counted, Part, Encodes}
use Rattle.sasi_formats.specs.Reader.{Corruption, Short, Long, Broken, start}

-- bytes of this kind are next, and the new reader is after them
pub record IsNext (part : Part) (old new : Reading) : Type 0 where
  pub field : Bytes
  pub is : part field
  pub passes : ReadsField field old new

-- a part was read, and what follows it fails
pub record FailsAfter {A : Type 0} (part : A → Part) (next : A → Reading → Corruption → Type 0) (s : Reading) (corruption : Corruption) : Type 0 where
  pub value : A
  pub behind : Reading
  pub is_next : IsNext (part value) s behind
  pub fails : next value behind corruption

-- fewer bytes are left
pub record IsShort (size : ℕ) (s : Reading) (corruption : Corruption) : Type 0 where
  pub short : length s.left < size
  pub is : corruption ≡ Short

-- this many bytes are next, and decode to no value
pub record HasNoValue {A : Type 0} (rule : FormatRule) (coding : Coding Bytes A) (size : ℕ) (s : Reading) (corruption : Corruption) : Type 0 where
  pub field : Bytes
  pub rest : Bytes
  pub next : s.left ≡ field ++ rest
  pub sized : length field ≡ size
  pub none : coding.decode field ≡ None
  pub is : corruption ≡ Broken rule (length s.done) (take 8 field)

-- a value that decodes to no other begins here
pub record IsRejected {A B : Type 0} (rule : FormatRule) (seen : ℕ) (coding : Coding A B) (part : A → Part) (s : Reading) (corruption : Corruption) : Type 0 where
  pub value : A
  pub behind : Reading
  pub is_next : IsNext (part value) s behind
  pub none : coding.decode value ≡ None
  pub is : corruption ≡ Broken rule (length s.done) (take seen s.left)

-- the value fails, where there is one
abbrev pub fails_where : (Reading → Corruption → Type 0) → Bool → Reading → Corruption → Type 0
fails_where fails true s corruption = fails s corruption
fails_where fails false s corruption = ⊥

-- one of the items fails
abbrev pub fail_items : {A : Type 0} → (List A → A → Part) → (List A → Reading → Corruption → Type 0) → ℕ → List A → Reading → Corruption → Type 0
fail_items item fails zero before s corruption = ⊥
fail_items item fails (suc n) before s corruption = fails before s corruption ⊎ FailsAfter (item before) (λ a. fail_items item fails n (before ++ a ∷ [])) s corruption

-- no bytes of the format are next, and this is the first corruption
abbrev pub Fails : {A : Type 0} → Format A → Reading → Corruption → Type 0
Fails (Empty a) s corruption = ⊥
Fails (Sized size rule coding) s corruption = Fails size s corruption ⊎ FailsAfter (Encodes size) (λ n s f. IsShort n s f ⊎ HasNoValue rule coding n s f) s corruption
Fails (Then first next) s corruption = Fails first s corruption ⊎ FailsAfter (Encodes first) (λ a. Fails (next a)) s corruption
Fails (Decoded rule seen coding format) s corruption = Fails format s corruption ⊎ IsRejected rule seen coding (Encodes format) s corruption
Fails (Optional choice format) s corruption = Fails choice s corruption ⊎ FailsAfter (Encodes choice) (fails_where (Fails format)) s corruption
Fails (Counted count item) s corruption = Fails count s corruption ⊎ FailsAfter (Encodes count) (λ n. fail_items (λ before. Encodes (item before)) (λ before. Fails (item before)) n []) s corruption

-- bytes of a value are next, and other bytes follow them
pub record IsLong {A : Type 0} (format : Format A) (s : Reading) (corruption : Corruption) : Type 0 where
  pub value : A
  pub behind : Reading
  pub is_next : IsNext (Encodes format value) s behind
  pub more : behind.left ≢ []
  pub is : corruption ≡ Long

-- the bytes encode no value, and this is the first corruption
abbrev pub FailsWhole : {A : Type 0} → Format A → Bytes → Corruption → Type 0
FailsWhole format bytes corruption = Fails format (start bytes) corruption ⊎ IsLong format (start bytes) corruption

-- the bytes end within a value, or continue after it: the length that announced them is wrong
abbrev pub HasOtherLength : {A : Type 0} → Format A → Bytes → Type 0
HasOtherLength format bytes = FailsWhole format bytes Short ⊎ FailsWhole format bytes Long
