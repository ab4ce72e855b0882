-- Formats whose values all have one size: so many bytes break one by a rule alone, and not by their size.
use Rattle.std.proofs.Common.{◌≡◌, ℕ, ◌+◌, ◌≤◌, [], ◌++◌, length, sym, ap, ◌∙◌, ◌⊎◌, inl, inr, arith, subst, length-append}
use Rattle.std.proofs.lemmas.List.{nil_from_length}
use Rattle.sasi_host.specs.Names.{Bytes}
use Rattle.sasi_host.specs.declared.damage.FormatRule.{FormatRule}
use Rattle.sasi_fields.specs.Reading.{Reading}
use Rattle.sasi_formats.specs.Formats.{Coding, Format, Empty, Sized, Decoded, Encodes}
use Rattle.sasi_formats.specs.Reader.{Corruption, Short, Long, Broken, Outcome, Got, closed, ended, read, start}
use Rattle.sasi_formats.specs.Failures.{IsShort, HasNoValue, Fails, FailsWhole}
use Rattle.sasi_formats.specs.Fields.{◌&◌}
use Rattle.sasi_formats.proofs.Agreement.{reads_exactly, reads_whole}

-- the corruption is a broken rule
abbrev pub IsRule : Corruption → Type 0
IsRule Short = ⊥
IsRule Long = ⊥
IsRule (Broken rule at seen) = Unit {0}

-- each value has so many bytes, and where so many are left, the reader fails by a rule alone
pub record IsOfSize {A : Type 0} (format : Format A) (size : ℕ) : Type 0 where
  pub sized : (value : A) (bytes : Bytes) → Encodes format value bytes → length bytes ≡ size
  pub breaks : (s : Reading) (f : Corruption) → size ≤ length s.left → Fails format s f → IsRule f

-- ---- fields

taken_breaks : {A : Type 0} (rule : FormatRule) (coding : Coding Bytes A) (n : ℕ) (s : Reading) (f : Corruption) → n ≤ length s.left → IsShort n s f ⊎ HasNoValue rule coding n s f → IsRule f
taken_breaks rule coding n s f long (inl h) = absurd (omega (arith, long, h.short))
taken_breaks rule coding n s f long (inr h) = subst (λ (x : Corruption). IsRule x) (sym h.is) tt

field_breaks : {A : Type 0} (n : ℕ) (rule : FormatRule) (coding : Coding Bytes A) (s : Reading) (f : Corruption) → n ≤ length s.left → Fails (Sized (Empty n) rule coding) s f → IsRule f
field_breaks n rule coding s f long (inl h) = absurd h
field_breaks n rule coding s f long (inr h) =
    let next = h.is_next.passes.next in
    taken_breaks rule coding h.value h.behind f
    (omega (arith, long, h.is_next.is.1, ap length next, ap length h.is_next.is.0, length-append h.is_next.field h.behind.left)) h.fails

-- a field
pub field_of_size : {A : Type 0} (n : ℕ) (rule : FormatRule) (coding : Coding Bytes A) → IsOfSize (Sized (Empty n) rule coding) n
field_of_size n rule coding = record {
  sized = λ value bytes h. ap length h.whole ∙ ap (λ (l : Bytes). length (l ++ coding.encode value)) h.starts.0 ∙ h.starts.1;
  breaks = λ s f long h. field_breaks n rule coding s f long h;
}

decoded_breaks : {A B : Type 0} (rule : FormatRule) (seen : ℕ) (coding : Coding A B) (format : Format A) (size : ℕ) → IsOfSize format size
    → (s : Reading) (f : Corruption) → size ≤ length s.left → Fails (Decoded rule seen coding format) s f → IsRule f
decoded_breaks rule seen coding format size of_size s f long (inl h) = of_size.breaks s f long h
decoded_breaks rule seen coding format size of_size s f long (inr h) = subst (λ (x : Corruption). IsRule x) (sym h.is) tt

-- a value that decodes to another
pub decoded_of_size : {A B : Type 0} (rule : FormatRule) (seen : ℕ) (coding : Coding A B) (format : Format A) (size : ℕ) → IsOfSize format size → IsOfSize (Decoded rule seen coding format) size
decoded_of_size rule seen coding format size of_size = record {
  sized = λ value bytes h. of_size.sized (coding.encode value) bytes h.is;
  breaks = λ s f long h. decoded_breaks rule seen coding format size of_size s f long h;
}

both_break : {A B : Type 0} (first : Format A) (second : Format B) (m n : ℕ) → IsOfSize first m → IsOfSize second n
    → (s : Reading) (f : Corruption) → m + n ≤ length s.left → Fails (first & second) s f → IsRule f
both_break first second m n one two s f long (inl h) = one.breaks s f (omega (arith, long)) h
both_break first second m n one two s f long (inr h) =
    let next = h.is_next.passes.next in
    let size = one.sized h.value h.is_next.field h.is_next.is in
    two.breaks h.behind f (omega (arith, long, size, ap length next, length-append h.is_next.field h.behind.left)) h.fails

-- one after another
pub both_of_size : {A B : Type 0} (first : Format A) (second : Format B) (m n : ℕ) → IsOfSize first m → IsOfSize second n → IsOfSize (first & second) (m + n)
both_of_size first second m n one two = record {
  sized = λ value bytes h.
      ap length h.whole ∙ length-append h.front h.behind ∙ ap (λ (k : ℕ). k + length h.behind) (one.sized value.0 h.front h.starts) ∙ ap (λ (k : ℕ). m + k) (two.sized value.1 h.behind h.ends);
  breaks = λ s f long h. both_break first second m n one two s f long h;
}

-- ---- whole bytes

module _ {A : Type 0} (format : Format A) (size : ℕ) (of_size : IsOfSize format size) where
  -- so many bytes break it by a rule alone
  pub whole_breaks : (bytes : Bytes) (f : Corruption) → length bytes ≡ size → FailsWhole format bytes f → IsRule f
  whole_breaks bytes f long (inl h) = of_size.breaks (start bytes) f (omega (arith, long)) h
  whole_breaks bytes f long (inr h) =
      let next : bytes ≡ h.is_next.field ++ h.behind.left = h.is_next.passes.next in
      let same = of_size.sized h.value h.is_next.field h.is_next.is in
      absurd (h.more (nil_from_length h.behind.left (omega (arith, long, same, ap length next, length-append h.is_next.field h.behind.left))))

  -- and those of which a value is read are its bytes
  pub whole_is : (bytes : Bytes) (value : A) (t : Reading) → length bytes ≡ size → read format (start bytes) ≡ Got value t → Encodes format value bytes
  whole_is bytes value t long got =
      let l = (reads_exactly format (start bytes) t value).0 got in
      let next : bytes ≡ l.field ++ t.left = l.passes.next in
      let same = of_size.sized value l.field l.is in
      let none : t.left ≡ [] = nil_from_length t.left (omega (arith, long, same, ap length next, length-append l.field t.left)) in
      reads_whole format bytes value t (ap (λ (r : Outcome A). ended r) got ∙ ap (λ (b : Bytes). closed value t b) none)
