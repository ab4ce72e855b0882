-- The offset of a broken rule lies within the bytes.
use Rattle.std.proofs.Common.{◌≡◌, ◌≤◌, ℕ, zero, suc, true, false, Bool, List, [], ◌∷◌, ◌++◌, length, sym, ap, ◌∙◌, ◌⊎◌, inl, inr, arith, subst, length-append, append_assoc}
use Rattle.sasi_host.specs.Names.{Bytes}
use Rattle.sasi_host.specs.declared.damage.FormatRule.{FormatRule}
use Rattle.sasi_fields.specs.Reading.{Reading, ReadsField}
use Rattle.sasi_formats.specs.Formats.{Coding, Format, Empty, Sized, Then, Decoded, Optional, Counted, Part, Encodes}
use Rattle.sasi_formats.specs.Reader.{Corruption, Short, Long, Broken, start}
use Rattle.sasi_formats.specs.Failures.{FailsAfter, IsShort, HasNoValue, fails_where, fail_items, Fails, FailsWhole}

-- the offset of the corruption, if it has one, lies within the bytes
abbrev pub IsWithin : Bytes → Corruption → Type 0
IsWithin bytes Short = Unit {0}
IsWithin bytes Long = Unit {0}
IsWithin bytes (Broken rule at seen) = at ≤ length bytes

-- the bytes that were read, and those that are left
abbrev whole : Reading → Bytes
whole s = s.done ++ s.left

whole_kept : (field : Bytes) (s t : Reading) → ReadsField field s t → whole t ≡ whole s
whole_kept field s t passes = ap (λ (l : Bytes). l ++ t.left) passes.done ∙ append_assoc s.done field t.left ∙ ap (λ (l : Bytes). s.done ++ l) (sym passes.next)

here : (rule : FormatRule) (seen : Bytes) (s : Reading) (f : Corruption) → f ≡ Broken rule (length s.done) seen → IsWithin (whole s) f
here rule seen s f is =
    let within : length s.done ≤ length (whole s) = omega (arith, length-append s.done s.left) in
    subst (λ (x : Corruption). IsWithin (whole s) x) (sym is) within

taken_within : {A : Type 0} (rule : FormatRule) (coding : Coding Bytes A) (n : ℕ) (s : Reading) (f : Corruption) → IsShort n s f ⊎ HasNoValue rule coding n s f → IsWithin (whole s) f
taken_within rule coding n s f (inl h) = subst (λ (x : Corruption). IsWithin (whole s) x) (sym h.is) tt
taken_within rule coding n s f (inr h) = here rule _ s f h.is

after_within : {A : Type 0} (part : A → Part) (next : A → Reading → Corruption → Type 0) (s : Reading) (f : Corruption) → ((a : A) (t : Reading) → next a t f → IsWithin (whole t) f) → FailsAfter part next s f → IsWithin (whole s) f
after_within part next s f each h = subst (λ (l : Bytes). IsWithin l f) (whole_kept h.is_next.field s h.behind h.is_next.passes) (each h.value h.behind h.fails)

where_within : (fails : Reading → Corruption → Type 0) (s : Reading) (f : Corruption) → (fails s f → IsWithin (whole s) f) → (b : Bool) → fails_where fails b s f → IsWithin (whole s) f
where_within fails s f on_failed true h = on_failed h
where_within fails s f on_failed false h = absurd h

items_within : {A : Type 0} (is : List A → A → Part) (fails : List A → Reading → Corruption → Type 0) (f : Corruption) → ((before : List A) (s : Reading) → fails before s f → IsWithin (whole s) f)
    → (n : ℕ) (before : List A) (s : Reading) → fail_items is fails n before s f → IsWithin (whole s) f
items_within is fails f each zero before s h = absurd h
items_within is fails f each (suc n) before s (inl h) = each before s h
items_within is fails f each (suc n) before s (inr h) = after_within (is before) (λ a. fail_items is fails n (before ++ a ∷ [])) s f (λ a t k. items_within is fails f each n (before ++ a ∷ []) t k) h

pub fails_within : {A : Type 0} (format : Format A) (s : Reading) (f : Corruption) → Fails format s f → IsWithin (s.done ++ s.left) f
fails_within (Empty a) s f h = absurd h
fails_within (Sized size rule coding) s f (inl h) = fails_within size s f h
fails_within (Sized size rule coding) s f (inr h) = after_within (Encodes size) (λ n s f. IsShort n s f ⊎ HasNoValue rule coding n s f) s f (λ n t k. taken_within rule coding n t f k) h
fails_within (Then first next) s f (inl h) = fails_within first s f h
fails_within (Then first next) s f (inr h) = after_within (Encodes first) (λ a. Fails (next a)) s f (λ a t k. fails_within (next a) t f k) h
fails_within (Decoded rule seen coding format) s f (inl h) = fails_within format s f h
fails_within (Decoded rule seen coding format) s f (inr h) = here rule _ s f h.is
fails_within (Optional choice format) s f (inl h) = fails_within choice s f h
fails_within (Optional choice format) s f (inr h) =
    after_within (Encodes choice) (fails_where (Fails format)) s f (λ b t k. where_within (Fails format) t f (λ l. fails_within format t f l) b k) h
fails_within (Counted count item) s f (inl h) = fails_within count s f h
fails_within (Counted count item) s f (inr h) =
    after_within (Encodes count) (λ n. fail_items (λ before. Encodes (item before)) (λ before. Fails (item before)) n []) s f
    (λ n t k. items_within (λ before. Encodes (item before)) (λ before. Fails (item before)) f (λ before u l. fails_within (item before) u f l) n [] t k) h

-- so does that of whole bytes
pub whole_within : {A : Type 0} (format : Format A) (bytes : Bytes) (f : Corruption) → FailsWhole format bytes f → IsWithin bytes f
whole_within format bytes f (inl h) = fails_within format (start bytes) f h
whole_within format bytes f (inr h) = subst (λ (x : Corruption). IsWithin bytes x) (sym h.is) tt
