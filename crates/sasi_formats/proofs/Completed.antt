-- The reader gives each value whose bytes are next, and the corruption where they break the format.
use Rattle.std.proofs.Common.{◌≡◌, ◌≤◌, ◌<◌, ℕ, zero, suc, Bool, true, false, List, [], ◌∷◌, ◌++◌, length, take, drop, refl, sym, ap, ◌∙◌, append_assoc, append-nil, ◌⊎◌, inl, inr, if◌then◌else◌, arith, rules, length-append}
use Rattle.std.specs.Prelude.{nat_lt, Option, None, Some}
use Rattle.std.proofs.lemmas.List.{take_at, drop_at}
use Rattle.sasi_host.specs.Names.{Bytes}
use Rattle.sasi_host.specs.declared.damage.FormatRule.{FormatRule}
use Rattle.sasi_fields.specs.Reading.{Reading, ReadsField}
use Rattle.sasi_formats.specs.Formats.{Coding, Format, Empty, Sized, Then, Decoded, Optional, Counted, Part, are_items, Encodes}
use Rattle.sasi_formats.specs.Reader.{Corruption, Short, Outcome, Got, Failed, ◌>>=◌, outcome_as, passed, tried, took, taken, read_items, read}
use Rattle.sasi_formats.specs.Failures.{IsShort, HasNoValue, fails_where, fail_items, Fails}

pub same_reading : (s t : Reading) → s.done ≡ t.done → s.left ≡ t.left → s ≡ t
same_reading s t done left =
    let at : Bytes → Bytes → Reading = λ d l. record { done = d; left = l } in
    ap (λ (d : Bytes). at d s.left) done ∙ ap (λ (l : Bytes). at t.done l) left

-- the reader between two parts
abbrev pub midway : Bytes → Bytes → Reading → Reading → Reading
midway p q s t = record { done = s.done ++ p; left = q ++ t.left }

pub passes_first : (p q bytes : Bytes) (s t : Reading) → bytes ≡ p ++ q → ReadsField bytes s t → ReadsField p s (midway p q s t)
passes_first p q bytes s t whole passes = record { next = passes.next ∙ ap (λ (l : Bytes). l ++ t.left) whole ∙ append_assoc p q t.left; done = refl }

pub passes_second : (p q bytes : Bytes) (s t : Reading) → bytes ≡ p ++ q → ReadsField bytes s t → ReadsField q (midway p q s t) t
passes_second p q bytes s t whole passes = record { next = refl; done = passes.done ∙ ap (λ (l : Bytes). s.done ++ l) whole ∙ sym (append_assoc s.done p q) }

-- ---- bytes taken

long_enough : (field : Bytes) (n : ℕ) (s t : Reading) → ReadsField field s t → length field ≡ n → nat_lt (length s.left) n ≡ false
long_enough field n s t passes sized =
    let size = ap length passes.next in
    let both = length-append field t.left in
    let le : n ≤ length s.left = omega (arith, size, both, sized) in
    search rules

pub took_is : (n : ℕ) (field : Bytes) (s t : Reading) → ReadsField field s t → length field ≡ n → took n s ≡ Got field t
took_is n field s t passes sized =
    let front : take n s.left ≡ field = ap (λ (l : Bytes). take n l) passes.next ∙ take_at field t.left n sized in
    let behind : passed n s ≡ t = same_reading (passed n s) t (ap (λ (l : Bytes). s.done ++ l) front ∙ sym passes.done) (ap (λ (l : Bytes). drop n l) passes.next ∙ drop_at field t.left n sized) in
    let test : Bool → Outcome Bytes = λ b. if b then Failed Short else Got (take n s.left) (passed n s) in
    ap test (long_enough field n s t passes sized) ∙ ap (λ (l : Bytes). Got l (passed n s)) front ∙ ap (λ (u : Reading). Got field u) behind

pub took_short : (n : ℕ) (s : Reading) → length s.left < n → took n s ≡ Failed Short
took_short n s short =
    let b : nat_lt (length s.left) n ≡ true = search rules in
    let test : Bool → Outcome Bytes = λ b. if b then Failed Short else Got (take n s.left) (passed n s) in
    ap test b

pub taken_is : {A : Type 0} (rule : FormatRule) (coding : Coding Bytes A) (n : ℕ) (field : Bytes) (s t : Reading) → ReadsField field s t → length field ≡ n
    → taken rule coding n s ≡ tried (coding.decode field) rule (length s.done) (take 8 field) t
taken_is rule coding n field s t passes sized = ap (λ (r : Outcome Bytes). r >>= λ field behind. tried (coding.decode field) rule (length s.done) (take 8 field) behind) (took_is n field s t passes sized)

pub taken_short : {A : Type 0} (rule : FormatRule) (coding : Coding Bytes A) (n : ℕ) (s : Reading) → length s.left < n → taken rule coding n s ≡ Failed Short
taken_short rule coding n s short = ap (λ (r : Outcome Bytes). r >>= λ field behind. tried (coding.decode field) rule (length s.done) (take 8 field) behind) (took_short n s short)

-- ---- values are read

complete_items : {A : Type 0} (is : List A → A → Part) (item : List A → Reading → Outcome A)
    → ((before : List A) (a : A) (field : Bytes) (s t : Reading) → is before a field → ReadsField field s t → item before s ≡ Got a t)
    → (values before : List A) (field : Bytes) (s t : Reading) → are_items is before values field → ReadsField field s t → read_items item (length values) before s ≡ Got values t
complete_items is item each [] before field s t h passes =
    ap (λ (u : Reading). Got [] u) (same_reading s t (sym (passes.done ∙ ap (λ (l : Bytes). s.done ++ l) h ∙ append-nil s.done)) (passes.next ∙ ap (λ (l : Bytes). l ++ t.left) h))
complete_items is item each (a ∷ others) before field s t h passes =
    let mid = midway h.front h.behind s t in
    ap (λ (r : Outcome _). r >>= λ a s. outcome_as (λ others. a ∷ others) (read_items item (length others) (before ++ a ∷ []) s)) (each before a h.front s mid h.starts (passes_first h.front h.behind field s t h.whole passes))
    ∙ ap (outcome_as (λ others. a ∷ others)) (complete_items is item each others (before ++ a ∷ []) h.behind mid t h.ends (passes_second h.front h.behind field s t h.whole passes))

-- a value whose bytes are next is read, whatever follows it
pub complete : {A : Type 0} (format : Format A) (value : A) (field : Bytes) (s t : Reading) → Encodes format value field → ReadsField field s t → read format s ≡ Got value t
complete (Empty a) value field s t h passes =
    ap (λ (u : Reading). Got a u) (same_reading s t (sym (passes.done ∙ ap (λ (l : Bytes). s.done ++ l) h.0 ∙ append-nil s.done)) (passes.next ∙ ap (λ (l : Bytes). l ++ t.left) h.0))
    ∙ ap (λ v. Got v t) (sym h.1)
complete (Sized size rule coding) value field s t h passes =
    let bytes = coding.encode value in
    let mid = midway h.front bytes s t in
    ap (λ (r : Outcome ℕ). r >>= λ n s. taken rule coding n s) (complete size (length bytes) h.front s mid h.starts (passes_first h.front bytes field s t h.whole passes))
    ∙ taken_is rule coding (length bytes) bytes mid t (passes_second h.front bytes field s t h.whole passes) refl
    ∙ ap (λ v. tried v rule (length mid.done) (take 8 bytes) t) h.is_value
complete (Then first next) value field s t h passes =
    let mid = midway h.front h.behind s t in
    ap (λ (r : Outcome _). r >>= λ a s. outcome_as (λ b. (a, b)) (read (next a) s)) (complete first value.0 h.front s mid h.starts (passes_first h.front h.behind field s t h.whole passes))
    ∙ ap (outcome_as (λ b. (value.0, b))) (complete (next value.0) value.1 h.behind mid t h.ends (passes_second h.front h.behind field s t h.whole passes))
complete (Decoded rule seen coding format) value field s t h passes =
    ap (λ (r : Outcome _). r >>= λ a behind. tried (coding.decode a) rule (length s.done) (take seen s.left) behind) (complete format (coding.encode value) field s t h.is passes)
    ∙ ap (λ v. tried v rule (length s.done) (take seen s.left) t) h.is_value
complete (Optional choice format) None field s t h passes =
    ap (λ (r : Outcome Bool). r >>= λ b s. if b then outcome_as (λ a. Some a) (read format s) else Got None s) (complete choice false field s t h passes)
complete (Optional choice format) (Some a) field s t h passes =
    let mid = midway h.front h.behind s t in
    ap (λ (r : Outcome Bool). r >>= λ b s. if b then outcome_as (λ a. Some a) (read format s) else Got None s) (complete choice true h.front s mid h.starts (passes_first h.front h.behind field s t h.whole passes))
    ∙ ap (outcome_as (λ a. Some a)) (complete format a h.behind mid t h.ends (passes_second h.front h.behind field s t h.whole passes))
complete (Counted count item) values field s t h passes =
    let mid = midway h.front h.behind s t in
    ap (λ (r : Outcome ℕ). r >>= λ n s. read_items (λ before. read (item before)) n [] s) (complete count (length values) h.front s mid h.starts (passes_first h.front h.behind field s t h.whole passes))
    ∙ complete_items (λ before. Encodes (item before)) (λ before. read (item before)) (λ before a field s t. complete (item before) a field s t) values [] h.behind mid t h.ends (passes_second h.front h.behind field s t h.whole passes)

-- ---- corruption is found

fail_all_items : {A : Type 0} (is : List A → A → Part) (fails : List A → Reading → Corruption → Type 0) (item : List A → Reading → Outcome A)
    → ((before : List A) (a : A) (field : Bytes) (s t : Reading) → is before a field → ReadsField field s t → item before s ≡ Got a t)
    → ((before : List A) (s : Reading) (f : Corruption) → fails before s f → item before s ≡ Failed f)
    → (n : ℕ) (before : List A) (s : Reading) (f : Corruption) → fail_items is fails n before s f → read_items item n before s ≡ Failed f
fail_all_items is fails item each failed zero before s f h = absurd h
fail_all_items is fails item each failed (suc n) before s f (inl h) =
    ap (λ (r : Outcome _). r >>= λ a s. outcome_as (λ others. a ∷ others) (read_items item n (before ++ a ∷ []) s)) (failed before s f h)
fail_all_items is fails item each failed (suc n) before s f (inr h) =
    ap (λ (r : Outcome _). r >>= λ a s. outcome_as (λ others. a ∷ others) (read_items item n (before ++ a ∷ []) s)) (each before h.value h.is_next.field s h.behind h.is_next.is h.is_next.passes)
    ∙ ap (outcome_as (λ others. h.value ∷ others)) (fail_all_items is fails item each failed n (before ++ h.value ∷ []) h.behind f h.fails)

failed_taken : {A : Type 0} (rule : FormatRule) (coding : Coding Bytes A) (n : ℕ) (s : Reading) (f : Corruption) → IsShort n s f ⊎ HasNoValue rule coding n s f → taken rule coding n s ≡ Failed f
failed_taken rule coding n s f (inl h) = taken_short rule coding n s h.short ∙ ap (λ (x : Corruption). Failed x) (sym h.is)
failed_taken rule coding n s f (inr h) =
    let t : Reading = record { done = s.done ++ h.field; left = h.rest } in
    taken_is rule coding n h.field s t (record { next = h.next; done = refl }) h.sized
    ∙ ap (λ v. tried v rule (length s.done) (take 8 h.field) t) h.none
    ∙ ap (λ (x : Corruption). Failed x) (sym h.is)

failed_where : {A : Type 0} (r : Outcome A) (fails : Reading → Corruption → Type 0) (t : Reading) (f : Corruption) → (fails t f → r ≡ Failed f)
    → (b : Bool) → fails_where fails b t f → (if b then outcome_as {B = Option A} (λ a. Some a) r else Got None t) ≡ Failed f
failed_where r fails t f on_failed true h = ap (outcome_as (λ a. Some a)) (on_failed h)
failed_where r fails t f on_failed false h = absurd h

pub failed : {A : Type 0} (format : Format A) (s : Reading) (f : Corruption) → Fails format s f → read format s ≡ Failed f
failed (Empty a) s f h = absurd h
failed (Sized size rule coding) s f (inl h) = ap (λ (r : Outcome ℕ). r >>= λ n s. taken rule coding n s) (failed size s f h)
failed (Sized size rule coding) s f (inr h) =
    ap (λ (r : Outcome ℕ). r >>= λ n s. taken rule coding n s) (complete size h.value h.is_next.field s h.behind h.is_next.is h.is_next.passes) ∙ failed_taken rule coding h.value h.behind f h.fails
failed (Then first next) s f (inl h) = ap (λ (r : Outcome _). r >>= λ a s. outcome_as (λ b. (a, b)) (read (next a) s)) (failed first s f h)
failed (Then first next) s f (inr h) =
    ap (λ (r : Outcome _). r >>= λ a s. outcome_as (λ b. (a, b)) (read (next a) s)) (complete first h.value h.is_next.field s h.behind h.is_next.is h.is_next.passes)
    ∙ ap (outcome_as (λ b. (h.value, b))) (failed (next h.value) h.behind f h.fails)
failed (Decoded rule seen coding format) s f (inl h) = ap (λ (r : Outcome _). r >>= λ a behind. tried (coding.decode a) rule (length s.done) (take seen s.left) behind) (failed format s f h)
failed (Decoded rule seen coding format) s f (inr h) =
    ap (λ (r : Outcome _). r >>= λ a behind. tried (coding.decode a) rule (length s.done) (take seen s.left) behind) (complete format h.value h.is_next.field s h.behind h.is_next.is h.is_next.passes)
    ∙ ap (λ v. tried v rule (length s.done) (take seen s.left) h.behind) h.none
    ∙ ap (λ (x : Corruption). Failed x) (sym h.is)
failed (Optional choice format) s f (inl h) = ap (λ (r : Outcome Bool). r >>= λ b s. if b then outcome_as (λ a. Some a) (read format s) else Got None s) (failed choice s f h)
failed (Optional choice format) s f (inr h) =
    ap (λ (r : Outcome Bool). r >>= λ b s. if b then outcome_as (λ a. Some a) (read format s) else Got None s) (complete choice h.value h.is_next.field s h.behind h.is_next.is h.is_next.passes)
    ∙ failed_where (read format h.behind) (Fails format) h.behind f (λ p. failed format h.behind f p) h.value h.fails
failed (Counted count item) s f (inl h) = ap (λ (r : Outcome ℕ). r >>= λ n s. read_items (λ before. read (item before)) n [] s) (failed count s f h)
failed (Counted count item) s f (inr h) =
    ap (λ (r : Outcome ℕ). r >>= λ n s. read_items (λ before. read (item before)) n [] s) (complete count h.value h.is_next.field s h.behind h.is_next.is h.is_next.passes)
    ∙ fail_all_items (λ before. Encodes (item before)) (λ before. Fails (item before)) (λ before. read (item before)) (λ before a field s t. complete (item before) a field s t) (λ before s f. failed (item before) s f) h.value [] h.behind f h.fails
