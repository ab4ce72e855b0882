-- The value that the reader gives is next, and the corruption with which it fails is there.
use Rattle.std.proofs.Common.{◌≡◌, ◌≤◌, ℕ, zero, suc, Bool, true, false, List, [], ◌∷◌, ◌++◌, length, take, drop, Option, None, Some, refl, sym, ap, ◌∙◌, append_assoc, append-nil, ◌⊎◌, inl, inr, if◌then◌else◌, subst, rules}
use Rattle.std.specs.Prelude.{nat_lt}
use Rattle.std.proofs.lemmas.List.{length-take-le}
use Rattle.std.proofs.Common.{take-append-drop}
use Rattle.sasi_host.specs.Names.{Bytes}
use Rattle.sasi_host.specs.declared.damage.FormatRule.{FormatRule}
use Rattle.sasi_fields.specs.Reading.{Reading, ReadsField}
use Rattle.sasi_formats.specs.Formats.{Coding, Format, Empty, Sized, Then, Decoded, Optional, Counted, Part, Joined, IsSized, IsDecoded, is_optional, are_items, Encodes}
use Rattle.sasi_formats.specs.Reader.{Corruption, Short, Outcome, Got, Failed, ◌>>=◌, outcome_as, passed, tried, taken, read_items, read}
use Rattle.sasi_formats.specs.Failures.{IsNext, FailsAfter, IsShort, HasNoValue, IsRejected, fails_where, fail_items, Fails}

-- ---- what an outcome says

abbrev pub Says : {A : Type 0} → (A → Reading → Type 0) → (Corruption → Type 0) → Outcome A → Type 0
Says got failed (Got value behind) = got value behind
Says got failed (Failed corruption) = failed corruption

abbrev pub Explains : {A : Type 0} → (A → Part) → (Reading → Corruption → Type 0) → Reading → Outcome A → Type 0
Explains is fails s r = Says (λ v u. IsNext (is v) s u) (fails s) r

says_bind : {A B : Type 0} (got : A → Reading → Type 0) (failed : Corruption → Type 0) (got_then : B → Reading → Type 0) (lost_then : Corruption → Type 0) (next : A → Reading → Outcome B)
    → ((a : A) (t : Reading) → got a t → Says got_then lost_then (next a t)) → ((f : Corruption) → failed f → lost_then f)
    → (r : Outcome A) → Says got failed r → Says got_then lost_then (r >>= next)
says_bind got failed got_then lost_then next on_got on_lost (Got a t) h = on_got a t h
says_bind got failed got_then lost_then next on_got on_lost (Failed f) h = on_lost f h

says_map : {A : Type 0} (got : A → Reading → Type 0) (failed : Corruption → Type 0) (got_then : A → Reading → Type 0) (lost_then : Corruption → Type 0)
    → ((a : A) (t : Reading) → got a t → got_then a t) → ((x : Corruption) → failed x → lost_then x) → (r : Outcome A) → Says got failed r → Says got_then lost_then r
says_map got failed got_then lost_then on_got on_lost (Got a t) h = on_got a t h
says_map got failed got_then lost_then on_got on_lost (Failed x) h = on_lost x h

says_as : {A B : Type 0} (got : A → Reading → Type 0) (failed : Corruption → Type 0) (got_then : B → Reading → Type 0) (lost_then : Corruption → Type 0) (f : A → B)
    → ((a : A) (t : Reading) → got a t → got_then (f a) t) → ((x : Corruption) → failed x → lost_then x)
    → (r : Outcome A) → Says got failed r → Says got_then lost_then (outcome_as f r)
says_as got failed got_then lost_then f on_got on_lost (Got a t) h = on_got a t h
says_as got failed got_then lost_then f on_got on_lost (Failed x) h = on_lost x h

-- ---- parts that were passed

pub passes_none : (s : Reading) → ReadsField [] s s
passes_none s = record { next = refl; done = sym (append-nil s.done) }

pub passes_then : (p q : Bytes) (s t u : Reading) → ReadsField p s t → ReadsField q t u → ReadsField (p ++ q) s u
passes_then p q s t u first second = record {
  next = first.next ∙ ap (λ (l : Bytes). p ++ l) second.next ∙ sym (append_assoc p q u.left);
  done = second.done ∙ ap (λ (l : Bytes). l ++ q) first.done ∙ append_assoc s.done p q;
}

next_then : (first second : Part) (s t u : Reading) → IsNext first s t → IsNext second t u → IsNext (Joined first second) s u
next_then first second s t u a b = record {
  field = a.field ++ b.field;
  is = record { front = a.field; behind = b.field; whole = refl; starts = a.is; ends = b.is };
  passes = passes_then a.field b.field s t u a.passes b.passes;
}

-- ---- bytes taken

pub record TakenAs {A : Type 0} (coding : Coding Bytes A) (n : ℕ) (value : A) (s t : Reading) : Type 0 where
  pub sized : length (coding.encode value) ≡ n
  pub is_value : coding.decode (coding.encode value) ≡ Some value
  pub passes : ReadsField (coding.encode value) s t

tried_says : {A : Type 0} (rule : FormatRule) (coding : Coding Bytes A) (n : ℕ) (s : Reading) → n ≤ length s.left → (v : Option A) → coding.decode (take n s.left) ≡ v
    → Says (λ v t. TakenAs coding n v s t) (λ f. IsShort n s f ⊎ HasNoValue rule coding n s f) (tried v rule (length s.done) (take 8 (take n s.left)) (passed n s))
tried_says rule coding n s le None q = inr (record { field = take n s.left; rest = drop n s.left; next = sym (take-append-drop n s.left); sized = length-take-le n s.left le; none = q; is = refl })
tried_says rule coding n s le (Some v) q =
    let same : coding.encode v ≡ take n s.left = coding.canonical (take n s.left) v q in
    record {
      sized = ap length same ∙ length-take-le n s.left le;
      is_value = ap coding.decode same ∙ q;
      passes = record { next = sym (take-append-drop n s.left) ∙ ap (λ (l : Bytes). l ++ drop n s.left) (sym same); done = ap (λ (l : Bytes). s.done ++ l) (sym same) };
    }

taken_says : {A : Type 0} (rule : FormatRule) (coding : Coding Bytes A) (n : ℕ) (s : Reading)
    → Says (λ v t. TakenAs coding n v s t) (λ f. IsShort n s f ⊎ HasNoValue rule coding n s f) (taken rule coding n s)
taken_says {A = A} rule coding n s = by_test (nat_lt (length s.left) n) refl where
  by_test : (b : Bool) → nat_lt (length s.left) n ≡ b
      → Says (λ (v : A) t. TakenAs coding n v s t) (λ f. IsShort n s f ⊎ HasNoValue rule coding n s f)
      ((if b then Failed Short else Got (take n s.left) (passed n s)) >>= λ field t. tried (coding.decode field) rule (length s.done) (take 8 field) t)
  by_test true p = inl (record { short = search (rules, p); is = refl })
  by_test false p = tried_says rule coding n s (search (rules, p)) (coding.decode (take n s.left)) refl

-- a value that was read
tried_as : {A B : Type 0} (rule : FormatRule) (seen : ℕ) (coding : Coding A B) (part : A → Part) (s : Reading) (a : A) (t : Reading) → IsNext (part a) s t → (v : Option B) → coding.decode a ≡ v
    → (Before : Corruption → Type 0) → Says (λ v u. IsNext (IsDecoded part coding v) s u) (λ f. Before f ⊎ IsRejected rule seen coding part s f) (tried v rule (length s.done) (take seen s.left) t)
tried_as rule seen coding part s a t l None q Before = inr (record { value = a; behind = t; is_next = l; none = q; is = refl })
tried_as rule seen coding part s a t l (Some v) q Before =
    let same : coding.encode v ≡ a = coding.canonical a v q in
    record { field = l.field; is = record { is = subst (λ a. part a l.field) (sym same) l.is; is_value = ap coding.decode same ∙ q }; passes = l.passes }

-- ---- a value that may be there

optional_says : {A : Type 0} (choice : Bool → Part) (format : A → Part) (fails fails_format : Reading → Corruption → Type 0) (s t : Reading) (r : Outcome A)
    → Explains format fails_format t r → (b : Bool) → IsNext (choice b) s t
    → Explains (is_optional choice format) (λ s f. fails s f ⊎ FailsAfter choice (fails_where fails_format) s f) s (if b then outcome_as (λ a. Some a) r else Got None t)
optional_says choice format fails fails_format s t r on_format true l =
    says_as (λ a u. IsNext (format a) t u) (fails_format t) (λ v u. IsNext (is_optional choice format v) s u) (λ f. fails s f ⊎ FailsAfter choice (fails_where fails_format) s f) (λ a. Some a)
    (λ a u m. next_then (choice true) (format a) s t u l m) (λ x h. inr (record { value = true; behind = t; is_next = l; fails = h })) r on_format
optional_says choice format fails fails_format s t r on_format false l = l

-- ---- items

explain_items : {A : Type 0} (is : List A → A → Part) (fails : List A → Reading → Corruption → Type 0) (item : List A → Reading → Outcome A) → ((before : List A) (s : Reading) → Explains (is before) (fails before) s (item before s))
    → (n : ℕ) (before : List A) (s : Reading) → Says (λ vs u. (length vs ≡ n) × IsNext (are_items is before vs) s u) (fail_items is fails n before s) (read_items item n before s)
explain_items is fails item each zero before s = (refl, record { field = []; is = refl; passes = passes_none s })
explain_items {A = A} is fails item each (suc n) before s =
    says_bind (λ a t. IsNext (is before a) s t) (fails before s) (λ vs u. (length vs ≡ suc n) × IsNext (are_items is before vs) s u) (fail_items is fails (suc n) before s)
    (λ a t. outcome_as (λ others. a ∷ others) (read_items item n (before ++ a ∷ []) t))
    (λ a t l.
    says_as (λ vs u. (length vs ≡ n) × IsNext (are_items is (before ++ a ∷ []) vs) t u) (fail_items is fails n (before ++ a ∷ []) t) (λ vs u. (length vs ≡ suc n) × IsNext (are_items is before vs) s u) (fail_items is fails (suc n) before s)
    (λ others. a ∷ others)
    (λ vs u m. (ap (λ (k : ℕ). suc k) m.0, next_then (is before a) (are_items is (before ++ a ∷ []) vs) s t u l m.1))
    (λ x h. inr (record { value = a; behind = t; is_next = l; fails = h }))
    (read_items item n (before ++ a ∷ []) t) (explain_items is fails item each n (before ++ a ∷ []) t))
    (λ f h. inl h) (item before s) (each before s)

-- ---- formats

-- the outcome of the reader is true of the bytes
pub explained : {A : Type 0} (format : Format A) (s : Reading) → Explains (Encodes format) (Fails format) s (read format s)
explained (Empty a) s = record { field = []; is = (refl, refl); passes = passes_none s }
explained {A = A} (Sized size rule coding) s =
    says_bind (λ n t. IsNext (Encodes size n) s t) (Fails size s) (λ v u. IsNext (IsSized (Encodes size) coding v) s u) (Fails (Sized size rule coding) s) (λ n t. taken rule coding n t)
    (λ n t l.
    says_map (λ v u. TakenAs coding n v t u) (λ f. IsShort n t f ⊎ HasNoValue rule coding n t f) (λ v u. IsNext (IsSized (Encodes size) coding v) s u) (Fails (Sized size rule coding) s)
    (λ v u m. record {
      field = l.field ++ coding.encode v;
      is = record { front = l.field; whole = refl; starts = subst (λ (k : ℕ). Encodes size k l.field) (sym m.sized) l.is; is_value = m.is_value };
      passes = passes_then l.field (coding.encode v) s t u l.passes m.passes;
    })
    (λ x h. inr (record { value = n; behind = t; is_next = l; fails = h }))
    (taken rule coding n t) (taken_says rule coding n t))
    (λ f h. inl h) (read size s) (explained size s)
explained (Then first next) s =
    says_bind (λ a t. IsNext (Encodes first a) s t) (Fails first s) (λ v u. IsNext (Encodes (Then first next) v) s u) (Fails (Then first next) s) (λ a t. outcome_as (λ b. (a, b)) (read (next a) t))
    (λ a t l.
    says_as (λ b u. IsNext (Encodes (next a) b) t u) (Fails (next a) t) (λ v u. IsNext (Encodes (Then first next) v) s u) (Fails (Then first next) s) (λ b. (a, b))
    (λ b u m. next_then (Encodes first a) (Encodes (next a) b) s t u l m)
    (λ x h. inr (record { value = a; behind = t; is_next = l; fails = h }))
    (read (next a) t) (explained (next a) t))
    (λ f h. inl h) (read first s) (explained first s)
explained (Decoded rule seen coding format) s =
    says_bind (λ a t. IsNext (Encodes format a) s t) (Fails format s) (λ v u. IsNext (IsDecoded (Encodes format) coding v) s u) (Fails (Decoded rule seen coding format) s) (λ a t. tried (coding.decode a) rule (length s.done) (take seen s.left) t)
    (λ a t l. tried_as rule seen coding (Encodes format) s a t l (coding.decode a) refl (Fails format s))
    (λ f h. inl h) (read format s) (explained format s)
explained (Optional choice format) s =
    says_bind (λ b t. IsNext (Encodes choice b) s t) (Fails choice s) (λ v u. IsNext (Encodes (Optional choice format) v) s u) (Fails (Optional choice format) s)
    (λ b t. if b then outcome_as (λ a. Some a) (read format t) else Got None t)
    (λ b t l. optional_says (Encodes choice) (Encodes format) (Fails choice) (Fails format) s t (read format t) (explained format t) b l)
    (λ f h. inl h) (read choice s) (explained choice s)
explained (Counted count item) s =
    says_bind (λ n t. IsNext (Encodes count n) s t) (Fails count s) (λ vs u. IsNext (Encodes (Counted count item) vs) s u) (Fails (Counted count item) s) (λ n t. read_items (λ before. read (item before)) n [] t)
    (λ n t l.
    says_map (λ vs u. (length vs ≡ n) × IsNext (are_items (λ before. Encodes (item before)) [] vs) t u) (fail_items (λ before. Encodes (item before)) (λ before. Fails (item before)) n [] t)
    (λ vs u. IsNext (Encodes (Counted count item) vs) s u) (Fails (Counted count item) s)
    (λ vs u m. next_then (Encodes count (length vs)) (are_items (λ before. Encodes (item before)) [] vs) s t u (subst (λ (k : ℕ). IsNext (Encodes count k) s t) (sym m.0) l) m.1)
    (λ x h. inr (record { value = n; behind = t; is_next = l; fails = h }))
    (read_items (λ before. read (item before)) n [] t) (explain_items (λ before. Encodes (item before)) (λ before. Fails (item before)) (λ before. read (item before)) (λ before t. explained (item before) t) n [] t))
    (λ f h. inl h) (read count s) (explained count s)
