-- A list, item by item.
use Rattle.std.proofs.Common.{◌≡◌, ◌≤◌, ◌<◌, ℕ, zero, suc, Bool, false, ◌||◌, List, [], ◌∷◌, ◌++◌, length, Option, None, Some, refl, ap, ◌∙◌, append_assoc, arith, subst}
use Rattle.sasi_model.specs.Tokens.{Token}
use Rattle.sasi_model.specs.Forms.{Form, Many}
use Rattle.sasi_model.specs.FormReader.{Reading, Got, Stuck, ◌>>=◌, read_as, after, choose, read_items, read}
use Rattle.sasi_cql.specs.declared.halt.Halt.{Halt}
use Rattle.sasi_cql.specs.declared.halt.Halt.TheVariants as halt
use Rattle.sasi_cql.specs.Finds.{Halts}
use Rattle.sasi_cql.proofs.Explained.{after_is}
use Rattle.sasi_cql.proofs.Passing.{Leaves, reads_fewer}

-- the first item, and the others behind the token between them
abbrev pub first_of : {A : Type 0} → Token → (A → List Token → Reading (List A)) → Reading A → Reading (List A)
first_of between others first = first >>= λ a left. choose (after between left) (λ next. read_as (λ others. a ∷ others) (others a next)) (Got (a ∷ []) left)

same_first : {A : Type 0} (between : Token) (one other : A → List Token → Reading (List A)) (tokens : List Token) (r : Reading A) → Leaves r tokens
    → ((a : A) (next : List Token) → length next < length tokens → one a next ≡ other a next) → first_of between one r ≡ first_of between other r
same_first between one other tokens (Stuck n) h same = refl
same_first between one other tokens (Got a left) h same = by_next (after between left) refl where
  by_next : (next : Option (List Token)) → after between left ≡ next
      → choose next (λ next. read_as (λ others. a ∷ others) (one a next)) (Got (a ∷ []) left) ≡ choose next (λ next. read_as (λ others. a ∷ others) (other a next)) (Got (a ∷ []) left)
  by_next None p = refl
  by_next (Some next) p =
      let size = ap length (after_is between left next p) in
      let less : length next < length tokens = omega arith in
      ap (λ (r : Reading (List _)). read_as (λ others. a ∷ others) r) (same a next less)

-- a bound above the number of tokens makes no difference
enough : {A : Type 0} (between : Token) (marks : A → Bool) (read : Bool → List Token → Reading A) → ((m : Bool) (ts : List Token) → Leaves (read m ts) ts)
    → (m n : ℕ) (marked : Bool) (tokens : List Token) → length tokens < m → length tokens < n → read_items between marks read m marked tokens ≡ read_items between marks read n marked tokens
unfolding read_items
enough between marks read shorter zero n marked tokens p q = absurd (omega arith)
enough between marks read shorter (suc m) zero marked tokens p q = absurd (omega arith)
enough between marks read shorter (suc m) (suc n) marked tokens p q =
    same_first between (λ a. read_items between marks read m (marked || marks a)) (λ a. read_items between marks read n (marked || marks a)) tokens (read marked tokens) (shorter marked tokens)
    (λ a next less. enough between marks read shorter m n (marked || marks a) next (omega arith) (omega arith))

pub many_step : {A : Type 0} (between : Token) (marks : A → Bool) (item : Bool → Form A) (marked : Bool) (tokens : List Token)
    → read (Many between marks item marked) tokens ≡ first_of between (λ a. read (Many between marks item (marked || marks a))) (read (item marked) tokens)
unfolding read_items
many_step between marks item marked tokens =
    same_first between (λ a. read_items between marks (λ m. read (item m)) (length tokens) (marked || marks a)) (λ a. read (Many between marks item (marked || marks a))) tokens (read (item marked) tokens) (reads_fewer (item marked) tokens)
    (λ a next less. enough between marks (λ m. read (item m)) (λ m ts. reads_fewer (item m) ts) (length tokens) (suc (length next)) (marked || marks a) next less (omega arith))

-- ---- a list in a loop

-- with these items in front
abbrev pub all_before : {A : Type 0} → List A → Reading (List A) → Reading (List A)
all_before items (Got others behind) = Got (items ++ others) behind
all_before items (Stuck size) = Stuck size

nothing_before : {A : Type 0} (r : Reading (List A)) → r ≡ all_before [] r
nothing_before (Got others behind) = refl
nothing_before (Stuck size) = refl

one_before : {A : Type 0} (items : List A) (a : A) (r : Reading (List A)) → all_before items (read_as (λ others. a ∷ others) r) ≡ all_before (items ++ a ∷ []) r
one_before items a (Got others behind) = ap (λ (l : List _). Got l behind) (simp append_assoc)
one_before items a (Stuck size) = refl

-- a list whose items are those so far and those of what is left
abbrev pub SoFar : {A : Type 0} → Token → (A → Bool) → (Bool → Form A) → List Token → List A → Bool → List Token → Type 0
SoFar between marks form tokens items marked left = read (Many between marks form false) tokens ≡ all_before items (read (Many between marks form marked) left)

pub list_begun : {A : Type 0} (between : Token) (marks : A → Bool) (form : Bool → Form A) (tokens : List Token) → SoFar between marks form tokens [] false tokens
list_begun between marks form tokens = nothing_before (read (Many between marks form false) tokens)

pub list_more : {A : Type 0} (between : Token) (marks : A → Bool) (form : Bool → Form A) (tokens : List Token) (items more : List A) (marked after_it : Bool) (left : List Token) (a : A) (behind next : List Token)
    → read (form marked) left ≡ Got a behind → after between behind ≡ Some next → more ≡ items ++ a ∷ [] → after_it ≡ (marked || marks a) → SoFar between marks form tokens items marked left → SoFar between marks form tokens more after_it next
list_more between marks form tokens items more marked after_it left a behind next is front pushed flag so_far =
    so_far ∙ rw (many_step between marks form marked left, is, front, pushed, flag) (one_before items a (read (Many between marks form (marked || marks a)) next))

pub list_last : {A : Type 0} (between : Token) (marks : A → Bool) (form : Bool → Form A) (tokens : List Token) (items more : List A) (marked : Bool) (left : List Token) (a : A) (behind : List Token)
    → read (form marked) left ≡ Got a behind → after between behind ≡ None → more ≡ items ++ a ∷ [] → SoFar between marks form tokens items marked left → read (Many between marks form false) tokens ≡ Got more behind
list_last between marks form tokens items more marked left a behind is none pushed so_far =
    so_far ∙ rw (many_step between marks form marked left, is, none, pushed) refl

pub list_halts : {A : Type 0} (between : Token) (marks : A → Bool) (form : Bool → Form A) (tokens : List Token) (items : List A) (marked : Bool) (left : List Token) (why : Halt) → Halts (read (form marked) left) why → SoFar between marks form tokens items marked left
    → Halts (read (Many between marks form false) tokens) why
list_halts between marks form tokens items marked left (halt.Stuck size) is so_far = so_far ∙ rw (many_step between marks form marked left, is) refl
list_halts between marks form tokens items marked left halt.OutOfMemory is so_far = tt

-- what is behind an item and the token is shorter
pub list_shorter : {A : Type 0} (between : Token) (form : Form A) (left : List Token) (a : A) (behind next : List Token) → read form left ≡ Got a behind → after between behind ≡ Some next → length next < length left
list_shorter between form left a behind next is front =
    let P : Reading _ → Type 0 = λ r. Leaves r left in
    let fewer : length behind ≤ length left = subst P is (reads_fewer form left) in
    let size = ap length (after_is between behind next front) in
    omega arith
