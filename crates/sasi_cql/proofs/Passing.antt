-- A beginning of a text is passed, whatever is behind it.
use Rattle.std.proofs.Common.{◌≡◌, ◌≤◌, ◌<◌, ℕ, zero, suc, Bool, true, false, ◌||◌, List, [], ◌∷◌, ◌++◌, length, Option, None, Some, refl, ap, ◌∙◌, append_assoc, append-nil, inl, inr, length-append, arith}
use Rattle.sasi_model.specs.Tokens.{Token, same_token}
use Rattle.sasi_model.specs.Forms.{Form, Never, Nothing, One, Then, As, Where, Choose, Many, Phrase, Spells, begin_items, Begins}
use Rattle.sasi_model.specs.FormReader.{Reading, Got, Stuck, ◌>>=◌, read_as, tested, after, choose, read_items, read, starts, goes_on, decides}
use Rattle.sasi_cql.proofs.Explained.{Explains, after_is, begins_whole, explained}
use Rattle.sasi_cql.proofs.Deciding.{stops, apart, after_none, between_is_itself, item_decides, stops_between, stops_item, first_decides, second_decides, second_apart, token_is_itself, chosen_decides, other_decides, other_apart, begins_starts}
use Rattle.sasi_cql.proofs.Completed.{complete}

-- how many tokens there are behind what was read, or from the fault on
abbrev pub left_of : {A : Type 0} → Reading A → ℕ
left_of (Got value behind) = length behind
left_of (Stuck left) = left

-- no more is left than this
abbrev pub Leaves : {A : Type 0} → Reading A → List Token → Type 0
Leaves r more = left_of r ≤ length more

fewer : (tokens front behind : List Token) → tokens ≡ front ++ behind → length behind ≤ length tokens
fewer tokens front behind whole = let size = ap length whole ∙ length-append front behind in omega arith

explains_fewer : {A : Type 0} (spells : A → Phrase) (begins : Phrase) (tokens : List Token) (r : Reading A) → Explains spells begins tokens r → Leaves r tokens
explains_fewer spells begins tokens (Got value behind) e = fewer tokens e.front behind e.whole
explains_fewer spells begins tokens (Stuck size) e = let is = fewer tokens e.2.front e.0 e.2.whole in let same = e.1 in omega arith

pub reads_fewer : {A : Type 0} (form : Form A) (tokens : List Token) → Leaves (read form tokens) tokens
reads_fewer form tokens = explains_fewer (Spells form) (Begins form) tokens (read form tokens) (explained form tokens)

leaves_as : {A B : Type 0} (f : A → B) (r : Reading A) (more : List Token) → Leaves r more → Leaves (read_as f r) more
leaves_as f (Got value behind) more h = h
leaves_as f (Stuck left) more h = h

leaves_where : {A : Type 0} (test : A → Bool) (r : Reading A) (more : List Token) → Leaves r more → Leaves (r >>= λ a left. tested (test a) a left) more
leaves_where test (Stuck left) more h = h
leaves_where test (Got value behind) more h = by_test (test value) where
  by_test : (b : Bool) → Leaves (tested b value behind) more
  by_test true = h
  by_test false = h

leaves_then : {A B : Type 0} (second : Form B) (r : Reading A) (more : List Token) → Leaves r more → Leaves {A = A × B} (r >>= λ a left. read_as (λ b. (a, b)) (read second left)) more
leaves_then second (Stuck left) more h = h
leaves_then {A = A} {B = B} second (Got a left) more h =
    let pair : B → A × B = λ b. (a, b) in
    let rest = leaves_as pair (read second left) left (reads_fewer second left) in
    omega arith

-- ---- items

module _ {A : Type 0} (between : Token) (marks : A → Bool) (read : Bool → List Token → Reading A) (shorter : (m : Bool) (ts : List Token) → Leaves (read m ts) ts) where
  after_fewer : (tokens : List Token) (next : Option (List Token)) → after between tokens ≡ next → (f : List Token → Reading (List A)) (r : Reading (List A)) → ((ts : List Token) → Leaves (f ts) ts) → Leaves r tokens → Leaves (choose next f r) tokens
  after_fewer tokens None p f r fs h = h
  after_fewer tokens (Some next) p f r fs h =
      let size = ap length (after_is between tokens next p) in
      let rest = fs next in
      omega arith

  item_fewer : (n : ℕ) (marked : Bool) (r : Reading A) (tokens : List Token) → Leaves r tokens → ((m : Bool) (ts : List Token) → Leaves (read_items between marks read n m ts) ts)
      → Leaves (r >>= λ a left. choose (after between left) (λ behind. read_as (λ others. a ∷ others) (read_items between marks read n (marked || marks a) behind)) (Got (a ∷ []) left)) tokens
  item_fewer n marked (Stuck left) tokens h others = h
  item_fewer n marked (Got a left) tokens h others =
      let rest = after_fewer left (after between left) refl (λ behind. read_as (λ others. a ∷ others) (read_items between marks read n (marked || marks a) behind)) (Got (a ∷ []) left)
      (λ ts. leaves_as (λ others. a ∷ others) (read_items between marks read n (marked || marks a) ts) ts (others (marked || marks a) ts)) (omega arith) in
      omega arith

  items_fewer : (n : ℕ) (marked : Bool) (tokens : List Token) → Leaves (read_items between marks read n marked tokens) tokens
  unfolding read_items
  items_fewer zero marked tokens = omega arith
  items_fewer (suc n) marked tokens = item_fewer n marked (read marked tokens) tokens (shorter marked tokens) (items_fewer n)

  passes_items : (item : Bool → A → Phrase) (begins : Bool → Phrase) (ks : List Token) → same_token between between ≡ true → ((ts : List Token) → stops ks (between ∷ ts) ≡ true)
      → ((m : Bool) (a : A) (ts behind : List Token) → item m a ts → stops ks behind ≡ true → read m (ts ++ behind) ≡ Got a behind)
      → ((m : Bool) (ts more : List Token) → begins m ts → Leaves (read m (ts ++ more)) more)
      → (count n : ℕ) (marked : Bool) (tokens more : List Token) → length (tokens ++ more) < n → begin_items between marks item begins count marked tokens
      → Leaves (read_items between marks read n marked (tokens ++ more)) more
  unfolding read_items
  passes_items item begins ks itself ends complete passes count zero marked tokens more few b = absurd (omega arith)
  passes_items item begins ks itself ends complete passes zero (suc n) marked tokens more few b =
      item_fewer n marked (read marked (tokens ++ more)) more (passes marked tokens more b) (items_fewer n)
  passes_items item begins ks itself ends complete passes (suc count) (suc n) marked tokens more few b =
      let whole : tokens ++ more ≡ b.front ++ between ∷ (b.ends.behind ++ more) = rw (b.whole, b.ends.whole) (simp append_assoc) in
      let size = ap length whole ∙ length-append b.front (between ∷ (b.ends.behind ++ more)) in
      let less : length (b.ends.behind ++ more) < n = omega arith in
      rw (whole, complete marked b.value b.front (between ∷ (b.ends.behind ++ more)) b.starts (ends (b.ends.behind ++ more)), itself)
      (leaves_as (λ others. b.value ∷ others) (read_items between marks read n (marked || marks b.value) (b.ends.behind ++ more)) more
      (passes_items item begins ks itself ends complete passes count n (marked || marks b.value) b.ends.behind more less b.ends.spelled))

-- ---- forms

passes_second : {A B : Type 0} (first : Form A) (second : Form B) → decides (Then first second) ≡ true → (more : List Token) → ((ts : List Token) → Begins first ts → Leaves (read first (ts ++ more)) more)
    → (tokens : List Token) (a : A) (front part : List Token) → tokens ≡ front ++ part → Spells first a front → Begins second part → Leaves (read second (part ++ more)) more
    → Leaves (read (Then first second) (tokens ++ more)) more
passes_second first second d more passed tokens a front [] whole s b rest =
    let is : tokens ≡ front = whole ∙ simp append-nil in
    rw is (leaves_then second (read first (front ++ more)) more (passed front (begins_whole first a front s)))
passes_second {A = A} {B = B} first second d more passed tokens a front (t ∷ part) whole s b rest =
    let all : tokens ++ more ≡ front ++ ((t ∷ part) ++ more) = rw whole (simp append_assoc) in
    let ends = apart (starts second) (goes_on first) t (begins_starts second t (t ∷ part) part (second_decides first second d) refl b) (second_apart first second d) in
    let pair : B → A × B = λ b. (a, b) in
    rw (all, complete first a front ((t ∷ part) ++ more) (first_decides first second d) s ends) (leaves_as pair (read second ((t ∷ part) ++ more)) more rest)

-- a beginning is passed
pub passes : {A : Type 0} (form : Form A) (tokens more : List Token) → decides form ≡ true → Begins form tokens → Leaves (read form (tokens ++ more)) more
passes Never tokens more d b = rw b (omega arith)
passes (Nothing a) tokens more d b = rw b (omega arith)
passes (One value_of) tokens more d (inl b) = rw b (reads_fewer (One value_of) more)
passes (One value_of) tokens more d (inr (value, s)) = rw (s.alone, s.stands) (omega arith)
passes (Then first second) tokens more d (inl b) = leaves_then second (read first (tokens ++ more)) more (passes first tokens more (first_decides first second d) b)
passes (Then first second) tokens more d (inr b) =
    passes_second first second d more (λ ts p. passes first ts more (first_decides first second d) p) tokens b.value b.front b.behind b.whole b.starts b.ends (passes second b.behind more (second_decides first second d) b.ends)
passes (As f form) tokens more d b = leaves_as f (read form (tokens ++ more)) more (passes form tokens more d b)
passes (Where test form) tokens more d b = leaves_where test (read form (tokens ++ more)) more (passes form tokens more d b)
passes (Choose token first second) tokens more d (inl b) =
    rw (b.whole, token_is_itself token first second d) (passes first b.behind more (chosen_decides token first second d) b.spelled)
passes (Choose token first second) [] more d (inr b) = reads_fewer (Choose token first second) more
passes (Choose token first second) (t ∷ tokens) more d (inr b) =
    let first_is = begins_starts second t (t ∷ tokens) tokens (other_decides token first second d) refl b in
    let none = after_none token ((t ∷ tokens) ++ more) (apart (starts second) (token ∷ []) t first_is (rw (other_apart token first second d) refl)) in
    rw none (passes second (t ∷ tokens) more (other_decides token first second d) b)
passes (Many between marks item marked) tokens more d b =
    passes_items between marks (λ m. read (item m)) (λ m ts. reads_fewer (item m) ts) (λ m. Spells (item m)) (λ m. Begins (item m)) (goes_on (item false) ++ goes_on (item true)) (between_is_itself between marks item marked d) (λ ts. stops_between between marks item marked ts d)
    (λ m a ts behind p ends. complete (item m) a ts behind (item_decides between marks item marked m d) p (stops_item between marks item marked m behind ends))
    (λ m ts more p. passes (item m) ts more (item_decides between marks item marked m d) p)
    b.whole_items (suc (length (tokens ++ more))) marked tokens more (omega arith) b.is
