-- What is read is spelled, and what is passed before a fault begins a text.
use Rattle.std.proofs.Common.{◌≡◌, ℕ, zero, suc, Bool, true, false, ◌||◌, List, [], ◌∷◌, ◌++◌, length, Option, None, Some, refl, sym, ap, ◌∙◌, append_assoc, ◌⊎◌, inl, inr, if◌then◌else◌}
use Rattle.std.specs.Cmp.Lexicographic.{same_text}
use Rattle.sasi_model.specs.Tokens.{Token, Word, Open, Close, Comma, Star, Equal, Less, More, LessEqual, MoreEqual, Colon, OpenBrace, CloseBrace, Semicolon, same_token}
use Rattle.sasi_model.specs.Forms.{Form, Never, Nothing, One, Then, As, Where, Choose, Many, Phrase, Joined, Single, Renamed, Led, items, Spells, Behind, BeginItems, Begins}
use Rattle.sasi_model.specs.FormReader.{Reading, Got, Stuck, ◌>>=◌, read_as, found, read_one, tested, after, choose, read_items, read}

-- a phrase is in front of tokens, and these are behind it
pub record Leads (phrase : Phrase) (tokens behind : List Token) : Type 0 where
  pub front : List Token
  pub whole : tokens ≡ front ++ behind
  pub is : phrase front

-- what is read leads to the tokens behind it, and what is passed to those that are left
abbrev pub Explains : {A : Type 0} → (A → Phrase) → Phrase → List Token → Reading A → Type 0
Explains spells begins tokens (Got value behind) = Leads (spells value) tokens behind
Explains spells begins tokens (Stuck size) = (left : List Token) × (length left ≡ size) × Leads begins tokens left

pub token_is : (wanted token : Token) → same_token wanted token ≡ true → token ≡ wanted
token_is (Word wanted) (Word letters) h = ap (λ (w : List ℕ). Word w) (same_text letters wanted (sym h))
token_is Open Open h = refl
token_is Close Close h = refl
token_is Comma Comma h = refl
token_is Star Star h = refl
token_is Equal Equal h = refl
token_is Less Less h = refl
token_is More More h = refl
token_is LessEqual LessEqual h = refl
token_is MoreEqual MoreEqual h = refl
token_is Colon Colon h = refl
token_is OpenBrace OpenBrace h = refl
token_is CloseBrace CloseBrace h = refl
token_is Semicolon Semicolon h = refl
token_is _ _ h = absurd cc

pub after_is : (wanted : Token) (tokens behind : List Token) → after wanted tokens ≡ Some behind → tokens ≡ wanted ∷ behind
after_is wanted [] behind h = absurd cc
after_is wanted (token ∷ tokens) behind h = by_test (same_token wanted token) refl h where
  by_test : (b : Bool) → same_token wanted token ≡ b → (if b then Some tokens else None) ≡ Some behind → token ∷ tokens ≡ wanted ∷ behind
  by_test false p h = absurd cc
  by_test true p h =
      let is : tokens ≡ behind = cc in
      rw (token_is wanted token p, is) refl

-- ---- each text begins a text

pub begins_nothing : {A : Type 0} (form : Form A) → Begins form []
begins_nothing Never = refl
begins_nothing (Nothing a) = refl
begins_nothing (One value_of) = inl refl
begins_nothing (Then first second) = inl (begins_nothing first)
begins_nothing (As f form) = begins_nothing form
begins_nothing (Where test form) = begins_nothing form
begins_nothing (Choose token first second) = inr (begins_nothing second)
begins_nothing (Many between marks item marked) = record { whole_items = zero; is = begins_nothing (item marked) }

-- ---- parts

explain_as : {A B : Type 0} (f : A → B) (spells : A → Phrase) (begins : Phrase) (tokens : List Token) (r : Reading A) → Explains spells begins tokens r → Explains (Renamed f spells) begins tokens (read_as f r)
explain_as f spells begins tokens (Got value behind) e = record { front = e.front; whole = e.whole; is = record { from = value; is = refl; spelled = e.is } }
explain_as f spells begins tokens (Stuck left) e = e

explain_second : {A B : Type 0} (first : A → Phrase) (begins : Phrase) (second : B → Phrase) (begins_second : Phrase) (tokens : List Token) (a : A) (left : List Token) → Leads (first a) tokens left
    → (r : Reading B) → Explains second begins_second left r
    → Explains (λ (p : A × B). Joined (first p.0) (second p.1)) (λ ts. begins ts ⊎ Behind first (λ a. begins_second) ts) tokens (read_as (λ b. (a, b)) r)
explain_second first begins second begins_second tokens a left l (Got b behind) e = record {
  front = l.front ++ e.front;
  whole = l.whole ∙ ap (λ (ts : List Token). l.front ++ ts) e.whole ∙ simp append_assoc;
  is = record { front = l.front; behind = e.front; whole = refl; starts = l.is; ends = e.is };
}
explain_second first begins second begins_second tokens a left l (Stuck rest) e = (
  e.0,
  e.1,
  record {
    front = l.front ++ e.2.front;
    whole = l.whole ∙ ap (λ (ts : List Token). l.front ++ ts) e.2.whole ∙ simp append_assoc;
    is = inr (record { value = a; front = l.front; behind = e.2.front; whole = refl; starts = l.is; ends = e.2.is });
  },
)

explain_then : {A B : Type 0} (first : A → Phrase) (begins : Phrase) (second : B → Phrase) (begins_second : Phrase) (read_second : List Token → Reading B) → ((ts : List Token) → Explains second begins_second ts (read_second ts))
    → (tokens : List Token) (r : Reading A) → Explains first begins tokens r
    → Explains (λ (p : A × B). Joined (first p.0) (second p.1)) (λ ts. begins ts ⊎ Behind first (λ a. begins_second) ts) tokens (r >>= λ a left. read_as (λ b. (a, b)) (read_second left))
explain_then first begins second begins_second read_second es tokens (Got a left) e = explain_second first begins second begins_second tokens a left e (read_second left) (es left)
explain_then first begins second begins_second read_second es tokens (Stuck left) e = (e.0, e.1, record { front = e.2.front; whole = e.2.whole; is = inl e.2.is })

explain_where : {A : Type 0} (test : A → Bool) (spells : A → Phrase) (begins : Phrase) (begun : (a : A) (ts : List Token) → spells a ts → begins ts) (tokens : List Token) (r : Reading A) → Explains spells begins tokens r
    → Explains (λ a ts. (test a ≡ true) × spells a ts) begins tokens (r >>= λ a left. tested (test a) a left)
explain_where test spells begins begun tokens (Stuck left) e = e
explain_where test spells begins begun tokens (Got a left) e = by_test (test a) refl where
  by_test : (b : Bool) → test a ≡ b → Explains (λ a ts. (test a ≡ true) × spells a ts) begins tokens (tested b a left)
  by_test true p = record { front = e.front; whole = e.whole; is = (p, e.is) }
  by_test false p = (left, refl, record { front = e.front; whole = e.whole; is = begun a e.front e.is })

-- ---- items

begin_whole_items : {A : Type 0} (between : Token) (marks : A → Bool) (item : Bool → A → Phrase) (begins : Bool → Phrase) → ((m : Bool) (a : A) (ts : List Token) → item m a ts → begins m ts)
    → (values : List A) (marked : Bool) (tokens : List Token) → items between marks item marked values tokens → BeginItems between marks item begins marked tokens
begin_whole_items between marks item begins begun [] marked tokens s = absurd s
begin_whole_items between marks item begins begun (a ∷ []) marked tokens s = record { whole_items = zero; is = begun marked a tokens s }
begin_whole_items between marks item begins begun (a ∷ b ∷ others) marked tokens s =
    let rest = begin_whole_items between marks item begins begun (b ∷ others) (marked || marks a) s.ends.behind s.ends.spelled in
    record { whole_items = suc rest.whole_items; is = record { value = a; front = s.front; behind = s.behind; whole = s.whole; starts = s.starts; ends = record { behind = s.ends.behind; whole = s.ends.whole; spelled = rest.is } } }

pub begins_whole : {A : Type 0} (form : Form A) (value : A) (tokens : List Token) → Spells form value tokens → Begins form tokens
begins_whole Never value tokens s = absurd s
begins_whole (Nothing a) value tokens s = s.0
begins_whole (One value_of) value tokens s = inr (value, s)
begins_whole (Then first second) value tokens s =
    inr (record { value = value.0; front = s.front; behind = s.behind; whole = s.whole; starts = s.starts; ends = begins_whole second value.1 s.behind s.ends })
begins_whole (As f form) value tokens s = begins_whole form s.from tokens s.spelled
begins_whole (Where test form) value tokens s = begins_whole form value tokens s.1
begins_whole (Choose token first second) value tokens (inl s) = inl (record { behind = s.behind; whole = s.whole; spelled = begins_whole first value s.behind s.spelled })
begins_whole (Choose token first second) value tokens (inr s) = inr (begins_whole second value tokens s)
begins_whole (Many between marks item marked) values tokens s =
    begin_whole_items between marks (λ m. Spells (item m)) (λ m. Begins (item m)) (λ m a ts p. begins_whole (item m) a ts p) values marked tokens s

module _ {A : Type 0} (between : Token) (marks : A → Bool) (item : Bool → A → Phrase) (begins : Bool → Phrase) where
  explain_others : (marked : Bool) (tokens left next : List Token) (a : A) → Leads (item marked a) tokens left → left ≡ between ∷ next
      → (r : Reading (List A)) → Explains (items between marks item (marked || marks a)) (BeginItems between marks item begins (marked || marks a)) next r
      → Explains (items between marks item marked) (BeginItems between marks item begins marked) tokens (read_as (λ others. a ∷ others) r)
  explain_others marked tokens left next a l is (Got [] rest) e = absurd e.is
  explain_others marked tokens left next a l is (Got (b ∷ others) rest) e = record {
    front = l.front ++ between ∷ e.front;
    whole = l.whole ∙ ap (λ (ts : List Token). l.front ++ ts) (is ∙ ap (λ (ts : List Token). between ∷ ts) e.whole) ∙ simp append_assoc;
    is = record { front = l.front; behind = between ∷ e.front; whole = refl; starts = l.is; ends = record { behind = e.front; whole = refl; spelled = e.is } };
  }
  explain_others marked tokens left next a l is (Stuck rest) e = (
    e.0,
    e.1,
    record {
      front = l.front ++ between ∷ e.2.front;
      whole = l.whole ∙ ap (λ (ts : List Token). l.front ++ ts) (is ∙ ap (λ (ts : List Token). between ∷ ts) e.2.whole) ∙ simp append_assoc;
      is = record { whole_items = suc e.2.is.whole_items; is = record { value = a; front = l.front; behind = between ∷ e.2.front; whole = refl; starts = l.is; ends = record { behind = e.2.front; whole = refl; spelled = e.2.is.is } } };
    },
  )

  explain_last : (marked : Bool) (tokens left : List Token) (a : A) (others : List Token → Reading (List A)) → Leads (item marked a) tokens left
      → ((next : List Token) → Explains (items between marks item (marked || marks a)) (BeginItems between marks item begins (marked || marks a)) next (others next))
      → (next : Option (List Token)) → after between left ≡ next
      → Explains (items between marks item marked) (BeginItems between marks item begins marked) tokens (choose next (λ behind. read_as (λ others. a ∷ others) (others behind)) (Got (a ∷ []) left))
  explain_last marked tokens left a others l es None p = l
  explain_last marked tokens left a others l es (Some next) p = explain_others marked tokens left next a l (after_is between left next p) (others next) (es next)

  explain_first : (marked : Bool) (tokens : List Token) (others : Bool → List Token → Reading (List A))
      → ((m : Bool) (next : List Token) → Explains (items between marks item m) (BeginItems between marks item begins m) next (others m next))
      → (r : Reading A) → Explains (item marked) (begins marked) tokens r
      → Explains (items between marks item marked) (BeginItems between marks item begins marked) tokens
      (r >>= λ a left. choose (after between left) (λ behind. read_as (λ others. a ∷ others) (others (marked || marks a) behind)) (Got (a ∷ []) left))
  explain_first marked tokens others es (Got a left) e = explain_last marked tokens left a (others (marked || marks a)) e (es (marked || marks a)) (after between left) refl
  explain_first marked tokens others es (Stuck left) e = (e.0, e.1, record { front = e.2.front; whole = e.2.whole; is = record { whole_items = zero; is = e.2.is } })

explain_items : {A : Type 0} (between : Token) (marks : A → Bool) (item : Bool → A → Phrase) (begins : Bool → Phrase) (read : Bool → List Token → Reading A) → ((m : Bool) → begins m [])
    → ((m : Bool) (ts : List Token) → Explains (item m) (begins m) ts (read m ts))
    → (n : ℕ) (marked : Bool) (tokens : List Token) → Explains (items between marks item marked) (BeginItems between marks item begins marked) tokens (read_items between marks read n marked tokens)
unfolding read_items
explain_items between marks item begins read none es zero marked tokens = (tokens, refl, record { front = []; whole = refl; is = record { whole_items = zero; is = none marked } })
explain_items between marks item begins read none es (suc n) marked tokens =
    explain_first between marks item begins marked tokens (read_items between marks read n) (explain_items between marks item begins read none es n) (read marked tokens) (es marked tokens)

-- ---- forms

explain_choice : {A : Type 0} (token : Token) (first second : A → Phrase) (begins_first begins_second : Phrase) (read_first : List Token → Reading A) (second_read : Reading A) (tokens : List Token)
    → ((ts : List Token) → Explains first begins_first ts (read_first ts)) → Explains second begins_second tokens second_read
    → (next : Option (List Token)) → after token tokens ≡ next
    → Explains (λ a ts. Led token (first a) ts ⊎ second a ts) (λ ts. Led token begins_first ts ⊎ begins_second ts) tokens (choose next read_first second_read)
explain_choice token first second begins_first begins_second read_first second_read tokens es e None p = by_reading second_read e where
  by_reading : (r : Reading _) → Explains second begins_second tokens r → Explains (λ a ts. Led token (first a) ts ⊎ second a ts) (λ ts. Led token begins_first ts ⊎ begins_second ts) tokens r
  by_reading (Got a left) e = record { front = e.front; whole = e.whole; is = inr e.is }
  by_reading (Stuck left) e = (e.0, e.1, record { front = e.2.front; whole = e.2.whole; is = inr e.2.is })
explain_choice token first second begins_first begins_second read_first second_read tokens es e (Some next) p = by_reading (read_first next) (es next) where
  by_reading : (r : Reading _) → Explains first begins_first next r → Explains (λ a ts. Led token (first a) ts ⊎ second a ts) (λ ts. Led token begins_first ts ⊎ begins_second ts) tokens r
  by_reading (Got a left) e = record { front = token ∷ e.front; whole = after_is token tokens next p ∙ ap (λ (ts : List Token). token ∷ ts) e.whole; is = inl (record { behind = e.front; whole = refl; spelled = e.is }) }
  by_reading (Stuck left) e = (e.0, e.1, record { front = token ∷ e.2.front; whole = after_is token tokens next p ∙ ap (λ (ts : List Token). token ∷ ts) e.2.whole; is = inl (record { behind = e.2.front; whole = refl; spelled = e.2.is }) })

explain_one : {A : Type 0} (value_of : Token → Option A) (tokens : List Token) → Explains (Single value_of) (λ ts. (ts ≡ []) ⊎ (value : A) × Single value_of value ts) tokens (read_one value_of tokens)
explain_one value_of [] = ([], refl, record { front = []; whole = refl; is = inl refl })
explain_one value_of (token ∷ tokens) = by_value (value_of token) refl where
  by_value : (v : Option _) → value_of token ≡ v → Explains (Single value_of) (λ ts. (ts ≡ []) ⊎ (value : _) × Single value_of value ts) (token ∷ tokens) (found v (token ∷ tokens) tokens)
  by_value None p = (token ∷ tokens, refl, record { front = []; whole = refl; is = inl refl })
  by_value (Some value) p = record { front = token ∷ []; whole = refl; is = record { token = token; alone = refl; stands = p } }

-- what the reader of a form says is so
pub explained : {A : Type 0} (form : Form A) (tokens : List Token) → Explains (Spells form) (Begins form) tokens (read form tokens)
explained Never tokens = (tokens, refl, record { front = []; whole = refl; is = refl })
explained (Nothing a) tokens = record { front = []; whole = refl; is = (refl, refl) }
explained (One value_of) tokens = explain_one value_of tokens
explained (Then first second) tokens =
    explain_then (Spells first) (Begins first) (Spells second) (Begins second) (read second) (λ ts. explained second ts) tokens (read first tokens) (explained first tokens)
explained (As f form) tokens = explain_as f (Spells form) (Begins form) tokens (read form tokens) (explained form tokens)
explained (Where test form) tokens = explain_where test (Spells form) (Begins form) (begins_whole form) tokens (read form tokens) (explained form tokens)
explained (Choose token first second) tokens =
    explain_choice token (Spells first) (Spells second) (Begins first) (Begins second) (read first) (read second tokens) tokens (λ ts. explained first ts) (explained second tokens) (after token tokens) refl
explained (Many between marks item marked) tokens =
    explain_items between marks (λ m. Spells (item m)) (λ m. Begins (item m)) (λ m. read (item m)) (λ m. begins_nothing (item m)) (λ m ts. explained (item m) ts) (suc (length tokens)) marked tokens
