-- Grammars as data. A form says which lists of tokens it spells and what value each stands for.
use Rattle.std.specs.Prelude.{◌≡◌, ℕ, zero, suc, Bool, true, ◌||◌, List, [], ◌∷◌, ◌++◌, Option, Some, ◌⊎◌}
use Rattle.sasi_model.specs.Tokens.{Token}

pub data Form : Type 0 → Type 1 where
  -- no text
  Never : {A : Type 0} → Form A
  -- nothing, which stands for this value
  Nothing : {A : Type 0} → A → Form A
  -- one token that stands for a value
  One : {A : Type 0} → (Token → Option A) → Form A
  -- one form behind another
  Then : {A B : Type 0} → Form A → Form B → Form (A × B)
  -- another value
  As : {A B : Type 0} → (A → B) → Form A → Form B
  -- where the value passes a test; nothing goes on behind one that doesn't
  Where : {A : Type 0} → (A → Bool) → Form A → Form A
  -- this token and the first form behind it, or the second form
  Choose : {A : Type 0} → Token → Form A → Form A → Form A
  -- items with this token between them, and one at least. Each is an item by whether a marked one came before it
  Many : {A : Type 0} → Token → (A → Bool) → (Bool → Form A) → Bool → Form (List A)

-- ---- what a form spells

-- some lists of tokens
abbrev pub Phrase : Type 1
Phrase = List Token → Type 0

pub record Joined (first second : Phrase) (tokens : List Token) : Type 0 where
  pub front : List Token
  pub behind : List Token
  pub whole : tokens ≡ front ++ behind
  pub starts : first front
  pub ends : second behind

pub record Single {A : Type 0} (value_of : Token → Option A) (value : A) (tokens : List Token) : Type 0 where
  pub token : Token
  pub alone : tokens ≡ token ∷ []
  pub stands : value_of token ≡ Some value

pub record Renamed {A B : Type 0} (f : A → B) (phrase : A → Phrase) (value : B) (tokens : List Token) : Type 0 where
  pub from : A
  pub is : value ≡ f from
  pub spelled : phrase from tokens

pub record Led (token : Token) (phrase : Phrase) (tokens : List Token) : Type 0 where
  pub behind : List Token
  pub whole : tokens ≡ token ∷ behind
  pub spelled : phrase behind

-- items with a token between them, and one at least
abbrev pub items : {A : Type 0} → Token → (A → Bool) → (Bool → A → Phrase) → Bool → List A → Phrase
items between marks item marked [] = λ tokens. ⊥
items between marks item marked (a ∷ []) = item marked a
items between marks item marked (a ∷ b ∷ others) = Joined (item marked a) (Led between (items between marks item (marked || marks a) (b ∷ others)))

-- the tokens are a text of the form, and stand for the value
abbrev pub Spells : {A : Type 0} → Form A → A → Phrase
Spells Never value tokens = ⊥
Spells (Nothing a) value tokens = (tokens ≡ []) × (value ≡ a)
Spells (One value_of) value tokens = Single value_of value tokens
Spells (Then first second) value tokens = Joined (Spells first value.0) (Spells second value.1) tokens
Spells (As f form) value tokens = Renamed f (Spells form) value tokens
Spells (Where test form) value tokens = (test value ≡ true) × Spells form value tokens
Spells (Choose token first second) value tokens = Led token (Spells first value) tokens ⊎ Spells second value tokens
Spells (Many between marks item marked) value tokens = items between marks (λ m. Spells (item m)) marked value tokens

-- ---- what a text of a form begins with

-- a text of the first, and a beginning of the second behind it
pub record Behind {A : Type 0} (first : A → Phrase) (second : A → Phrase) (tokens : List Token) : Type 0 where
  pub value : A
  pub front : List Token
  pub behind : List Token
  pub whole : tokens ≡ front ++ behind
  pub starts : first value front
  pub ends : second value behind

-- the tokens begin items, of which so many are whole
abbrev pub begin_items : {A : Type 0} → Token → (A → Bool) → (Bool → A → Phrase) → (Bool → Phrase) → ℕ → Bool → Phrase
begin_items between marks item begins zero marked tokens = begins marked tokens
begin_items between marks item begins (suc n) marked tokens = Behind (item marked) (λ a. Led between (begin_items between marks item begins n (marked || marks a))) tokens

pub record BeginItems {A : Type 0} (between : Token) (marks : A → Bool) (item : Bool → A → Phrase) (begins : Bool → Phrase) (marked : Bool) (tokens : List Token) : Type 0 where
  pub whole_items : ℕ
  pub is : begin_items between marks item begins whole_items marked tokens

-- the tokens are a beginning of a text of the form. A test is made only where its text has ended
abbrev pub Begins : {A : Type 0} → Form A → Phrase
Begins Never tokens = tokens ≡ []
Begins (Nothing a) tokens = tokens ≡ []
Begins (One value_of) tokens = (tokens ≡ []) ⊎ (value : _) × Single value_of value tokens
Begins (Then first second) tokens = Begins first tokens ⊎ Behind (Spells first) (λ a. Begins second) tokens
Begins (As f form) tokens = Begins form tokens
Begins (Where test form) tokens = Begins form tokens
Begins (Choose token first second) tokens = Led token (Begins first) tokens ⊎ Begins second tokens
Begins (Many between marks item marked) tokens = BeginItems between marks (λ m. Spells (item m)) (λ m. Begins (item m)) marked tokens
