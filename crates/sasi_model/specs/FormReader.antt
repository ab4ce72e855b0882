-- The reader of a form: a tool of proofs. Where the next token always decides, it gets exactly what the form spells, and is stuck exactly
-- at the first token with which no text of the form goes on.
use Rattle.std.specs.Prelude.{ℕ, zero, suc, Bool, true, false, not, ◌||◌, ◌&&◌, List, [], ◌∷◌, ◌++◌, length, Option, None, Some, is_some, if◌then◌else◌}
use Rattle.std.specs.List.{list_any}
use Rattle.sasi_model.specs.Tokens.{Token, same_token}
use Rattle.sasi_model.specs.Forms.{Form, Never, Nothing, One, Then, As, Where, Choose, Many}

-- ---- the reader

-- the value that was read and the tokens behind it; or the number of tokens from the first one on with which no text of the form goes on
pub data Reading (A : Type 0) : Type 0 where
  Got : A → List Token → Reading A
  Stuck : ℕ → Reading A

-- goes on behind what was read
infixl 10 ◌>>=◌
abbrev pub ◌>>=◌ : {A B : Type 0} → Reading A → (A → List Token → Reading B) → Reading B
(Got value behind) >>= next = next value behind
(Stuck left) >>= next = Stuck left

abbrev pub read_as : {A B : Type 0} → (A → B) → Reading A → Reading B
read_as f (Got value behind) = Got (f value) behind
read_as f (Stuck left) = Stuck left

abbrev pub found : {A : Type 0} → Option A → List Token → List Token → Reading A
found None tokens behind = Stuck (length tokens)
found (Some value) tokens behind = Got value behind

abbrev pub read_one : {A : Type 0} → (Token → Option A) → List Token → Reading A
read_one value_of [] = Stuck 0
read_one value_of (token ∷ tokens) = found (value_of token) (token ∷ tokens) tokens

abbrev pub tested : {A : Type 0} → Bool → A → List Token → Reading A
tested true value behind = Got value behind
tested false value behind = Stuck (length behind)

-- what stands behind the token, if it is in front
abbrev pub after : Token → List Token → Option (List Token)
after wanted [] = None
after wanted (token ∷ tokens) = if same_token wanted token then Some tokens else None

abbrev pub choose : {A : Type 0} → Option (List Token) → (List Token → Reading A) → Reading A → Reading A
choose None first second = second
choose (Some behind) first second = first behind

-- at most so many items
unfoldable pub read_items : {A : Type 0} → Token → (A → Bool) → (Bool → List Token → Reading A) → ℕ → Bool → List Token → Reading (List A)
read_items between marks read zero marked tokens = Stuck (length tokens)
read_items between marks read (suc n) marked tokens =
    read marked tokens >>= λ a left.
    choose (after between left) (λ behind. read_as (λ others. a ∷ others) (read_items between marks read n (marked || marks a) behind)) (Got (a ∷ []) left)

abbrev pub read : {A : Type 0} → Form A → List Token → Reading A
read Never tokens = Stuck (length tokens)
read (Nothing a) tokens = Got a tokens
read (One value_of) tokens = read_one value_of tokens
read (Then first second) tokens = read first tokens >>= λ a left. read_as (λ b. (a, b)) (read second left)
read (As f form) tokens = read_as f (read form tokens)
read (Where test form) tokens = read form tokens >>= λ a left. tested (test a) a left
read (Choose token first second) tokens = choose (after token tokens) (read first) (read second tokens)
read (Many between marks item marked) tokens = read_items between marks (λ m. read (item m)) (suc (length tokens)) marked tokens

-- where nothing may stand behind it
abbrev pub ended : {A : Type 0} → Reading A → Reading A
ended (Got value []) = Got value []
ended (Got value (token ∷ tokens)) = Stuck (suc (length tokens))
ended (Stuck size) = Stuck size

-- ---- where one token in front decides

-- the empty text is one of the form's
abbrev pub nullable : {A : Type 0} → Form A → Bool
nullable Never = false
nullable (Nothing a) = true
nullable (One value_of) = false
nullable (Then first second) = nullable first && nullable second
nullable (As f form) = nullable form
nullable (Where test form) = nullable form
nullable (Choose token first second) = nullable second
nullable (Many between marks item marked) = false

-- a text of the form may begin with the token
abbrev pub starts : {A : Type 0} → Form A → Token → Bool
starts Never t = false
starts (Nothing a) t = false
starts (One value_of) t = is_some (value_of t)
starts (Then first second) t = starts first t || (nullable first && starts second t)
starts (As f form) t = starts form t
starts (Where test form) t = starts form t
starts (Choose token first second) t = same_token token t || starts second t
starts (Many between marks item marked) t = starts (item marked) t

-- the tokens with which a text of the form may go on where it could also end
abbrev pub goes_on : {A : Type 0} → Form A → List Token
goes_on Never = []
goes_on (Nothing a) = []
goes_on (One value_of) = []
goes_on (Then first second) = goes_on second ++ (if nullable second then goes_on first else [])
goes_on (As f form) = goes_on form
goes_on (Where test form) = goes_on form
goes_on (Choose token first second) = goes_on first ++ (goes_on second ++ (if nullable second then token ∷ [] else []))
goes_on (Many between marks item marked) = between ∷ goes_on (item false) ++ goes_on (item true)

-- the token is among these
abbrev pub is_one_of : List Token → Token → Bool
is_one_of tokens token = list_any (λ t. same_token t token) tokens

-- everywhere in the form the next token decides what it belongs to
abbrev pub decides : {A : Type 0} → Form A → Bool
decides Never = true
decides (Nothing a) = true
decides (One value_of) = true
decides (Then first second) = decides first && decides second && not (list_any (starts second) (goes_on first))
decides (As f form) = decides form
decides (Where test form) = decides form
decides (Choose token first second) = same_token token token && decides first && decides second && not (starts second token)
decides (Many between marks item marked) =
    same_token between between && decides (item false) && decides (item true) && not (nullable (item false)) && not (nullable (item true))
    && not (is_one_of (goes_on (item false) ++ goes_on (item true)) between)
