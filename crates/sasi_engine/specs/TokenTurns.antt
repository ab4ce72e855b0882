-- A stream of hits, one token after another.
use Rattle.std.specs.Prelude.{◌≡◌, ◌≢◌, ℕ, nat_eq, List, [], ◌∷◌, ◌++◌, Option, None, IfSome}
use Rattle.std.specs.Option.{option_to_list}
use Rattle.std.specs.List.{AllByRecursion, filter}
use Rattle.sasi_ranges.specs.declared.entry.Entry.{Entry}
use Rattle.sasi_ranges.specs.StreamCalls.{Gives}

-- the entries with a token
abbrev pub with_token : ℕ → List Entry → List Entry
with_token token es = filter (λ (e : Entry). nat_eq e.token token) es

-- some of the entries that were left were added, which have the token; others are left
pub record HasTaken (Left : List Entry → Type 0) (token : ℕ) (old new es : List Entry) : Type 0 where
  pub taken : List Entry
  pub new_is : new ≡ old ++ taken
  pub of_token : AllByRecursion (λ (e : Entry). e.token ≡ token) taken
  pub behind : List Entry
  pub parts : es ≡ taken ++ behind
  pub left : Left behind

-- **The entries with the token were added**, and the one behind them, which was read too, has another
pub record TakesToken (Left : List Entry → Type 0) (token : ℕ) (old new es : List Entry) (ahead : Option Entry) : Type 0 where
  pub taken : List Entry
  pub new_is : new ≡ old ++ taken
  pub of_token : AllByRecursion (λ (e : Entry). e.token ≡ token) taken
  pub behind : List Entry
  pub parts : es ≡ taken ++ behind
  pub apart : IfSome ahead (λ (e : Entry). e.token ≢ token)
  pub gives : Gives Left behind ahead

-- the one that was read ahead is given, or else the first one that is left
abbrev pub GivesAfter : (List Entry → Type 0) → Option Entry → List Entry → Option Entry → Type 0
GivesAfter Left before es found = Gives Left (option_to_list before ++ es) found

-- the entries of the next token, the first of which is this one, and those that are left behind them, of which one may have been read
pub record HasNext (Left : List Entry → Type 0) (before after : Option Entry) (es : List Entry) (first : Entry) (others : List Entry) : Type 0 where
  pub rest : List Entry
  pub parts : option_to_list before ++ es ≡ (first ∷ others) ++ (option_to_list after ++ rest)
  pub of_token : AllByRecursion (λ (e : Entry). e.token ≡ first.token) others
  pub apart : IfSome after (λ (e : Entry). e.token ≢ first.token)
  pub ends : after ≡ None → rest ≡ []
  pub left : Left rest

-- **The entries of the next token**; none exactly where none is left
abbrev pub TakesNext : (List Entry → Type 0) → Option Entry → Option Entry → List Entry → List Entry → Type 0
TakesNext Left before after es [] = (option_to_list before ++ es ≡ []) × (after ≡ None) × Left []
TakesNext Left before after es (e ∷ more) = HasNext Left before after es e more
