-- What a reader of a form returns, by the tokens of the text that it reads.
use Rattle.std.specs.Prelude.{◌≡◌, ℕ, Bool, true, false, List, [], ◌∷◌, Option, None, Some, Result, Ok, Err, ⊤}
use Rattle.std.specs.Borrow.{Bor}
use Rattle.sasi_types.specs.declared.statement.Statement.{Statement}
use Rattle.sasi_model.specs.Tokens as model
use Rattle.sasi_model.specs.Tokens.{tokens}
use Rattle.sasi_model.specs.FormReader.{Reading, Got, Stuck}
use Rattle.sasi_model.specs.Parsers.{Parsed, Parses, FailsAt}
use Rattle.sasi_cql.specs.declared.fault.ParseFault.{ParseFault}
use Rattle.sasi_cql.specs.declared.fault.ParseFault.TheVariants as fault
use Rattle.sasi_cql.specs.declared.halt.Halt.{Halt}
use Rattle.sasi_cql.specs.declared.halt.Halt.TheVariants as halt
use Rattle.sasi_cql.specs.declared.token.Token.{Token}
use Rattle.sasi_cql.specs.ModelTokens.{model_token}

-- it halts where the form's reader is stuck, unless it ran out of memory
abbrev pub Halts : {A : Type 0} → Reading A → Halt → Type 0
Halts reading (halt.Stuck size) = reading ≡ Stuck size
Halts reading halt.OutOfMemory = ⊤

-- the result has the value that the form's reader gets, as it is shown, and the text of the tokens behind it; or it tells where the reader is stuck
abbrev pub FindsAs : {L A : Type 0} → (L → A) → Reading A → Result (L × Bor (List ℕ)) Halt → Type 0
FindsAs shown reading (Ok r) = reading ≡ Got (shown r.0) (tokens r.1.now)
FindsAs shown reading (Err why) = Halts reading why

-- the result is the value and the text behind it
abbrev pub Finds : {A : Type 0} → Reading A → Result (A × Bor (List ℕ)) Halt → Type 0
Finds reading result = FindsAs (λ value. value) reading result

-- likewise of the text behind words and signs
abbrev pub FindsBehind : Reading (Unit {0}) → Result (Bor (List ℕ)) Halt → Type 0
FindsBehind reading (Ok behind) = reading ≡ Got tt (tokens behind.now)
FindsBehind reading (Err why) = Halts reading why

-- likewise of a value in front of words and signs
abbrev pub FindsWith : {A : Type 0} → A → Reading (Unit {0}) → Result (A × Bor (List ℕ)) Halt → Type 0
FindsWith value reading (Ok r) = (r.0 ≡ value) × (reading ≡ Got tt (tokens r.1.now))
FindsWith value reading (Err why) = Halts reading why

-- likewise of a value behind which nothing stands
abbrev pub FindsAll : {A : Type 0} → Reading A → Result A Halt → Type 0
FindsAll reading (Ok value) = reading ≡ Got value []
FindsAll reading (Err why) = Halts reading why

-- this is the text of the tokens behind the one in front
abbrev pub IsBehind : Option (List model.Token) → Option (Bor (List ℕ)) → Type 0
IsBehind found (Some behind) = found ≡ Some (tokens behind.now)
IsBehind found None = found ≡ None

-- this is the first of the tokens, and the text of the others
abbrev pub IsFirst : List model.Token → Option (Token × Bor (List ℕ)) → Type 0
IsFirst all (Some r) = all ≡ model_token r.0 ∷ tokens r.1.now
IsFirst all None = all ≡ []

-- there is a first token
abbrev pub HasToken : List model.Token → Bool → Type 0
HasToken [] there = there ≡ false
HasToken (token ∷ others) there = there ≡ true

-- the result is the statement that a parser gives, or where it fails
abbrev pub IsResult : Parsed → Result Statement ParseFault → Type 0
IsResult parsed (Ok statement) = parsed ≡ Parses statement
IsResult parsed (Err (fault.Syntax at)) = parsed ≡ FailsAt at
IsResult parsed (Err fault.OutOfMemory) = ⊤
