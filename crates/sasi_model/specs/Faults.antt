-- Where tokens stop being a text of a form, and where a text stops being a statement.
use Rattle.std.specs.Prelude.{◌≡◌, ◌-◌, ℕ, List, [], ◌∷◌, ◌++◌, length}
use Rattle.sasi_model.specs.Tokens.{Token, tokens, offset_of}
use Rattle.sasi_model.specs.Forms.{Form, Begins}
use Rattle.sasi_model.specs.Statements.{piece}

-- The first token with which no text of the form goes on, by the number of tokens from it on. There is none behind tokens that
-- begin a text: the fault is then at their end.
pub record IsFault {A : Type 0} (form : Form A) (tokens : List Token) (size : ℕ) : Type 0 where
  pub front : List Token
  pub left : List Token
  pub whole : tokens ≡ front ++ left
  pub counted : length left ≡ size
  pub begins : Begins form front
  pub ends : (t : Token) (rest : List Token) → left ≡ t ∷ rest → ¬ (Begins form (front ++ t ∷ []))

-- the offset in a text of the first token with which no statement goes on
pub record IsSyntaxAt (text : List ℕ) (at : ℕ) : Type 0 where
  pub size : ℕ
  pub fault : IsFault piece (tokens text) size
  pub offset : at ≡ offset_of text (length (tokens text) - size)
