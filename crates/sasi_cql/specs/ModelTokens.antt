-- The tokens of the code, as those of the model.
use Rattle.std.specs.Prelude.{◌≡◌, ℕ, suc, Bool, true, false, not, ◌&&◌, ◌==◌, nat_le, if◌then◌else◌, List, [], ◌∷◌, drop, Option, None, Some, ⊤}
use Rattle.std.specs.Borrow.{Bor}
use Rattle.sasi_model.specs.Tokens as model
use Rattle.sasi_model.specs.Pieces.{closes}
use Rattle.sasi_model.specs.Tokens.{Lexeme, QuotedText, is_separator, size_from, tokens}
use Rattle.sasi_model.specs.Abbreviations.{behind_first, lower}
use Rattle.sasi_cql.specs.declared.token.Token.{Token}
use Rattle.sasi_cql.specs.declared.token.Token.TheVariants as written

-- the text of a string from the bytes between its quotes: of two quotes the second is left out
abbrev pub undoubled_from : Bool → List ℕ → List ℕ
undoubled_from second [] = []
undoubled_from true (b ∷ bs) = undoubled_from false bs
undoubled_from false (b ∷ bs) = b ∷ undoubled_from (b == 39) bs

abbrev pub undoubled : List ℕ → List ℕ
undoubled bytes = undoubled_from false bytes

-- the model's token
abbrev pub model_token : Token → model.Token
model_token (written.Word word) = model.Word (lower word.now)
model_token (written.QuotedName name) = model.QuotedName name.now
model_token (written.Quoted text) = model.Quoted (undoubled text.now)
model_token (written.Integer number) = model.Integer number
model_token (written.Uuid bytes) = model.Uuid bytes
model_token written.Open = model.Open
model_token written.Close = model.Close
model_token written.Comma = model.Comma
model_token written.Star = model.Star
model_token written.Equal = model.Equal
model_token written.Less = model.Less
model_token written.LessEqual = model.LessEqual
model_token written.More = model.More
model_token written.MoreEqual = model.MoreEqual
model_token written.Colon = model.Colon
model_token written.OpenBrace = model.OpenBrace
model_token written.CloseBrace = model.CloseBrace
model_token written.Semicolon = model.Semicolon
model_token written.Unknown = model.Unknown

-- the number of bytes of a string after its opening quote
abbrev pub quoted_size : Option QuotedText → Option ℕ
quoted_size None = None
quoted_size (Some q) = Some q.size

-- the token is that of the lexeme, and these bytes are left after it
pub record IsLexeme (lexeme : Lexeme) (behind : List ℕ) (token : Token) (left : List ℕ) : Type 0 where
  pub token_is : model_token token ≡ lexeme.token
  pub left_is : left ≡ drop lexeme.inside behind

-- Spaces and comments lead from the text to what is left, which is empty or begins with a token.
pub record Skips (text left : List ℕ) : Type 0 where
  pub tokens_are : tokens text ≡ tokens left
  pub sizes_are : (count : ℕ) → size_from 0 count text ≡ size_from 0 count left
  pub at_token : (b : ℕ) (behind : List ℕ) → left ≡ b ∷ behind → is_separator b behind ≡ false

-- the token is the first of the text, and these bytes are left after it
pub record IsNextToken (text : List ℕ) (token : Token) (left : List ℕ) : Type 0 where
  pub tokens_are : tokens text ≡ model_token token ∷ tokens left
  pub sizes_are : (count : ℕ) → size_from 0 (suc count) text ≡ size_from 0 count left

-- the text has no token
pub record HasNoToken (text : List ℕ) : Type 0 where
  pub tokens_are : tokens text ≡ []
  pub sizes_are : (count : ℕ) → size_from 0 count text ≡ 0

abbrev pub IsNext : List ℕ → Option (Token × Bor (List ℕ)) → Type 0
IsNext text (Some r) = IsNextToken text r.0 r.1.now
IsNext text None = HasNoToken text

-- where no further `*/` is found, there is none behind the next byte
abbrev pub StaysUnclosed : Bool → Option (Token × Bor (List ℕ)) → Type 0
StaysUnclosed unclosed (Some r) = unclosed ≡ true → closes (behind_first r.1.now) ≡ false
StaysUnclosed unclosed None = ⊤

-- the bytes left after this many where the test holds, and none where it fails
abbrev pub SkipsIf : Bool → ℕ → List ℕ → Option (Bor (List ℕ)) → Type 0
SkipsIf test size bytes (Some left) = (test ≡ true) × (left.now ≡ drop size bytes)
SkipsIf test size bytes None = test ≡ false

-- the number, if it is not above the limit
abbrev pub at_most : ℕ → ℕ → Option ℕ
at_most limit n = if nat_le n limit then Some n else None

-- the byte closes a string; `quote` says that the byte before it is a quote, and may be the first of two
abbrev pub closes_string : Bool → ℕ → Bool
closes_string quote b = quote && not (b == 39)

-- it is a quote itself, and the first of two, if there are two
abbrev pub is_first_quote : Bool → ℕ → Bool
is_first_quote quote b = not quote && b == 39
