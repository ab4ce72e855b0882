use Rattle.std.proofs.Common.{◌≡◌, ℕ, List, Option, None, Some, refl}
use Rattle.sasi_model.specs.Tokens.{QuotedText, quoted_text, string_lexeme}
use Rattle.sasi_cql.specs.declared.token.Token.TheVariants.{Unknown}
use Rattle.sasi_cql.specs.ModelTokens.{IsLexeme, quoted_size}
use Rattle.sasi_cql.proofs.lexer.string.Goals as goal

-- without a size there is no string
no_string : (q : Option QuotedText) (behind : List ℕ) → None ≡ quoted_size q → IsLexeme (string_lexeme q) behind Unknown behind
no_string None behind is = record { token_is = refl; left_is = refl }
no_string (Some q) behind is = absurd cc

pub returns-in-Some : goal.returns-in-Some
returns-in-Some c = c.sized_string.ensures

pub returns-in-None : goal.returns-in-None
returns-in-None c = no_string (quoted_text c.args.behind.now) c.args.behind.now c.in-None.ensures
