-- The parser of the grammar is one, and the only one.
use Rattle.std.proofs.Common.{◌≡◌, ◌-◌, ℕ, List, length, refl, sym, ap, ◌∙◌, subst, Result, Ok, Err, IfOk}
use Rattle.std.specs.Str.{IsUtf8}
use Rattle.sasi_types.specs.declared.statement.Statement.{Statement}
use Rattle.sasi_model.specs.Tokens.{Token, tokens, offset_of}
use Rattle.sasi_model.specs.Forms.{Spells}
use Rattle.sasi_model.specs.FormReader.{Reading, Got, Stuck, read, ended}
use Rattle.sasi_model.specs.Faults.{IsSyntaxAt}
use Rattle.sasi_model.specs.Parsers.{Parsed, Parses, FailsAt, Parser, IsParsed, IsParser, parsed_by, grammar_parser}
use Rattle.sasi_model.specs.Statements.{piece}
use Rattle.sasi_model.specs.WellFormed.{IsWellFormed}
use Rattle.sasi_cql.specs.declared.fault.ParseFault.{ParseFault}
use Rattle.sasi_cql.specs.declared.fault.ParseFault.TheVariants.{Syntax, OutOfMemory}
use Rattle.sasi_cql.specs.Finds.{IsResult}
use Rattle.sasi_cql.proofs.Agreement.{piece_decides, reads, refuses, place, one_value}
use Rattle.sasi_cql.proofs.Unique.{one_fault}
use Rattle.sasi_cql.proofs.Lexemes.{tokens_written}
use Rattle.sasi_cql.proofs.Written.{piece_written}

-- ---- the parser

is_parsed : (text : List ℕ) (r : Reading Statement) → ended (read piece (tokens text)) ≡ r → IsParsed text (parsed_by text r)
is_parsed text (Got statement behind) is = reads piece piece_decides (tokens text) statement behind is
is_parsed text (Stuck size) is = (refuses piece piece_decides (tokens text) size is, record { size = size; fault = place piece piece_decides (tokens text) size is; offset = refl })

pub is_parser : IsParser grammar_parser
unfolding grammar_parser
is_parser text = is_parsed text (ended (read piece (tokens text))) refl

pub one_statement : (tokens : List Token) (one other : Statement) → Spells piece one tokens → Spells piece other tokens → one ≡ other
one_statement tokens one other s t = one_value piece piece_decides tokens one other s t

pub one_offset : (text : List ℕ) (one other : ℕ) → IsSyntaxAt text one → IsSyntaxAt text other → one ≡ other
one_offset text one other f g =
    f.offset ∙ ap (λ (n : ℕ). offset_of text (length (tokens text) - n)) (one_fault piece (tokens text) f.size g.size f.fault g.fault) ∙ sym g.offset

one_parsed : (text : List ℕ) (p q : Parsed) → IsParsed text p → IsParsed text q → p ≡ q
one_parsed text (Parses one) (Parses other) s t = ap (λ (a : Statement). Parses a) (one_statement (tokens text) one other s t)
one_parsed text (Parses one) (FailsAt at) s f = absurd (f.0 one s)
one_parsed text (FailsAt at) (Parses other) f t = absurd (f.0 other t)
one_parsed text (FailsAt one) (FailsAt other) f g = ap (λ (at : ℕ). FailsAt at) (one_offset text one other f.1 g.1)

pub one_parser : (parser : Parser) → IsParser parser → (text : List ℕ) → parser text ≡ grammar_parser text
one_parser parser is text = one_parsed text (parser text) (grammar_parser text) (is text) (is_parser text)

-- ---- what a result says

parsed_as : (text : List ℕ) (p : Parsed) → grammar_parser text ≡ p → IsParsed text p
parsed_as text p is = let P : Parsed → Type 0 = λ q. IsParsed text q in subst P is (is_parser text)

failed : (p : Parsed) (result : Result Statement ParseFault) (at : ℕ) → IsResult p result → result ≡ Err (Syntax at) → p ≡ FailsAt at
failed p (Ok statement) at is other = absurd cc
failed p (Err OutOfMemory) at is other = absurd cc
failed p (Err (Syntax place)) at is same = let one : place ≡ at = cc in is ∙ ap (λ (n : ℕ). FailsAt n) one

module _ (text : List ℕ) (result : Result Statement ParseFault) (is : IsResult (grammar_parser text) result) where
  pub gives_statement : IfOk result (λ s. grammar_parser text ≡ Parses s)
  gives_statement = by result is where
    by : (r : Result Statement ParseFault) → IsResult (grammar_parser text) r → IfOk r (λ s. grammar_parser text ≡ Parses s)
    by (Ok s) h = h
    by (Err fault) h = tt

  pub gives_spelled : IfOk result (λ s. Spells piece s (tokens text))
  gives_spelled = by result is where
    by : (r : Result Statement ParseFault) → IsResult (grammar_parser text) r → IfOk r (λ s. Spells piece s (tokens text))
    by (Ok s) h = parsed_as text (Parses s) h
    by (Err fault) h = tt

  pub gives_written : IsUtf8 text → IfOk result (λ s. IsWellFormed s)
  gives_written utf8 = by result is where
    by : (r : Result Statement ParseFault) → IsResult (grammar_parser text) r → IfOk r (λ s. IsWellFormed s)
    by (Ok s) h = piece_written.gives s (tokens text) (parsed_as text (Parses s) h) (tokens_written text utf8)
    by (Err fault) h = tt

  pub gives_failure : (at : ℕ) → result ≡ Err (Syntax at) → grammar_parser text ≡ FailsAt at
  gives_failure at fails = failed (grammar_parser text) result at is fails

  pub gives_none : (at : ℕ) → result ≡ Err (Syntax at) → (s : Statement) → ¬ (Spells piece s (tokens text))
  gives_none at fails = (parsed_as text (FailsAt at) (gives_failure at fails)).0

  pub gives_offset : (at : ℕ) → result ≡ Err (Syntax at) → IsSyntaxAt text at
  gives_offset at fails = (parsed_as text (FailsAt at) (gives_failure at fails)).1
