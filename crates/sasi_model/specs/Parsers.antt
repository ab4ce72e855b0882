-- What a parser gives for a text: the statement that it spells, or the offset at which it stops being one.
use Rattle.std.specs.Prelude.{◌-◌, ℕ, List, length}
use Rattle.sasi_types.specs.declared.statement.Statement.{Statement}
use Rattle.sasi_model.specs.Tokens.{tokens, offset_of}
use Rattle.sasi_model.specs.Forms.{Spells}
use Rattle.sasi_model.specs.FormReader.{Reading, Got, Stuck, read, ended}
use Rattle.sasi_model.specs.Faults.{IsSyntaxAt}
use Rattle.sasi_model.specs.Statements.{piece}

pub data Parsed : Type 0 where
  Parses : Statement → Parsed
  FailsAt : ℕ → Parsed

abbrev pub Parser : Type 0
Parser = List ℕ → Parsed

-- it is the statement that the text spells; or the text spells none, and this is the offset of the fault
abbrev pub IsParsed : List ℕ → Parsed → Type 0
IsParsed text (Parses statement) = Spells piece statement (tokens text)
IsParsed text (FailsAt at) = ((statement : Statement) → ¬ (Spells piece statement (tokens text))) × IsSyntaxAt text at

-- There is one such function, and no other.
abbrev pub IsParser : Parser → Type 0
IsParser parser = (text : List ℕ) → IsParsed text (parser text)

-- ---- the function

-- what the reader of the grammar got from a text, or where it is stuck
abbrev pub parsed_by : List ℕ → Reading Statement → Parsed
parsed_by text (Got statement behind) = Parses statement
parsed_by text (Stuck size) = FailsAt (offset_of text (length (tokens text) - size))

unfoldable pub grammar_parser : Parser
grammar_parser text = parsed_by text (ended (read piece (tokens text)))
