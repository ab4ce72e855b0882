-- Parts of productions that are read by themselves.
use Rattle.std.specs.Prelude.{ℕ, Bool, List, [], ◌∷◌, Option}
use Rattle.sasi_types.specs.declared.literal.Literal.{Literal}
use Rattle.sasi_types.specs.declared.literal.Number.{Number}
use Rattle.sasi_types.specs.declared.relation.Relation.{Relation}
use Rattle.sasi_types.specs.declared.statement.Statement.{Statement}
use Rattle.sasi_types.specs.declared.statement.Statement.TheVariants.{OpenCursor}
use Rattle.sasi_model.specs.Tokens.{Close, Open}
use Rattle.sasi_model.specs.Forms.{As, Form}
use Rattle.sasi_model.specs.Statements.{filtering, key_given, limit, literals, name, names, number, options, relations, select, string, time, word, ◌&◌, ◌▸◌}

-- ( name {, name} ) VALUES ( literal {, literal}
abbrev pub columns_given : Form (List (List ℕ) × List Literal)
columns_given = (Open ∷ []) ▸ names & (Close ∷ word "values" ∷ Open ∷ []) ▸ literals

-- [USING TIMESTAMP integer] WHERE name = literal
abbrev pub time_and_key : Form (Option Number × (List ℕ × Literal))
time_and_key = time & key_given

-- ) USING string [WITH OPTIONS = { .. }]
abbrev pub class : Form (List ℕ × List (List ℕ × List ℕ))
class = (Close ∷ word "using" ∷ []) ▸ string & options

-- ( name ) USING string [WITH OPTIONS = { .. }]
abbrev pub column_indexed : Form (List ℕ × (List ℕ × List (List ℕ × List ℕ)))
column_indexed = (Open ∷ []) ▸ name & class

-- [LIMIT integer] [ALLOW FILTERING]
abbrev pub bounds : Form (Option Number × Bool)
bounds = limit & filtering

-- [WHERE relation {AND relation}] [LIMIT integer] [ALLOW FILTERING]
abbrev pub conditions : Form (List Relation × (Option Number × Bool))
conditions = relations & bounds

-- name AS SELECT ..
abbrev pub opened : Form Statement
opened = As (λ f. OpenCursor f.0 f.1) (name & (word "as" ∷ word "select" ∷ []) ▸ select)

-- name integer
abbrev pub units : Form (List ℕ × Number)
units = name & number
