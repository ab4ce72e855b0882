-- Refusals, as the model's, and what their lines are made of.
use Rattle.std.specs.Prelude.{ℕ, List, [], ◌∷◌, codes, Option, None, Some}
use Rattle.sasi_schema.specs.Faults.{limit_refusal}
use Rattle.sasi_schema.specs.declared.fault.Limit.TheVariants.{Tables, Columns}
use Rattle.sasi_model.specs.Refusals as rules
use Rattle.sasi_model.specs.Abbreviations as model
use Rattle.sasi_machine.specs.declared.refusal.Refusal.{Refusal}
use Rattle.sasi_machine.specs.declared.refusal.Refusal.TheVariants.{Syntax, StatementTooLong, NotUtf8, NoTable, TableExists, NoColumn, ColumnRepeated, WrongType, NumberRange, LimitRange, KeyMissing, KeyEmpty, ValueTooLong, IndexExists, BadOption, BadUsing, ModeType, OperatorUnsupported, LikeEmpty, NeedsFiltering, TimestampRange, ClockSpent, TooMany, TooManyRelations, CursorExists, NoCursor, TooManyCursors, FetchRange, StepRange, ScriptEnds, NotBuilt}

-- the model's refusal of that name
abbrev pub refusal_of : Refusal → rules.Refusal
refusal_of (Syntax offset) = model.Syntax offset
refusal_of StatementTooLong = model.StatementTooLong
refusal_of (NotUtf8 offset) = model.NotUtf8 offset
refusal_of (NoTable name) = model.NoTable name
refusal_of (TableExists name) = model.TableExists name
refusal_of (NoColumn name) = model.NoColumn name
refusal_of (ColumnRepeated name) = model.ColumnRepeated name
refusal_of (WrongType column) = model.WrongType column
refusal_of (NumberRange column) = model.NumberRange column
refusal_of LimitRange = model.LimitRange
refusal_of (KeyMissing column) = model.KeyMissing column
refusal_of (KeyEmpty column) = model.KeyEmpty column
refusal_of (ValueTooLong column) = model.ValueTooLong column
refusal_of (IndexExists name) = model.IndexExists name
refusal_of (BadOption option) = model.BadOption option
refusal_of BadUsing = model.BadUsing
refusal_of (ModeType column) = model.ModeType column
refusal_of (OperatorUnsupported column) = model.OperatorUnsupported column
refusal_of (LikeEmpty column) = model.LikeEmpty column
refusal_of NeedsFiltering = model.NeedsFiltering
refusal_of TimestampRange = model.TimestampRange
refusal_of ClockSpent = model.ClockSpent
refusal_of (TooMany limit) = limit_refusal limit
refusal_of TooManyRelations = model.TooManyRelations
refusal_of (CursorExists cursor) = model.CursorExists cursor
refusal_of (NoCursor cursor) = model.NoCursor cursor
refusal_of TooManyCursors = model.TooManyCursors
refusal_of FetchRange = model.FetchRange
refusal_of StepRange = model.StepRange
refusal_of ScriptEnds = model.ScriptEnds
refusal_of NotBuilt = model.NotBuilt

-- ---- what stands after the name of a refusal, where it isn't an offset

-- an option that is an empty text isn't shown
abbrev pub option_shown : List ℕ → Option (List ℕ)
option_shown [] = None
option_shown (b ∷ bs) = Some (b ∷ bs)

-- the name or the option that it is about
abbrev pub name_in : Refusal → Option (List ℕ)
name_in (NoTable name) = Some name
name_in (TableExists name) = Some name
name_in (NoColumn name) = Some name
name_in (ColumnRepeated name) = Some name
name_in (WrongType name) = Some name
name_in (NumberRange name) = Some name
name_in (KeyMissing name) = Some name
name_in (KeyEmpty name) = Some name
name_in (ValueTooLong name) = Some name
name_in (IndexExists name) = Some name
name_in (ModeType name) = Some name
name_in (OperatorUnsupported name) = Some name
name_in (LikeEmpty name) = Some name
name_in (CursorExists name) = Some name
name_in (NoCursor name) = Some name
name_in (BadOption option) = option_shown option
name_in refusal = None

-- words that are always the same, or none
abbrev pub words_in : Refusal → List ℕ
words_in StatementTooLong = codes "1048576"
words_in LimitRange = codes "LIMIT"
words_in BadUsing = codes "using"
words_in (TooMany Tables) = codes "tables 256"
words_in (TooMany Columns) = codes "columns 64"
words_in TooManyRelations = codes "relations 32"
words_in TooManyCursors = codes "cursors 64"
words_in FetchRange = codes "FETCH"
words_in StepRange = codes "STEP"
words_in refusal = []
