-- The moves of a statement, and what is left where memory runs out between them.
use Rattle.std.specs.Prelude.{◌≡◌, Bool, true, false, not, ℕ, List, [], ◌++◌, None, Some}
use Rattle.sasi_types.specs.declared.partitioner.Partitioner.{Partitioner}
use Rattle.sasi_types.specs.declared.statement.Statement.{Statement}
use Rattle.sasi_types.specs.declared.statement.Statement.TheVariants.{CreateTable, CreateIndex, Insert, Update, Delete, Flush}
use Rattle.sasi_cells.specs.declared.mutation.Mutation.{Mutation}
use Rattle.sasi_layout.specs.Layout.{Layout}
use Rattle.sasi_layout.specs.Moves.{Move, after_moves, or_else}
use Rattle.sasi_layout.specs.Statements.{known_in, moves_asked}
use Rattle.sasi_machine.specs.Prepares.{asked_by}
use Rattle.sasi_machine.specs.declared.prepared.Prepared.{Prepared}
use Rattle.sasi_memtable.specs.MemtableView.{empty_memtable, with_change}
use Rattle.sasi_model.specs.Asked.{parsed_asks}
use Rattle.sasi_model.specs.Parsers.{Parses}
use Rattle.sasi_model.specs.Refusals.{piece_parsed}
use Rattle.sasi_machine_layout.specs.declared.contents.TableContents.{TableContents}

-- **The moves that a layout makes of a statement**: those of a piece that says it; a statement that is refused has none
abbrev pub statement_moves : Layout → Statement → List Move
statement_moves l statement = moves_asked l (parsed_asks (known_in l) (piece_parsed (Parses statement)))

-- some first part of the moves is made, and none of the others
pub record IsMadeInPart (moves : List Move) (old new : Layout) : Type 0 where
  pub done : List Move
  pub rest : List Move
  pub parts : moves ≡ done ++ rest
  pub new_is : new ≡ after_moves done old

-- The statement is built, and one of those that may have a move. COMPACT, BEGIN COMPACT and STEP COMPACT ask for no change of the tables, so they have none.
abbrev pub asks_change : Statement → Bool
asks_change (CreateTable table columns keys) = true
asks_change (CreateIndex name table column class options stepped) = not stepped
asks_change (Insert table columns values time) = true
asks_change (Update table time sets key value) = true
asks_change (Delete table columns time key value) = true
asks_change (Flush table) = true
asks_change statement = false

-- ---- of what was prepared

abbrev pub prepared_moves : Layout → Prepared → List Move
prepared_moves l prepared = moves_asked l (asked_by prepared)

-- ---- of one table

-- the mutation is merged into the memtable, and its segment is the first if there was none
pub record IsPut (last : ℕ) (w : Mutation) (old new : TableContents) : Type 0 where
  pub since_is : new.since ≡ old.since
  pub first_is : new.first ≡ or_else old.first (Some last)
  pub files_are : new.files ≡ old.files
  pub memtable_is : new.memtable ≡ with_change old.memtable w.key w.change

-- nothing is held of the table, and its mutations come in this segment or later
pub record IsFresh (partitioner : Partitioner) (last : ℕ) (new : TableContents) : Type 0 where
  pub since_is : new.since ≡ last
  pub first_is : new.first ≡ None
  pub files_are : new.files.items ≡ []
  pub memtable_is : new.memtable ≡ empty_memtable partitioner
