-- The state after the moves of a piece is that of the model's step.
use Rattle.std.specs.Prelude.{◌≡◌, ◌≤◌, ℕ, suc, Bool, true, false, cond, nat_eq, List, [], ◌∷◌, ◌++◌, map, Option, None, Some, ⊤, refl}
use Rattle.std.proofs.Common.{sym, ap, ◌∙◌, subst, arith}
use Rattle.std.proofs.lemmas.Bool.Decides.{nat_tests}
use Rattle.std.specs.List.{zip}
use Rattle.std.specs.Map.{lookup}
use Rattle.std.specs.Option.{option_and_then, option_map, option_map_or}
use Rattle.sasi_types.specs.declared.decorated_key.DecoratedKey.{DecoratedKey}
use Rattle.sasi_types.specs.declared.literal.Literal.{Literal}
use Rattle.sasi_types.specs.declared.literal.Number.{Number}
use Rattle.sasi_types.specs.declared.partitioner.Partitioner.{Partitioner}
use Rattle.sasi_types.specs.declared.statement.Statement.{Statement}
use Rattle.sasi_types.specs.declared.statement.Statement.TheVariants.{CreateTable, CreateIndex, Insert, Update, Delete, Query, Flush}
use Rattle.sasi_types.specs.declared.value.Value.{Value}
use Rattle.sasi_types.specs.Value.{stored}
use Rattle.sasi_model.specs.Abbreviations.{Partitions, definitions}
use Rattle.sasi_model.specs.Asked.{Asked, NoChange, Creates, Defines, Writes, Flushes, asked_of, define_of, key_given, parsed_asks, state_asked, statement_asks, write_asked, write_of}
use Rattle.sasi_model.specs.Cells.{Partition}
use Rattle.sasi_model.specs.Parsers.{Parser}
use Rattle.sasi_model.specs.Pieces.{Piece}
use Rattle.sasi_model.specs.Refusals.{Bad, Known, Nothing, ParsedPiece, Refusal, Says, known_of, read_by, refusal, rules}
use Rattle.sasi_model.specs.State.{Definition, Index, State, Table, apply, decorated, key_column, max_timestamp, with_table}
use Rattle.sasi_model.specs.Step.{applied, cells_set, decorated_given, delete_change, execute, given_key, index_given, insert_change, primary_key, refused_step, step_as, step_by, tables_after, timestamp, value_given, written}
use Rattle.sasi_model.specs.Tokens.{same}
use Rattle.sasi_model.specs.Changes.{at_number, table_with_index}
use Rattle.sasi_model.specs.Indexes.{IndexOption}
use Rattle.sasi_manifest.proofs.Replacing.{unchanged}
use Rattle.sasi_layout.specs.Layout.{Layout, TableParts, state_of, table_of}
use Rattle.sasi_layout.specs.Moves as moves
use Rattle.sasi_layout.specs.Moves.{AreLegal, Move, after_moves, states}
use Rattle.sasi_layout.specs.Statements.{any_partition, are_full, definitions_of, flush_where, known_in, moves_asked, moves_by}
use Rattle.sasi_layout.specs.NumbersInOrder.{HasNumbersInOrder}
use Rattle.sasi_layout.proofs.LayoutLaws.{changed_is, moves_state}
use Rattle.sasi_layout.proofs.MovesInOrder.{legal_front, moves_in_order}

-- ---- what is asked of a named table

-- the tables after what is asked, where they are numbered from n on
abbrev change_asked : ℕ → Partitioner → Asked → List Table → List Table
change_asked n p NoChange ts = ts
change_asked n p (Creates d) ts = ts
change_asked n p (Defines m index) ts = at_number n m (table_with_index index) ts
change_asked n p (Writes m key change) ts = at_number n m (apply (decorated p key) change) ts
change_asked n p (Flushes m) ts = ts

-- at most a table from n on is changed
abbrev IsLater : ℕ → Asked → Type 0
IsLater n NoChange = ⊤
IsLater n (Creates d) = ⊥
IsLater n (Defines m index) = n ≤ m
IsLater n (Writes m key change) = n ≤ m
IsLater n (Flushes m) = ⊤

lower : (n : ℕ) (a : Asked) → IsLater (suc n) a → IsLater n a
lower n NoChange later = tt
lower n (Creates d) later = later
lower n (Defines m index) later = omega (arith, later)
lower n (Writes m key change) later = omega (arith, later)
lower n (Flushes m) later = tt

-- a change by the number of its table is that of the state
asked_state : (a : Asked) (s : State) → IsLater 1 a → state_asked a s ≡ record s { tables = change_asked 1 s.partitioner a s.tables }
asked_state NoChange s later = refl
asked_state (Creates d) s later = absurd later
asked_state (Defines n index) s later = refl
asked_state (Writes n key change) s later = ap (λ (ts : List Table). record s { tables = ts }) (sym (changed_is (decorated s.partitioner key) change n s.tables))
asked_state (Flushes n) s later = refl

-- the first of the tables is the one of this number
first_changed : (n : ℕ) (f : Table → Table) (t : Table) (ts : List Table) → at_number n n f (t ∷ ts) ≡ f t ∷ ts
first_changed n f t ts =
    let own : nat_eq n n ≡ true = grind (arith, nat_tests) in
    ap (λ b. cond b (f t) t ∷ at_number (suc n) n f ts) own ∙ ap (λ (l : List Table). f t ∷ l) (unchanged (suc n) n f ts (omega arith))

-- or it isn't
first_stays : (n m : ℕ) (f : Table → Table) (t : Table) (ts : List Table) → suc n ≤ m → at_number n m f (t ∷ ts) ≡ t ∷ at_number (suc n) m f ts
first_stays n m f t ts later =
    let other : nat_eq n m ≡ false = grind (arith, nat_tests, later) in
    ap (λ b. cond b (f t) t ∷ at_number (suc n) m f ts) other

past : (n : ℕ) (p : Partitioner) (a : Asked) (t : Table) (ts : List Table) → IsLater (suc n) a → change_asked n p a (t ∷ ts) ≡ t ∷ change_asked (suc n) p a ts
past n p NoChange t ts later = refl
past n p (Creates d) t ts later = refl
past n p (Defines m index) t ts later = first_stays n m (table_with_index index) t ts later
past n p (Writes m k c) t ts later = first_stays n m (apply (decorated p k) c) t ts later
past n p (Flushes m) t ts later = refl

-- what is asked of a table changes that table alone
module _ (p : Partitioner) (name : List ℕ) (ask : ℕ → Definition → Asked) (done : Table → Table)
    (later_ask : (n : ℕ) (d : Definition) → IsLater n (ask n d)) (here : (n : ℕ) (t : Table) (ts : List Table) → change_asked n p (ask n t.definition) (t ∷ ts) ≡ done t ∷ ts) where
  later_asked : (n : ℕ) (ds : List Definition) → IsLater n (asked_of n name ask ds)
  later_asked n [] = tt
  later_asked n (d ∷ ds) =
      elim (same d.name name) as (λ b. IsLater n (cond b (ask n d) (asked_of (suc n) name ask ds))) [
        | true ↦ later_ask n d
        | false ↦ lower n (asked_of (suc n) name ask ds) (later_asked (suc n) ds)
      ]

  named_tables : (n : ℕ) (ts : List Table) → change_asked n p (asked_of n name ask (definitions ts)) ts ≡ with_table name done ts
  named_tables n [] = nothing n
    where
      nothing : (n : ℕ) → change_asked n p NoChange [] ≡ []
      nothing n = refl
  named_tables n (t ∷ ts) =
      let d = t.definition in
      elim (same d.name name) as (λ b. change_asked n p (cond b (ask n d) (asked_of (suc n) name ask (definitions ts))) (t ∷ ts) ≡ cond b (done t ∷ ts) (t ∷ with_table name done ts)) [
        | true ↦ here n t ts
        | false ↦ past n p (asked_of (suc n) name ask (definitions ts)) t ts (later_asked (suc n) (definitions ts)) ∙ ap (λ (l : List Table). t ∷ l) (named_tables (suc n) ts)
      ]

named_state : (s : State) (name : List ℕ) (ask : ℕ → Definition → Asked) (done : Table → Table) → ((n : ℕ) (d : Definition) → IsLater n (ask n d))
    → ((n : ℕ) (t : Table) (ts : List Table) → change_asked n s.partitioner (ask n t.definition) (t ∷ ts) ≡ done t ∷ ts)
    → state_asked (asked_of 1 name ask (definitions s.tables)) s ≡ record s { tables = with_table name done s.tables }
named_state s name ask done later_ask here =
    asked_state (asked_of 1 name ask (definitions s.tables)) s (later_asked s.partitioner name ask done later_ask here 1 (definitions s.tables))
    ∙ ap (λ (ts : List Table). record s { tables = ts }) (named_tables s.partitioner name ask done later_ask here 1 s.tables)

-- ---- a write

module _ (p : Partitioner) (time : Option ℕ) (key : Definition → Option Literal) (change : Definition → ℕ → Partition) where
  abbrev ask_write : ℕ → Definition → Asked
  ask_write n d = write_of n (option_and_then (key_given d) (key d)) (option_map (change d) time)

  later_write : (n : ℕ) (key : Option (List ℕ)) (change : Option Partition) → IsLater n (write_of n key change)
  later_write n None change = tt
  later_write n (Some key) None = tt
  later_write n (Some key) (Some change) = omega arith

  value_key : (value : Option Value) → option_map (λ value. decorated p (stored value)) value ≡ option_map (decorated p) (option_map stored value)
  value_key None = refl
  value_key (Some value) = refl

  keys_are : (d : Definition) (literal : Option Literal) → option_and_then (decorated_given p d) literal ≡ option_map (decorated p) (option_and_then (key_given d) literal)
  keys_are d None = refl
  keys_are d (Some literal) = value_key (option_and_then (λ column. value_given column.1 literal) (key_column d))

  here_by : (n : ℕ) (k : Option (List ℕ)) (c : Option Partition) (t : Table) (ts : List Table) → change_asked n p (write_of n k c) (t ∷ ts) ≡ applied (option_map (decorated p) k) c t ∷ ts
  here_by n None c t ts = refl
  here_by n (Some k) None t ts = refl
  here_by n (Some k) (Some c) t ts = first_changed n (apply (decorated p k) c) t ts

  abbrev done_write : Table → Table
  done_write t = applied (option_and_then (decorated_given p t.definition) (key t.definition)) (option_map (change t.definition) time) t

  here_write : (n : ℕ) (t : Table) (ts : List Table) → change_asked n p (ask_write n t.definition) (t ∷ ts) ≡ done_write t ∷ ts
  here_write n t ts =
      let d = t.definition in
      here_by n (option_and_then (key_given d) (key d)) (option_map (change d) time) t ts
      ∙ ap (λ (k : Option DecoratedKey). applied k (option_map (change d) time) t ∷ ts) (sym (keys_are d (key d)))

write_state : (s : State) (table : List ℕ) (given : Option Number) (key : Definition → Option Literal) (change : Definition → ℕ → Partition)
    → state_asked (write_asked (known_of s) table given key change) s ≡ record s { tables = written s table given key change }
write_state s table given key change =
    let time = timestamp (max_timestamp s) given in
    named_state s table (ask_write s.partitioner time key change) (done_write s.partitioner time key change)
    (λ n d. later_write s.partitioner time key change n (option_and_then (key_given d) (key d)) (option_map (change d) time)) (here_write s.partitioner time key change)

-- ---- an index

later_define : (n : ℕ) (index : Option Index) → IsLater n (define_of n index)
later_define n None = tt
later_define n (Some index) = omega arith

here_define : (n : ℕ) (p : Partitioner) (index : Option Index) (t : Table) (ts : List Table) → change_asked n p (define_of n index) (t ∷ ts) ≡ option_map_or (λ index. table_with_index index t) index t ∷ ts
here_define n p None t ts = refl
here_define n p (Some index) t ts = first_changed n (table_with_index index) t ts

define_state : (s : State) (name : Option (List ℕ)) (table column : List ℕ) (options : List IndexOption)
    → state_asked (asked_of 1 table (λ n d. define_of n (index_given d name table column options)) (definitions s.tables)) s
    ≡ record s { tables = with_table table (λ t. option_map_or (λ index. table_with_index index t) (index_given t.definition name table column options) t) s.tables }
define_state s name table column options =
    named_state s table (λ n d. define_of n (index_given d name table column options)) (λ t. option_map_or (λ index. table_with_index index t) (index_given t.definition name table column options) t)
    (λ n d. later_define n (index_given d name table column options)) (λ n t ts. here_define n s.partitioner (index_given t.definition name table column options) t ts)

-- ---- a statement

flush_asked : (s : State) (n : ℕ) (name : List ℕ) (ds : List Definition) → state_asked (asked_of n name (λ n d. Flushes n) ds) s ≡ s
flush_asked s n name [] = refl
flush_asked s n name (d ∷ ds) =
    elim (same d.name name) as (λ b. state_asked (cond b (Flushes n) (asked_of (suc n) name (λ n d. Flushes n) ds)) s ≡ s) [
      | true ↦ refl
      | false ↦ flush_asked s (suc n) name ds
    ]

statement_state : (s : State) (statement : Statement) → state_asked (statement_asks (known_of s) statement) s ≡ record s { tables = tables_after s statement }
statement_state s (CreateTable table columns keys) = by (primary_key columns keys)
  where
    by : (key : Option ℕ) → state_asked (option_map_or (λ key. Creates (record { name = table; columns = columns; key = key; indexes = [] })) key NoChange) s
        ≡ record s { tables = option_map_or (λ key. (moves.moved_state (moves.Create (record { name = table; columns = columns; key = key; indexes = [] })) s).tables) key s.tables }
    by None = refl
    by (Some key) = refl
statement_state s (CreateIndex name table column class options stepped) = define_state s name table column options
statement_state s (Insert table columns values time) = write_state s table time (λ d. given_key d (zip columns values)) (λ d time. insert_change d time (zip columns values))
statement_state s (Update table time sets key value) = write_state s table time (λ d. Some value) (λ d time. record { deleted = 0; cells = cells_set d time sets })
statement_state s (Delete table columns time key value) = write_state s table time (λ d. Some value) (λ d time. delete_change d time columns)
statement_state s (Query select) = refl
statement_state s (Flush table) = flush_asked s 1 table (definitions s.tables)
statement_state s statement = refl

-- ---- a piece

-- What a piece asks makes the state of the step.
pub parsed_state : (s : State) (parsed : ParsedPiece) → state_asked (parsed_asks (known_of s) parsed) s ≡ (step_as s parsed).state
unfolding refusal
parsed_state s Nothing = refl
parsed_state s (Bad r) = refl
parsed_state s (Says statement) = by (lookup (λ applies. applies) (rules (known_of s) statement))
  where
    by : (refused : Option Refusal) → state_asked (option_map_or (λ r. NoChange) refused (statement_asks (known_of s) statement)) s ≡ (option_map_or (refused_step s) refused (execute s statement)).state
    by None = statement_state s statement
    by (Some r) = refl

-- ---- moves

flush_states : (test : List Partitions → Bool) (table : ℕ) (l : Layout) (s : State) → states (flush_where test table l) s ≡ s
flush_states test table l s = by _
  where
    by : (b : Bool) → states (cond b (moves.Flush table ∷ []) []) s ≡ s
    by true = refl
    by false = refl

-- The moves of what is asked change the state as it is asked.
pub asked_moves : (l : Layout) (a : Asked) (s : State) → states (moves_asked l a) s ≡ state_asked a s
asked_moves l NoChange s = refl
asked_moves l (Creates d) s = refl
asked_moves l (Defines table index) s = refl
asked_moves l (Writes table key change) s = flush_states are_full table (moves.after_put (record { table = table; key = key; change = change }) l) (state_asked (Writes table key change) s)
asked_moves l (Flushes table) s = flush_states any_partition table l s

-- the definitions of a layout's tables are those of its state
pub definitions_are : (l : Layout) → definitions_of l ≡ definitions (state_of l).tables
definitions_are l = same_definitions l.tables
  where
    same_definitions : (ts : List TableParts) → map (λ (t : TableParts). t.definition) ts ≡ definitions (map table_of ts)
    same_definitions [] = refl
    same_definitions (t ∷ ts) = ap (λ (ds : List Definition). t.definition ∷ ds) (same_definitions ts)

-- what a piece is judged by in a layout is what it is judged by in its state
pub known_is : (l : Layout) → known_in l ≡ known_of (state_of l)
known_is l = ap (λ (ds : List Definition). record { tables = ds; max_timestamp = max_timestamp (state_of l) }) (definitions_are l)

-- ---- legal moves

-- what is asked has moves that are legal
abbrev IsLegalAsked : Asked → Type 0
IsLegalAsked NoChange = ⊤
IsLegalAsked (Creates d) = d.indexes ≡ []
IsLegalAsked (Defines n index) = ⊤
IsLegalAsked (Writes n key change) = ⊤
IsLegalAsked (Flushes n) = ⊤

legal_named : (name : List ℕ) (ask : ℕ → Definition → Asked) → ((n : ℕ) (d : Definition) → IsLegalAsked (ask n d)) → (n : ℕ) (ds : List Definition) → IsLegalAsked (asked_of n name ask ds)
legal_named name ask legal n [] = tt
legal_named name ask legal n (d ∷ ds) =
    elim (same d.name name) as (λ b. IsLegalAsked (cond b (ask n d) (asked_of (suc n) name ask ds))) [
      | true ↦ legal n d
      | false ↦ legal_named name ask legal (suc n) ds
    ]

legal_write : (n : ℕ) (key : Option (List ℕ)) (change : Option Partition) → IsLegalAsked (write_of n key change)
legal_write n None change = tt
legal_write n (Some key) None = tt
legal_write n (Some key) (Some change) = tt

legal_define : (n : ℕ) (index : Option Index) → IsLegalAsked (define_of n index)
legal_define n None = tt
legal_define n (Some index) = tt

legal_statement : (known : Known) (statement : Statement) → IsLegalAsked (statement_asks known statement)
legal_statement known (CreateTable table columns keys) = by (primary_key columns keys)
  where
    by : (key : Option ℕ) → IsLegalAsked (option_map_or (λ key. Creates (record { name = table; columns = columns; key = key; indexes = [] })) key NoChange)
    by None = tt
    by (Some key) = refl
legal_statement known (CreateIndex name table column class options stepped) = legal_named table _ (λ n d. legal_define n (index_given d name table column options)) 1 known.tables
legal_statement known (Insert table columns values time) = legal_named table _ (λ n d. legal_write n _ _) 1 known.tables
legal_statement known (Update table time sets key value) = legal_named table _ (λ n d. legal_write n _ _) 1 known.tables
legal_statement known (Delete table columns time key value) = legal_named table _ (λ n d. legal_write n _ _) 1 known.tables
legal_statement known (Query select) = tt
legal_statement known (Flush table) = legal_named table _ (λ n d. tt) 1 known.tables
legal_statement known statement = tt

legal_parsed : (known : Known) (parsed : ParsedPiece) → IsLegalAsked (parsed_asks known parsed)
legal_parsed known Nothing = tt
legal_parsed known (Bad r) = tt
legal_parsed known (Says statement) = by (lookup (λ applies. applies) (rules known statement))
  where
    by : (refused : Option Refusal) → IsLegalAsked (option_map_or (λ r. NoChange) refused (statement_asks known statement))
    by None = legal_statement known statement
    by (Some r) = tt

flush_legal : (test : List Partitions → Bool) (table : ℕ) (l k : Layout) → AreLegal (flush_where test table l) k
flush_legal test table l k = by _
  where
    by : (b : Bool) → AreLegal (cond b (moves.Flush table ∷ []) []) k
    by true = (tt, tt)
    by false = tt

asked_legal : (l : Layout) (a : Asked) → IsLegalAsked a → AreLegal (moves_asked l a) l
asked_legal l NoChange legal = tt
asked_legal l (Creates d) legal = (legal, tt)
asked_legal l (Defines table index) legal = (tt, tt)
asked_legal l (Writes table key change) legal = (tt, flush_legal are_full table (moves.after_put (record { table = table; key = key; change = change }) l) _)
asked_legal l (Flushes table) legal = flush_legal any_partition table l l

-- The moves of a piece are legal.
pub piece_legal : (parser : Parser) (l : Layout) (piece : Piece) → AreLegal (moves_by parser l piece) l
piece_legal parser l piece = asked_legal l (parsed_asks (known_in l) (read_by parser piece)) (legal_parsed (known_in l) (read_by parser piece))

-- ---- a step

-- The state after the moves of a piece is that of the step.
pub step_state_by : (parser : Parser) (l : Layout) (piece : Piece) → HasNumbersInOrder l → state_of (after_moves (moves_by parser l piece) l) ≡ (step_by parser (state_of l) piece).state
unfolding step_by
step_state_by parser l piece in_order =
    let s = state_of l in
    let parsed = read_by parser piece in
    moves_state (moves_by parser l piece) l (piece_legal parser l piece) in_order
    ∙ ap (λ (known : Known). states (moves_asked l (parsed_asks known parsed)) s) (known_is l)
    ∙ asked_moves l (parsed_asks (known_of s) parsed) s
    ∙ parsed_state s parsed

-- and after the first of them it is that of these
pub front_state_by : (parser : Parser) (l : Layout) (piece : Piece) (done rest : List Move) → moves_by parser l piece ≡ done ++ rest → HasNumbersInOrder l → state_of (after_moves done l) ≡ states done (state_of l)
front_state_by parser l piece done rest parts in_order =
    moves_state done l (legal_front done rest l (subst (λ (ms : List Move). AreLegal ms l) parts (piece_legal parser l piece))) in_order

pub step_in_order : (parser : Parser) (l : Layout) (piece : Piece) → HasNumbersInOrder l → HasNumbersInOrder (after_moves (moves_by parser l piece) l)
step_in_order parser l piece in_order = moves_in_order (moves_by parser l piece) l (piece_legal parser l piece) in_order
