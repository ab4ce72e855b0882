-- The moves of a layout: a mutation is put, a memtable is frozen, what isn't flushed becomes a file, a table is created, an index is
-- defined, a number is drawn, and some files become one.
use Rattle.std.specs.Prelude.{◌≡◌, ℕ, suc, ◌+◌, min, nat_eq, if◌then◌else◌, List, [], ◌∷◌, ◌++◌, length, Option, None, Some, ⊤}
use Rattle.std.specs.FinMap as map_
use Rattle.sasi_types.specs.declared.partitioner.Partitioner.{Partitioner}
use Rattle.std.specs.Option.{option_map_or}
use Rattle.sasi_cells.specs.Maps.{merged, put}
use Rattle.sasi_cells.specs.Mutations.{state_with_mutation}
use Rattle.sasi_cells.specs.declared.mutation.Mutation.{Mutation}
use Rattle.sasi_types.specs.declared.index_def.IndexDef.{IndexDef}
use Rattle.sasi_model.specs.Abbreviations.{kind_of}
use Rattle.sasi_model.specs.Changes.{at_number, state_with_index, with_new_table}
use Rattle.sasi_model.specs.State.{Definition, Index, State, decorated, with_index}
use Rattle.sasi_manifest.specs.declared.edit.Edit.{Edit}
use Rattle.sasi_manifest.specs.declared.edit.Edit.TheVariants.{CreateTable, Replace}
use Rattle.sasi_manifest.specs.declared.files.ListedFile.{ListedFile}
use Rattle.sasi_manifest.specs.declared.files.PartNumber.{PartNumber}
use Rattle.sasi_manifest.specs.Edits.{encoded}
use Rattle.sasi_manifest.specs.Listings.{index_edit}
use Rattle.sasi_layout.specs.Compacting.{Compaction, IsRunning, compact_parts, compact_table, listed_output}
use Rattle.sasi_layout.specs.Layout.{File, Layout, TableParts, rising_numbers, drawn, numbered, unflushed}

-- the first, and else the second
abbrev pub or_else : Option ℕ → Option ℕ → Option ℕ
or_else None b = b
or_else (Some a) b = Some a

-- ---- put

abbrev pub put_table : Partitioner → ℕ → Mutation → TableParts → TableParts
put_table partitioner last m t = record t { first = or_else t.first (Some last); memtable = put t.memtable (decorated partitioner m.key) m.change }

-- a mutation is merged into its table's memtable
abbrev pub after_put : Mutation → Layout → Layout
after_put m l = record l { tables = at_number 1 m.table (put_table l.partitioner l.last m) l.tables }

-- ---- freeze

abbrev pub freeze_table : TableParts → TableParts
freeze_table t = record t { frozen = t.frozen ++ t.memtable ∷ []; memtable = map_.empty }

-- the table's memtable is one of the frozen maps, and a new one is empty
abbrev pub after_freeze : ℕ → Layout → Layout
after_freeze table l = record l { tables = at_number 1 table freeze_table l.tables }

-- ---- flush

-- the file of a flush, as the manifest lists it, with these parts of indexes
abbrev pub new_listed_file : ℕ → List PartNumber → ListedFile
new_listed_file number parts = record { number = number; parts = parts }

-- the parts that a flush of the table draws after the last used one: one for each index whose file it writes, in the order of their numbers
abbrev pub parts_drawn : ℕ → TableParts → List PartNumber
parts_drawn part t = drawn part (rising_numbers t)

-- those that a flush of the table with this number draws
abbrev pub flush_parts : ℕ → Layout → List PartNumber
flush_parts table l = option_map_or (parts_drawn l.used.part) (numbered 1 table l.tables) []

-- the file of what isn't flushed
abbrev pub flushed_file : ℕ → ℕ → TableParts → File
flushed_file number part t = record { listed = new_listed_file number (parts_drawn part t); holds = merged (unflushed t) }

abbrev pub flush_table : ℕ → ℕ → ℕ → TableParts → TableParts
flush_table number part last t = record t { since = last; first = None; files = t.files ++ flushed_file number part t ∷ []; frozen = []; memtable = map_.empty }

-- the lesser of two segments, if there is one
abbrev pub lesser : Option ℕ → ℕ → ℕ
lesser None n = n
lesser (Some m) n = min m n

-- the least segment that has a mutation of another table, and else the new one
abbrev pub floor_without : ℕ → ℕ → ℕ → List TableParts → ℕ
floor_without n table last [] = last
floor_without n table last (t ∷ ts) = if nat_eq n table then floor_without (suc n) table last ts else lesser t.first (floor_without (suc n) table last ts)

-- the first live segment after the flush of a table
abbrev pub next_floor : ℕ → Layout → ℕ
next_floor table l = floor_without 1 table (suc l.last) l.tables

-- the manifest's record of it
abbrev pub flush_edits : ℕ → Layout → List Edit
flush_edits table l = Replace table [] (new_listed_file (suc l.used.«data») (flush_parts table l) ∷ []) (suc l.last) (next_floor table l) (suc l.last) ∷ []

-- All that isn't flushed of the table becomes a file of the next data number, with index files of the next parts, and the log goes on in its next segment.
abbrev pub after_flush : ℕ → Layout → Layout
after_flush table l = record l {
  floor = next_floor table l;
  last = suc l.last;
  records = l.records + 1;
  length = l.length + (5 + length (encoded (flush_edits table l)));
  tables = at_number 1 table (flush_table (suc l.used.«data») l.used.part (suc l.last)) l.tables;
  used = record l.used { log = suc l.last; «data» = suc l.used.«data»; part = l.used.part + length (flush_parts table l) };
}

-- ---- create

-- a table without parts, whose mutations come in this segment or later
abbrev pub new_parts : Definition → ℕ → TableParts
new_parts d last = record { definition = d; numbers = []; since = last; first = None; files = []; frozen = []; memtable = map_.empty }

-- the manifest's record of a new table
abbrev pub create_edits : Definition → Layout → List Edit
create_edits d l = CreateTable (suc (length l.tables)) d.name d.columns d.key l.last ∷ []

-- there is one more table
abbrev pub after_create : Definition → Layout → Layout
after_create d l = record l { records = l.records + 1; length = l.length + (5 + length (encoded (create_edits d l))); tables = l.tables ++ new_parts d l.last ∷ [] }

-- ---- define

abbrev pub define_table : ℕ → Index → TableParts → TableParts
define_table number index t = record t { definition = with_index index t.definition; numbers = t.numbers ++ number ∷ [] }

-- the index on a table of this number and definition, under a number of its own
abbrev pub index_def : ℕ → ℕ → Index → Definition → IndexDef
index_def number table index d = record { number = number; table = table; name = index.name; column = index.column; kind = kind_of d index.column; mode = index.mode; rule = index.rule }

-- the manifest's record of it
abbrev pub define_edits : ℕ → Index → Layout → List Edit
define_edits table index l = option_map_or (λ t. index_edit (index_def (suc l.used.index) table index t.definition) ∷ []) (numbered 1 table l.tables) []

-- an index is defined on the table, under the next index number
abbrev pub after_define : ℕ → Index → Layout → Layout
after_define table index l = record l {
  records = l.records + 1;
  length = l.length + (5 + length (encoded (define_edits table index l)));
  tables = at_number 1 table (define_table (suc l.used.index) index) l.tables;
  used = record l.used { index = suc l.used.index };
}

-- ---- draw

-- the next data number is drawn: a compaction begins, and its file has none yet
abbrev pub after_draw : Layout → Layout
after_draw l = record l { used = record l.used { «data» = suc l.used.«data» } }

-- ---- compact

-- what is asked of the table of a compaction, if it is there
abbrev pub of_table : {A : Type 0} → Compaction → Layout → (TableParts → List A) → List A
of_table c l ask = option_map_or ask (numbered 1 c.table l.tables) []

-- the manifest's record of its last unit
abbrev pub compact_edits : Compaction → Layout → List Edit
compact_edits c l = of_table c l (λ t. Replace c.table c.sources (listed_output l.used.part c t.numbers ∷ []) t.since l.floor l.last ∷ [])

-- the parts that it draws
abbrev pub parts_of_compaction : Compaction → Layout → List PartNumber
parts_of_compaction c l = of_table c l (λ t. compact_parts l.used.part c t.numbers)

-- one file stands in the place of those that it takes in
abbrev pub after_compact : Compaction → Layout → Layout
after_compact c l = record l {
  records = l.records + 1;
  length = l.length + (5 + length (encoded (compact_edits c l)));
  tables = at_number 1 c.table (compact_table l.used.part c) l.tables;
  used = record l.used { part = l.used.part + length (parts_of_compaction c l) };
}

-- ---- moves

pub data Move : Type 0 where
  Put : Mutation → Move
  -- the number of the table
  Freeze : ℕ → Move
  -- the number of the table
  Flush : ℕ → Move
  Create : Definition → Move
  -- the number of the table, and its new index
  Define : ℕ → Index → Move
  Draw : Move
  Compact : Compaction → Move

abbrev pub moved : Move → Layout → Layout
moved (Put m) l = after_put m l
moved (Freeze table) l = after_freeze table l
moved (Flush table) l = after_flush table l
moved (Create d) l = after_create d l
moved (Define table index) l = after_define table index l
moved Draw l = after_draw l
moved (Compact c) l = after_compact c l

abbrev pub after_moves : List Move → Layout → Layout
after_moves [] l = l
after_moves (m ∷ ms) l = after_moves ms (moved m l)

-- what a move does to the state
abbrev pub moved_state : Move → State → State
moved_state (Put m) s = state_with_mutation s m
moved_state (Freeze table) s = s
moved_state (Flush table) s = s
moved_state (Create d) s = with_new_table s d
moved_state (Define table index) s = state_with_index s table index
moved_state Draw s = s
moved_state (Compact c) s = s

abbrev pub states : List Move → State → State
states [] s = s
states (m ∷ ms) s = states ms (moved_state m s)

-- ---- legal moves

-- a new table has no index, and a compaction takes in the first files of its table
abbrev pub IsLegal : Move → Layout → Type 0
IsLegal (Put m) l = ⊤
IsLegal (Freeze table) l = ⊤
IsLegal (Flush table) l = ⊤
IsLegal (Create d) l = d.indexes ≡ []
IsLegal (Define table index) l = ⊤
IsLegal Draw l = ⊤
IsLegal (Compact c) l = IsRunning c l

abbrev pub AreLegal : List Move → Layout → Type 0
AreLegal [] l = ⊤
AreLegal (m ∷ ms) l = IsLegal m l × AreLegal ms (moved m l)

-- ---- records

-- the edits of the manifest's record of a move; none where it lists nothing
abbrev pub move_edits : Layout → Move → List Edit
move_edits l (Put m) = []
move_edits l (Freeze table) = []
move_edits l (Flush table) = flush_edits table l
move_edits l (Create d) = create_edits d l
move_edits l (Define table index) = define_edits table index l
move_edits l Draw = []
move_edits l (Compact c) = compact_edits c l
