-- The compactions that run in a store, over its layout: what a statement makes of them, and which moves the layout makes of it.
use Rattle.std.specs.Prelude.{ℕ, ◌+◌, ◌-◌, Bool, not, nat_eq, nat_le, nat_lt, if◌then◌else◌, List, [], ◌∷◌, ◌++◌, length, map, Option}
use Rattle.std.specs.FinMap as map_
use Rattle.std.specs.List.{filter, find}
use Rattle.std.specs.Option.{option_map_or}
use Rattle.sasi_cells.specs.Maps.{merged}
use Rattle.sasi_model.specs.Abbreviations.{Partitions}
use Rattle.sasi_layout.specs.Compacting.{Compaction, begun, chosen}
use Rattle.sasi_layout.specs.Layout.{File, Layout, TableParts, numbered, rising_numbers}
use Rattle.sasi_layout.specs.Moves.{Compact, Draw, Move, after_moves}

-- a compaction, and how many keys of the merge of its sources it has passed
pub record Task : Type 0 where
  pub compaction : Compaction
  pub passed : ℕ

abbrev pub is_of : ℕ → Task → Bool
is_of table k = nat_eq k.compaction.table table

-- the one that runs in the table with this number, if one does
abbrev pub running : ℕ → List Task → Option Task
running table = find (is_of table)

-- the others
abbrev pub without : ℕ → List Task → List Task
without table = filter (λ k. not (is_of table k))

-- ---- keys

-- the merge of the sources of a compaction
abbrev pub source_map : Compaction → Layout → Partitions
source_map c l = option_map_or (λ (t : TableParts). merged (map (λ (f : File). f.holds) (chosen c.sources t.files))) (numbered 1 c.table l.tables) map_.empty

-- how many keys are left to pass
abbrev pub keys_left : Layout → Task → ℕ
keys_left l k = length (map_.entries (source_map k.compaction l)) - k.passed

-- ---- BEGIN COMPACT

-- a table with two files at least is compacted; this number was used last
abbrev pub begun_in : ℕ → ℕ → TableParts → List Task
begun_in used table t = if nat_le 2 (length t.files) then record { compaction = begun used table t (rising_numbers t); passed = 0 } ∷ [] else []

-- what is begun in the table with this number where none runs there
abbrev pub task_begun : ℕ → Layout → List Task
task_begun table l = option_map_or (begun_in l.used.«data» table) (numbered 1 table l.tables) []

-- and where one may
abbrev pub begins : ℕ → Layout → List Task → List Task
begins table l tasks = option_map_or (λ (k : Task). []) (running table tasks) (task_begun table l)

-- its number is drawn then
abbrev pub begin_moves : ℕ → Layout → List Task → List Move
begin_moves table l tasks = map (λ (k : Task). Draw) (begins table l tasks)

abbrev pub tasks_begun : ℕ → Layout → List Task → List Task
tasks_begun table l tasks = tasks ++ begins table l tasks

-- ---- STEP COMPACT

-- **Each unit passes the next key, and one more, the last, makes the file of the compaction one of the table.**
abbrev pub ends_in : ℕ → Layout → Task → Bool
ends_in units l k = nat_lt (keys_left l k) units

abbrev pub step_moves : ℕ → ℕ → Layout → List Task → List Move
step_moves table units l tasks = option_map_or (λ (k : Task). if ends_in units l k then Compact k.compaction ∷ [] else []) (running table tasks) []

-- so many units further, where the last isn't among them
abbrev pub advanced : ℕ → ℕ → Layout → List Task → List Task
advanced table units l [] = []
advanced table units l (k ∷ ks) =
    if is_of table k then (if ends_in units l k then ks else record k { passed = k.passed + units } ∷ ks) else k ∷ advanced table units l ks

-- ---- COMPACT

-- what is left of the running one
abbrev pub end_moves : ℕ → List Task → List Move
end_moves table tasks = option_map_or (λ (k : Task). Compact k.compaction ∷ []) (running table tasks) []

-- then one of all files, where there are two at least
abbrev pub whole_moves : ℕ → Layout → List Move
whole_moves table l = option_map_or (λ (k : Task). Draw ∷ Compact k.compaction ∷ []) (find (is_of table) (task_begun table l)) []

abbrev pub compact_moves : ℕ → Layout → List Task → List Move
compact_moves table l tasks = end_moves table tasks ++ whole_moves table (after_moves (end_moves table tasks) l)
