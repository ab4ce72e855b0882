-- Changes of a state by the numbers of its tables, as the commit log has them: a new table, or a change that is merged into
-- the partition of a key.
use Rattle.std.specs.Prelude.{ℕ, zero, suc, nat_eq, if◌then◌else◌, List, [], ◌∷◌, ◌++◌}
use Rattle.std.specs.FinMap as map_
use Rattle.sasi_types.specs.declared.decorated_key.DecoratedKey.{DecoratedKey}
use Rattle.sasi_model.specs.Cells.{Partition}
use Rattle.sasi_model.specs.State.{Definition, Index, State, Table, apply, with_index}

-- the empty table of this definition
abbrev pub empty_table : Definition → Table
empty_table d = record { definition = d; partitions = map_.empty }

-- the state with one more table
abbrev pub with_new_table : State → Definition → State
with_new_table s d = record s { tables = s.tables ++ empty_table d ∷ [] }

-- the tables after a change of a partition of the table at this index
abbrev pub changed_behind : ℕ → DecoratedKey → Partition → List Table → List Table
changed_behind before decorated_key change [] = []
changed_behind zero decorated_key change (t ∷ ts) = apply decorated_key change t ∷ ts
changed_behind (suc before) decorated_key change (t ∷ ts) = t ∷ changed_behind before decorated_key change ts

-- the tables after a change of a partition of the table with this number, from 1
abbrev pub changed_tables : ℕ → DecoratedKey → Partition → List Table → List Table
changed_tables zero decorated_key change ts = ts
changed_tables (suc before) decorated_key change ts = changed_behind before decorated_key change ts

-- the state after a change of a partition of the table with this number
abbrev pub after_change : State → ℕ → DecoratedKey → Partition → State
after_change s number decorated_key change = record s { tables = changed_tables number decorated_key change s.tables }

-- ---- indexes

-- the list with the item of this number changed, from the number of its first item on
abbrev pub at_number : {A : Type 0} → ℕ → ℕ → (A → A) → List A → List A
at_number n number change [] = []
at_number n number change (x ∷ xs) = (if nat_eq n number then change x else x) ∷ at_number (suc n) number change xs

abbrev pub table_with_index : Index → Table → Table
table_with_index index t = record t { definition = with_index index t.definition }

-- the state with one index more on the table with this number
abbrev pub state_with_index : State → ℕ → Index → State
state_with_index s number index = record s { tables = at_number 1 number (table_with_index index) s.tables }
