-- What the moves leave of the state.
use Rattle.std.specs.Prelude.{◌≡◌, ◌+◌, ℕ, zero, suc, true, false, cond, nat_eq, List, [], ◌∷◌, ◌++◌, map, refl}
use Rattle.std.proofs.Common.{sym, ap, ◌∙◌, arith, append_assoc}
use Rattle.std.proofs.lemmas.Bool.Decides.{nat_tests}
use Rattle.std.proofs.lemmas.List.{map-append}
use Rattle.std.specs.FinMap as map_
use Rattle.sasi_types.specs.declared.partitioner.Partitioner.{Partitioner}
use Rattle.sasi_types.specs.declared.decorated_key.DecoratedKey.{DecoratedKey}
use Rattle.sasi_cells.specs.Maps.{merged, put}
use Rattle.sasi_cells.specs.Mutations.{state_with_mutation}
use Rattle.sasi_cells.specs.declared.mutation.Mutation.{Mutation}
use Rattle.sasi_cells.proofs.Laws.Maps.{merged_apart, merged_onto_both, put_merged, replaced_last}
use Rattle.sasi_cells.proofs.Laws.Maps as maps
use Rattle.sasi_model.specs.Cells.{Partition}
use Rattle.sasi_model.specs.Changes.{at_number, changed_behind, changed_tables, state_with_index, table_with_index, with_new_table}
use Rattle.sasi_model.specs.State.{Definition, Index, State, Table, apply, decorated}
use Rattle.sasi_model.specs.Abbreviations.{Partitions}
use Rattle.sasi_manifest.specs.ListedDefinition.{ListedDefinition}
use Rattle.sasi_manifest.proofs.Replacing.{unchanged}
use Rattle.sasi_layout.specs.Layout.{File, Layout, TableParts, bare, bare_table, listed_of, listing_of, state_of, table_of, unflushed}
use Rattle.sasi_layout.specs.Moves.{Compact, Create, Define, Draw, Flush, Freeze, Move, Put, AreLegal, IsLegal, after_create, after_define, define_table, after_flush, after_freeze, after_moves, after_put, flush_table, flushed_file, freeze_table, moved, moved_state, new_parts, put_table, states}
use Rattle.sasi_layout.specs.NumbersInOrder.{HasNumbersInOrder}
use Rattle.sasi_layout.proofs.CompactLaws.{compact_state}
use Rattle.sasi_layout.proofs.MovesInOrder.{moved_in_order}
use Rattle.sasi_layout.proofs.Numbered.{seen_at, seen_twice, unseen_at}

-- ---- a put

behind_is : (key : DecoratedKey) (change : Partition) (before n number : ℕ) (ts : List Table) → number ≡ n + before → at_number n number (apply key change) ts ≡ changed_behind before key change ts
behind_is key change before n number [] is = refl
behind_is key change zero n number (t ∷ ts) is =
    let here : nat_eq n number ≡ true = grind (arith, nat_tests) in
    ap (λ b. cond b (apply key change t) t ∷ at_number (suc n) number (apply key change) ts) here ∙ ap (λ (l : List Table). apply key change t ∷ l) (unchanged (suc n) number (apply key change) ts (omega (arith, is)))
behind_is key change (suc before) n number (t ∷ ts) is =
    let other : nat_eq n number ≡ false = grind (arith, nat_tests) in
    ap (λ b. cond b (apply key change t) t ∷ at_number (suc n) number (apply key change) ts) other ∙ ap (λ (l : List Table). t ∷ l) (behind_is key change before (suc n) number ts (omega (arith, is)))

pub changed_is : (key : DecoratedKey) (change : Partition) (number : ℕ) (ts : List Table) → at_number 1 number (apply key change) ts ≡ changed_tables number key change ts
changed_is key change zero ts = unchanged 1 zero (apply key change) ts (omega arith)
changed_is key change (suc before) ts = behind_is key change before 1 (suc before) ts (omega arith)

put_seen : (p : Partitioner) (last : ℕ) (m : Mutation) (t : TableParts) → table_of (put_table p last m t) ≡ apply (decorated p m.key) m.change (table_of t)
put_seen p last m t =
    let files : List Partitions = map (λ (f : File). f.holds) t.files in
    let key : DecoratedKey = decorated p m.key in
    ap (λ (k : Partitions). record { definition = t.definition; partitions = k }) (
    ap (λ (l : List Partitions). merged l) (sym (append_assoc files t.frozen (put t.memtable key m.change ∷ [])))
    ∙ put_merged map_.empty (files ++ t.frozen) t.memtable key m.change
    ∙ ap (λ (l : List Partitions). put (merged l) key m.change) (append_assoc files t.frozen (t.memtable ∷ [])))

-- A put is a change of the state.
pub put_state : (m : Mutation) (l : Layout) → state_of (after_put m l) ≡ state_with_mutation (state_of l) m
put_state m l = ap (λ (ts : List Table). record { partitioner = l.partitioner; tables = ts }) (
    seen_at table_of (put_table l.partitioner l.last m) (apply (decorated l.partitioner m.key) m.change) (put_seen l.partitioner l.last m) 1 m.table l.tables
    ∙ changed_is (decorated l.partitioner m.key) m.change m.table (map table_of l.tables))

-- ---- a freeze

freeze_seen : (t : TableParts) → table_of (freeze_table t) ≡ table_of t
freeze_seen t =
    let files : List Partitions = map (λ (f : File). f.holds) t.files in
    let maps_are : merged (files ++ ((t.frozen ++ t.memtable ∷ []) ++ map_.empty ∷ [])) ≡ merged (files ++ (t.frozen ++ t.memtable ∷ [])) =
    ap (λ (l : List Partitions). merged l) (sym (append_assoc files (t.frozen ++ t.memtable ∷ []) (map_.empty ∷ [])))
    ∙ merged_onto_both map_.empty (files ++ (t.frozen ++ t.memtable ∷ [])) (map_.empty ∷ [])
    ∙ maps.then_empty (merged (files ++ (t.frozen ++ t.memtable ∷ []))) in
    ap (λ (k : Partitions). record { definition = t.definition; partitions = k }) maps_are

pub freeze_state : (table : ℕ) (l : Layout) → state_of (after_freeze table l) ≡ state_of l
freeze_state table l = ap (λ (ts : List Table). record { partitioner = l.partitioner; tables = ts }) (unseen_at table_of freeze_table freeze_seen 1 table l.tables)

-- ---- a flush

flush_seen : (number part last : ℕ) (t : TableParts) → table_of (flush_table number part last t) ≡ table_of t
flush_seen number part last t =
    let files : List Partitions = map (λ (f : File). f.holds) t.files in
    ap (λ (k : Partitions). record { definition = t.definition; partitions = k }) (
    ap (λ (l : List Partitions). merged (l ++ map_.empty ∷ [])) (map-append (λ (f : File). f.holds) t.files (flushed_file number part t ∷ []))
    ∙ sym (replaced_last map_.empty files (unflushed t)))

-- A flush leaves the state.
pub flush_state : (table : ℕ) (l : Layout) → state_of (after_flush table l) ≡ state_of l
flush_state table l = ap (λ (ts : List Table). record { partitioner = l.partitioner; tables = ts }) (unseen_at table_of (flush_table (suc l.used.«data») l.used.part (suc l.last)) (flush_seen (suc l.used.«data») l.used.part (suc l.last)) 1 table l.tables)

-- ---- a new table

new_seen : (d : Definition) (last : ℕ) → table_of (new_parts d last) ≡ record { definition = d; partitions = map_.empty }
new_seen d last = ap (λ (k : Partitions). record { definition = d; partitions = k }) (maps.then_empty map_.empty)

pub create_state : (d : Definition) (l : Layout) → state_of (after_create d l) ≡ with_new_table (state_of l) d
create_state d l = ap (λ (ts : List Table). record { partitioner = l.partitioner; tables = ts })
    (map-append table_of l.tables (new_parts d l.last ∷ []) ∙ ap (λ (t : Table). map table_of l.tables ++ t ∷ []) (new_seen d l.last))

-- ---- an index

pub define_state : (table : ℕ) (index : Index) (l : Layout) → state_of (after_define table index l) ≡ state_with_index (state_of l) table index
define_state table index l = ap (λ (ts : List Table). record { partitioner = l.partitioner; tables = ts })
    (seen_at table_of (define_table (suc l.used.index) index) (table_with_index index) (λ t. refl) 1 table l.tables)

-- ---- moves

pub moved_is : (m : Move) (l : Layout) → IsLegal m l → HasNumbersInOrder l → state_of (moved m l) ≡ moved_state m (state_of l)
moved_is (Put m) l legal in_order = put_state m l
moved_is (Freeze table) l legal in_order = freeze_state table l
moved_is (Flush table) l legal in_order = flush_state table l
moved_is (Create d) l legal in_order = create_state d l
moved_is (Define table index) l legal in_order = define_state table index l
moved_is Draw l legal in_order = refl
moved_is (Compact c) l legal in_order = compact_state c l legal

-- The state after moves is that of the moves.
pub moves_state : (ms : List Move) (l : Layout) → AreLegal ms l → HasNumbersInOrder l → state_of (after_moves ms l) ≡ states ms (state_of l)
moves_state [] l legal in_order = refl
moves_state (m ∷ ms) l legal in_order = moves_state ms (moved m l) legal.1 (moved_in_order m l legal.0 in_order) ∙ ap (λ (s : State). states ms s) (moved_is m l legal.0 in_order)

pub moves_both : (ms ns : List Move) (l : Layout) → after_moves (ms ++ ns) l ≡ after_moves ns (after_moves ms l)
moves_both [] ns l = refl
moves_both (m ∷ ms) ns l = moves_both ms ns (moved m l)

-- ---- bare

bare_seen : (t : TableParts) → table_of (bare_table t) ≡ table_of t
bare_seen t =
    let files : List Partitions = map (λ (f : File). f.holds) t.files in
    ap (λ (k : Partitions). record { definition = t.definition; partitions = k }) (
    merged_onto_both map_.empty files (merged (unflushed t) ∷ [])
    ∙ sym (merged_apart (merged files) (unflushed t))
    ∙ sym (merged_onto_both map_.empty files (unflushed t)))

-- What a crash leaves of a layout has its state.
pub bare_state : (l : Layout) → state_of (bare l) ≡ state_of l
bare_state l = ap (λ (ts : List Table). record { partitioner = l.partitioner; tables = ts }) (seen_twice bare_table table_of bare_seen l.tables)

pub bare_listing : (l : Layout) → listing_of (bare l) ≡ listing_of l
bare_listing l = ap (λ (ts : List ListedDefinition). record { partitioner = l.partitioner; floor = l.floor; last = l.last; records = l.records; length = l.length; tables = ts }) (seen_twice bare_table listed_of (λ t. refl) l.tables)
