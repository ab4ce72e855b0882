-- A store that was opened: what it has in memory is what the folder's shape has.
use Rattle.std.proofs.Common.{◌≡◌, ℕ, suc, ◌<◌, ◌≤◌, ◌^◌, Bool, true, false, cond, List, [], ◌∷◌, ◌++◌, map, refl, sym, ap, ◌∙◌, arith}
use Rattle.std.specs.Prelude.{nat_eq, nat_le}
use Rattle.std.specs.FinMap as map_
use Rattle.std.specs.List.{AllByRecursion}
use Rattle.sasi_types.specs.declared.partitioner.Partitioner.{Partitioner}
use Rattle.sasi_host.specs.Names.{Folder}
use Rattle.sasi_cells.proofs.Laws.Maps.{put_last, then_empty}
use Rattle.sasi_cells.specs.Maps.{merge_maps, merged, put}
use Rattle.sasi_cells.specs.declared.mutation.Mutation.{Mutation}
use Rattle.sasi_model.specs.Abbreviations.{Partitions}
use Rattle.sasi_model.specs.State.{Definition, decorated}
use Rattle.sasi_manifest.specs.Consistent.{FilesRise, HasIndexes, IsConsistent}
use Rattle.sasi_manifest.specs.declared.files.ListedFile.{ListedFile}
use Rattle.sasi_manifest.specs.declared.listing.Listing.{Listing}
use Rattle.sasi_manifest.specs.ListedDefinition.{ListedDefinition}
use Rattle.sasi_manifest.specs.Listings.{largest_index, listed_definitions}
use Rattle.sasi_model.specs.Cells.{largest}
use Rattle.sasi_layout.specs.Layout.{Layout, TableParts, Used, bare, bare_table, largest_data, largest_file, listed_of, listing_of, unflushed}
use Rattle.sasi_layout.specs.Serving.{AreTablesReady, TableInMemory}
use Rattle.sasi_layout.specs.Serving as serving
use Rattle.sasi_layout.specs.Shape.{AreShaped, HasShape, replay, replay_segment}
use Rattle.sasi_layout.specs.NumbersInOrder.{HasFilesInOrder, HasIndexesNumbered, HasNumbersInOrder, Rising}
use Rattle.sasi_recover.specs.declared.opened.TableMap.{TableMap}
use Rattle.sasi_recover.specs.OpenedFolder.{opened_table}
use Rattle.sasi_recover.specs.ReplayState.{AreMapsFrom}
use Rattle.sasi_recover.proofs.PerTable.{maps_of}

-- ---- the layout of a shape is bare

-- nothing in front of a map that a replay made
segment_onto : (p : Partitioner) (table : ℕ) (m : Partitions) (ms : List Mutation) → merge_maps map_.empty (replay_segment p table m ms) ≡ replay_segment p table (merge_maps map_.empty m) ms
segment_onto p table m [] = refl
segment_onto p table m (x ∷ ms) =
    segment_onto p table (cond (nat_eq x.table table) (put m (decorated p x.key) x.change) m) ms
    ∙ ap (λ (k : Partitions). replay_segment p table k ms) (by (nat_eq x.table table))
  where
    by : (b : Bool) → merge_maps map_.empty (cond b (put m (decorated p x.key) x.change) m) ≡ cond b (put (merge_maps map_.empty m) (decorated p x.key) x.change) (merge_maps map_.empty m)
    by true = put_last map_.empty m (decorated p x.key) x.change
    by false = refl

replay_onto : (p : Partitioner) (table since n : ℕ) (m : Partitions) (logs : List (List Mutation)) → merge_maps map_.empty (replay p table since n m logs) ≡ replay p table since n (merge_maps map_.empty m) logs
replay_onto p table since n m [] = refl
replay_onto p table since n m (ms ∷ logs) =
    replay_onto p table since (suc n) (cond (nat_le since n) (replay_segment p table m ms) m) logs
    ∙ ap (λ (k : Partitions). replay p table since (suc n) k logs) (by (nat_le since n))
  where
    by : (b : Bool) → merge_maps map_.empty (cond b (replay_segment p table m ms) m) ≡ cond b (replay_segment p table (merge_maps map_.empty m) ms) (merge_maps map_.empty m)
    by true = segment_onto p table m ms
    by false = refl

from_nothing : (p : Partitioner) (table since n : ℕ) (logs : List (List Mutation)) → merge_maps map_.empty (replay p table since n map_.empty logs) ≡ replay p table since n map_.empty logs
from_nothing p table since n logs = replay_onto p table since n map_.empty logs ∙ ap (λ (k : Partitions). replay p table since n k logs) (then_empty map_.empty)

tables_bare : (x : Folder) (p : Partitioner) (floor n : ℕ) (logs : List (List Mutation)) (ts : List TableParts) → AreShaped x p floor n logs ts → map bare_table ts ≡ ts
tables_bare x p floor n logs [] are = refl
tables_bare x p floor n logs (t ∷ ts) are =
    let idle = are.0.idle in
    let memtable = are.0.memtable in
    let only : merged (unflushed t) ≡ t.memtable = ap (λ (frozen : List Partitions). merged (frozen ++ t.memtable ∷ [])) idle ∙ ap (merge_maps map_.empty) memtable ∙ from_nothing p n t.since floor logs ∙ sym memtable in
    let rest = tables_bare x p floor (suc n) logs ts are.1 in
    λ i. record t { frozen = sym idle i; memtable = only i } ∷ rest i

pub shape_bare : (x : Folder) (l : Layout) (logs : List (List Mutation)) → HasShape x l logs → bare l ≡ l
shape_bare x l logs has =
    let tables = tables_bare x l.partitioner l.floor 1 logs l.tables has.tables in
    let used = has.used in
    λ i. record l { tables = tables i; used = sym used i }

-- ---- in memory

-- the memtables are those of the shape
pub maps_in_memory : (x : Folder) (p : Partitioner) (floor n : ℕ) (logs : List (List Mutation)) (ts : List TableParts) → AreShaped x p floor n logs ts
    → map opened_table (maps_of p floor logs n (map listed_of ts)) ≡ map serving.table_in_memory ts
maps_in_memory x p floor n logs [] are = refl
maps_in_memory x p floor n logs (t ∷ ts) are =
    let rest = maps_in_memory x p floor (suc n) logs ts are.1 in
    let memtable = are.0.memtable in
    let first = are.0.first in
    let idle = are.0.idle in
    λ i. record { first = sym first i; frozen = sym idle i; memtable = sym memtable i } ∷ rest i

pub definitions_are : (ts : List TableParts) → map (λ (t : ListedDefinition). t.definition) (map listed_of ts) ≡ map (λ (t : TableParts). t.definition) ts
definitions_are [] = refl
definitions_are (t ∷ ts) = ap (λ (l : List Definition). t.definition ∷ l) (definitions_are ts)

-- each table in memory is ready
pub tables_ready : (p : Partitioner) (floor last n : ℕ) (ts : List ListedDefinition) (xs : List TableMap) → AreMapsFrom p floor last n ts xs → AreTablesReady p floor last (listed_definitions ts) (map opened_table xs)
tables_ready p floor last n [] [] maps = tt
tables_ready p floor last n [] (x ∷ xs) maps = absurd maps
tables_ready p floor last n (t ∷ ts) [] maps = absurd maps
tables_ready p floor last n (t ∷ ts) (x ∷ xs) maps = (
  record { typed = maps.0.typed; first = maps.0.first; frozen = tt; memtable = maps.0.storable },
  tables_ready p floor last (suc n) ts xs maps.1,
)

-- ---- numbers

files_rising : (above high : ℕ) (fs : List ListedFile) → FilesRise above fs → above ≤ high → largest_file fs ≤ high → Rising above high fs
files_rising above high [] rise low most = low
files_rising above high (f ∷ fs) rise low most = (rise.0, files_rising f.number high fs rise.2 (omega (arith, most)) (omega (arith, most)))

files_fit : (above : ℕ) (fs : List ListedFile) → FilesRise above fs → largest_file fs < 2 ^ 32
files_fit above [] rise = omega arith
files_fit above (f ∷ fs) rise = omega (arith, rise.1, files_fit f.number fs rise.2)

pub data_fits : (ts : List ListedDefinition) → AllByRecursion (λ t. FilesRise 0 t.files) ts → largest_data ts < 2 ^ 32
data_fits [] rise = omega arith
data_fits (t ∷ ts) rise = omega (arith, files_fit 0 t.files rise.0, data_fits ts rise.1)

pub tables_in_order : (high last : ℕ) (ts : List ListedDefinition) → AllByRecursion (λ t. FilesRise 0 t.files) ts → AllByRecursion (λ t. t.since ≤ last) ts → largest_data ts ≤ high → AllByRecursion (HasFilesInOrder high last) ts
tables_in_order high last [] rise since most = tt
tables_in_order high last (t ∷ ts) rise since most = (
  record { rise = files_rising 0 high t.files rise.0 (omega arith) (omega (arith, most)); since = since.0 },
  tables_in_order high last ts rise.1 since.1 (omega (arith, most)),
)

pub consistent_in_order : (listing : Listing) (high : ℕ) → IsConsistent listing → largest_data listing.tables ≤ high → AllByRecursion (HasFilesInOrder high listing.last) listing.tables
consistent_in_order listing high known most = tables_in_order high listing.last listing.tables known.files known.since most

all_within : (high : ℕ) (ns : List ℕ) → largest ns ≤ high → AllByRecursion (λ (n : ℕ). n ≤ high) ns
all_within high [] most = tt
all_within high (n ∷ ns) most = (omega (arith, most), all_within high ns (omega (arith, most)))

pub indexes_numbered : (high : ℕ) (ts : List ListedDefinition) → AllByRecursion HasIndexes ts → largest_index ts ≤ high → AllByRecursion (HasIndexesNumbered high) ts
indexes_numbered high [] has most = tt
indexes_numbered high (t ∷ ts) has most = (record { counted = has.0.counted; within = all_within high t.numbers (omega (arith, most)) }, indexes_numbered high ts has.1 (omega (arith, most)))

-- **The numbers of the layout of a shape are in order.**
pub shape_in_order : (x : Folder) (l : Layout) (logs : List (List Mutation)) → HasShape x l logs → IsConsistent (listing_of l) → HasNumbersInOrder l
shape_in_order x l logs has known = record {
  files = consistent_in_order (listing_of l) l.used.«data» known (omega (arith, ap (λ (u : Used). u.«data») has.used));
  indexes = indexes_numbered l.used.index (listing_of l).tables known.indexes (omega (arith, ap (λ (u : Used). u.index) has.used));
}
