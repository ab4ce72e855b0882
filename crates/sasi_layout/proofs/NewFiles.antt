-- The file of a flush is there once its bytes are.
use Rattle.std.specs.Prelude.{ℕ, suc, List, Some, length, map, ◌≡◌, ◌^◌, ◌≤◌, ◌∷◌, []}
use Rattle.std.proofs.Common.{◌∙◌, ap, subst}
use Rattle.std.specs.FinMap.{get}
use Rattle.std.specs.List.{AllByRecursion}
use Rattle.sasi_types.specs.declared.partitioner.Partitioner.{Partitioner}
use Rattle.sasi_model.specs.Abbreviations.{types_of}
use Rattle.sasi_model.specs.State.{Definition}
use Rattle.sasi_cells.specs.Maps.{merged}
use Rattle.sasi_host.specs.Disk.{IsFileDurable, Each}
use Rattle.sasi_host.specs.Names.{Bytes, Folder, data_name}
use Rattle.sasi_host.specs.View.{View}
use Rattle.sasi_manifest.proofs.Replacing.{At}
use Rattle.sasi_manifest.specs.declared.listing.Listing.{Listing}
use Rattle.sasi_folder.proofs.FolderChanges.{all_both}
use Rattle.sasi_layout.proofs.Contents.{has_written}
use Rattle.sasi_layout.proofs.Storable.{merged_storable, entries_storable}
use Rattle.sasi_layout.specs.Flushed.{IsWritten, HasFlushed, contents_of}
use Rattle.sasi_layout.specs.Layout.{Layout, TableParts, unflushed}
use Rattle.sasi_layout.specs.Moves.{flushed_file, parts_drawn}
use Rattle.sasi_layout.specs.Serving.{AreStorable, AreTablesReady, TableInMemory, StoreInMemory, CanChange, Serves, table_in_memory}
use Rattle.sasi_layout.specs.Shape.{HasFile, HasIndexFile}

-- what isn't flushed of the table can be stored in it
abbrev pub CanFlush : Partitioner → TableParts → Type 0
CanFlush p t = AreStorable p (types_of t.definition) (merged (unflushed t))

-- the index files of what isn't flushed are there
abbrev pub HasIndexes : Folder → Partitioner → ℕ → ℕ → TableParts → Type 0
HasIndexes x p file part t = AllByRecursion (HasIndexFile x p t.definition t.numbers file (contents_of (merged (unflushed t)))) (parts_drawn part t)

flushed_there : (x : Folder) (p : Partitioner) (file part table n : ℕ) (bytes : Bytes) (ts : List TableParts) → get x (data_name file) ≡ Some bytes → length bytes ≤ 2 ^ 62 → At n table (CanFlush p) ts → At n table (IsWritten p bytes) ts → At n table (HasIndexes x p file part) ts
    → At n table (λ t. HasFile x p t.definition t.numbers (flushed_file file part t)) ts
flushed_there x p file part table n bytes [] there fits can is indexes = tt
flushed_there x p file part table n bytes (t ∷ ts) there fits can is indexes = (
  (λ own.
      let written = is.0 own in
      has_written x p t.definition t.numbers (flushed_file file part t) (record { some = written.some; storable = entries_storable p (types_of t.definition) (merged (unflushed t)) (can.0 own) })
      (there ∙ ap (λ (b : Bytes). Some b) written.bytes_are) (subst (λ (b : Bytes). length b ≤ 2 ^ 62) written.bytes_are fits) (indexes.0 own)),
  flushed_there x p file part table (suc n) bytes ts there fits can.1 is.1 indexes.1,
)

-- Once each image has the bytes that are written of what isn't flushed, each has the file of the flush.
pub flushed_each : (l : Layout) (table : ℕ) (bytes : Bytes) (v : View) → At 1 table (CanFlush l.partitioner) l.tables → At 1 table (IsWritten l.partitioner bytes) l.tables → IsFileDurable v (data_name (suc l.used.«data»)) bytes → length bytes ≤ 2 ^ 62 → Each v (λ x. At 1 table (HasIndexes x l.partitioner (suc l.used.«data») l.used.part) l.tables) → Each v (HasFlushed table l)
flushed_each l table bytes v can is kept fits indexes x now = flushed_there x l.partitioner (suc l.used.«data») l.used.part table 1 bytes l.tables (kept x now) fits can is (indexes x now)

-- ---- what a store in memory can flush

can_flush : (p : Partitioner) (floor last n table : ℕ) (ds : List Definition) (hs : List TableInMemory) (ts : List TableParts) → AreTablesReady p floor last ds hs → ds ≡ map (λ (t : TableParts). t.definition) ts → hs ≡ map table_in_memory ts → At n table (CanFlush p) ts
can_flush p floor last n table [] hs [] ready definitions tables = tt
can_flush p floor last n table [] hs (t ∷ ts) ready definitions tables = cc
can_flush p floor last n table (d ∷ ds) hs [] ready definitions tables = cc
can_flush p floor last n table (d ∷ ds) [] (t ∷ ts) ready definitions tables = cc
can_flush p floor last n table (d ∷ ds) (h ∷ hs) (t ∷ ts) ready definitions tables =
    let definition : d ≡ t.definition = cc in
    let more : ds ≡ map (λ (t : TableParts). t.definition) ts = cc in
    let in_memory : h ≡ table_in_memory t = cc in
    let others : hs ≡ map table_in_memory ts = cc in (
      (λ own.
          let frozen : AllByRecursion (AreStorable p (types_of d)) t.frozen = subst (λ (k : TableInMemory). AllByRecursion (AreStorable p (types_of d)) k.frozen) in_memory ready.0.frozen in
          let memtable : AreStorable p (types_of d) t.memtable = subst (λ (k : TableInMemory). AreStorable p (types_of d) k.memtable) in_memory ready.0.memtable in
          subst (λ (k : Definition). AreStorable p (types_of k) (merged (unflushed t))) definition
          (merged_storable p (types_of d) ready.0.typed.few (unflushed t) (all_both (AreStorable p (types_of d)) t.frozen (t.memtable ∷ []) frozen (memtable, tt)))),
      can_flush p floor last (suc n) table ds hs ts ready.1 more others,
    )

-- A store that is ready can flush each table.
pub ready_flush : (v : View) (store : StoreInMemory) (l : Layout) (table : ℕ) → CanChange v store → Serves v store l → At 1 table (CanFlush l.partitioner) l.tables
ready_flush v store l table ready serves =
    let partitioner : store.manifest.listing.partitioner ≡ l.partitioner = ap (λ (e : Listing). e.partitioner) serves.listing in
    subst (λ p. At 1 table (CanFlush p) l.tables) partitioner
    (can_flush store.manifest.listing.partitioner store.manifest.listing.floor store.manifest.listing.last 1 table store.definitions store.tables l.tables ready.tables serves.definitions serves.tables)
