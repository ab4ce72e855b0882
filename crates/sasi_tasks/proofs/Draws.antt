-- belongs in sasi_layout
-- The next data number is drawn, and nothing else changes: the move, what a store serves then, and that it can go on.
use Rattle.std.specs.Prelude.{◌^◌, ◌<◌, ◌≤◌, ℕ, suc, List, [], ◌∷◌, refl}
use Rattle.std.proofs.Common.{ap, arith}
use Rattle.std.specs.List.{AllByRecursion}
use Rattle.sasi_cells.specs.declared.mutation.Mutation.{Mutation}
use Rattle.sasi_host.proofs.ChangeLaws.{stays}
use Rattle.sasi_host.specs.Disk.{Changes, Each, Same}
use Rattle.sasi_host.specs.View.{IsSound, View}
use Rattle.sasi_layout.proofs.Agreeing.{agree_same}
use Rattle.sasi_layout.proofs.KeptLaws.{aside_higher}
use Rattle.sasi_layout.proofs.MovesInOrder.{moved_in_order, rising_higher}
use Rattle.sasi_layout.proofs.Trails.{quiet_moves}
use Rattle.sasi_layout.specs.Between.{Between}
use Rattle.sasi_layout.specs.Layout.{Layout, Used, bare}
use Rattle.sasi_layout.specs.Moves.{Draw, after_draw}
use Rattle.sasi_layout.specs.NumbersInOrder.{HasFilesInOrder}
use Rattle.sasi_layout.specs.Serving.{CanChange, Serves, StoreInMemory}
use Rattle.sasi_layout.specs.Shape.{HasShape}
use Rattle.sasi_manifest.specs.ListedDefinition.{ListedDefinition}

-- no file shows it
pub draw_moves : (l : Layout) (v : View) (logs : List (List Mutation)) → IsSound v → Each v (λ x. HasShape x (bare l) logs) → Changes (λ x y. Between l (Draw ∷ []) y) v v
draw_moves l v logs sound each = quiet_moves l v v Draw Same logs refl sound each (stays v) (λ x y same. agree_same (bare l) x y same)

-- the store with the next data number used
abbrev pub memory_after_draw : StoreInMemory → StoreInMemory
memory_after_draw store = record store { used = record store.used { «data» = suc store.used.«data» } }

-- **It serves the layout then.**
pub draw_serves : (v : View) (store : StoreInMemory) (l : Layout) → Serves v store l → Serves v (memory_after_draw store) (after_draw l)
draw_serves v store l serves = record {
  told = serves.told;
  in_order = moved_in_order Draw l tt serves.in_order;
  definitions = serves.definitions;
  tables = serves.tables;
  used = ap (λ (u : Used). record u { «data» = suc u.«data» }) serves.used;
  timestamp = serves.timestamp;
  listing = serves.listing;
  manifest = serves.manifest;
  log = serves.log;
  older = serves.older;
  current = serves.current;
  log_end = serves.log_end;
  manifest_end = serves.manifest_end;
  shape = serves.shape;
}

-- files up to the last used number are so up to a larger one
files_higher : (a b last : ℕ) (ts : List ListedDefinition) → a ≤ b → AllByRecursion (HasFilesInOrder a last) ts → AllByRecursion (HasFilesInOrder b last) ts
files_higher a b last [] le all = tt
files_higher a b last (t ∷ ts) le all = (record { rise = rising_higher 0 a b t.files le all.0.rise; since = all.0.since }, files_higher a b last ts le all.1)

-- **It can go on**, where the number has 32 bits.
pub draw_ready : (v : View) (store : StoreInMemory) → suc store.used.«data» < 2 ^ 32 → CanChange v store → CanChange v (memory_after_draw store)
draw_ready v store fits ready = record {
  consistent = ready.consistent;
  definitions = ready.definitions;
  tables = ready.tables;
  numbered = record {
    manifest_is = ready.numbered.manifest_is;
    log_is = ready.numbered.log_is;
    files = files_higher store.used.«data» (suc store.used.«data») store.manifest.listing.last store.manifest.listing.tables (omega arith) ready.numbered.files;
    indexes = ready.numbered.indexes;
    fits = fits;
  };
  timestamp = ready.timestamp;
  log_file = ready.log_file;
  manifest_room = ready.manifest_room;
  log_room = ready.log_room;
  manifest_usable = ready.manifest_usable;
  stands = ready.stands;
  log_usable = ready.log_usable;
  aside = ready.aside;
  aside_are = aside_higher store.used.«data» (suc store.used.«data») ready.aside (omega arith) ready.aside_are;
  exactly = ready.exactly;
}
