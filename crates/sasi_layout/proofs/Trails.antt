-- Moves one after another, with what a crash leaves of them at each moment and what each image has afterwards.
use Rattle.std.specs.Prelude.{ℕ, suc, List, refl, map, ◌≡◌, ◌≤◌, ◌∷◌, ◌++◌, []}
use Rattle.std.proofs.Common.{◌∙◌, sym, ap, subst, ⊎_elim, append_assoc}
use Rattle.std.proofs.lemmas.List.{append-nil}
use Rattle.std.specs.List.{AllByRecursion}
use Rattle.sasi_model.specs.State.{Definition}
use Rattle.sasi_cells.specs.declared.mutation.Mutation.{Mutation}
use Rattle.sasi_host.proofs.ChangeLaws.{at_each_moment, changes_as, changes_on, stays}
use Rattle.sasi_host.specs.Disk.{AnyChange, FileChange, LeftWith, Changes, IsFileDurable, Relation, Same, Each}
use Rattle.sasi_host.specs.Names.{Folder, log_name, manifest_name}
use Rattle.sasi_host.specs.View.{View, IsSound}
use Rattle.sasi_gated.proofs.Laws.{gated_end}
use Rattle.sasi_commitlog.specs.Format.{IsMutationOf, payload_of}
use Rattle.sasi_commitlog.specs.LogPosition.{IsAtLogEnd, IsLogBeforeOrAfter}
use Rattle.sasi_manifest.specs.Format.{IsManifest}
use Rattle.sasi_manifest.specs.OpenManifest.{ManifestStands}
use Rattle.sasi_manifest.specs.Types.{numbered_types}
use Rattle.sasi_manifest.specs.declared.listing.Listing.{Listing}
use Rattle.sasi_layout.proofs.Creates.{create_appended, create_gained}
use Rattle.sasi_layout.proofs.Flushes.{flush_appended, flush_gained}
use Rattle.sasi_layout.proofs.Freezes.{bare_freeze}
use Rattle.sasi_layout.proofs.LayoutLaws.{bare_state, moves_state, moves_both}
use Rattle.sasi_layout.proofs.Puts.{gained, last_is, put_appended, put_gained, put_segments}
use Rattle.sasi_layout.proofs.ShapeLaws.{shape_kept}
use Rattle.sasi_layout.specs.Between.{Between}
use Rattle.sasi_layout.specs.Flushed.{HasFlushed, HasNew, logs_after, ListsEither}
use Rattle.sasi_layout.specs.Frames.{AgreeOn}
use Rattle.sasi_layout.specs.Layout.{Layout, TableParts, bare, listed_of, listing_of, state_of}
use Rattle.sasi_layout.proofs.MovesInOrder.{legal_front}
use Rattle.sasi_layout.specs.Moves.{AreLegal, after_put, after_flush, after_create, Move, Put, Flush, Freeze, Create, moved, after_moves, states}
use Rattle.sasi_layout.specs.Shape.{HasShape, IsOfShape, StandsSealed}
use Rattle.sasi_layout.specs.NumbersInOrder.{HasFilesInOrder, HasNumbersInOrder}

-- ---- layouts

sinces : (high last : ℕ) (ts : List TableParts) → AllByRecursion (HasFilesInOrder high last) (map listed_of ts) → AllByRecursion (λ (t : TableParts). t.since ≤ last) ts
sinces high last [] in_order = tt
sinces high last (t ∷ ts) in_order = (in_order.0.since, sinces high last ts in_order.1)

-- no table begins after the log
pub since_last : (l : Layout) → HasNumbersInOrder l → AllByRecursion (λ (t : TableParts). t.since ≤ l.last) l.tables
since_last l in_order = sinces l.used.«data» l.last l.tables in_order.files

-- a folder between moves stands for the state after some first part of them
pub between_stands : (l : Layout) (moves : List Move) (folder : Folder) → AreLegal moves l → HasNumbersInOrder l → (b : Between l moves folder) → StandsSealed folder (states b.done (state_of l))
between_stands l moves folder legal in_order b =
    let done : AreLegal b.done l = legal_front b.done b.rest l (subst (λ (ms : List Move). AreLegal ms l) b.parts legal) in
    record { shape = bare (after_moves b.done l); has = b.shape; state_is = sym (bare_state (after_moves b.done l) ∙ moves_state b.done l done in_order) }

-- ---- moments

module _ (l : Layout) where
  pub none_done : (ms : List Move) (y : Folder) → IsOfShape (bare l) y → Between l ms y
  none_done ms y shape = record { done = []; rest = ms; parts = refl; shape = shape }

  pub all_done : (ms : List Move) (y : Folder) → IsOfShape (bare (after_moves ms l)) y → Between l ms y
  all_done ms y shape = record { done = ms; rest = []; parts = sym (append-nil ms); shape = shape }

  early : (ms ns : List Move) (y : Folder) → Between l ms y → Between l (ms ++ ns) y
  early ms ns y b = record { done = b.done; rest = b.rest ++ ns; parts = ap (λ (k : List Move). k ++ ns) b.parts ∙ append_assoc b.done b.rest ns; shape = b.shape }

  late : (ms ns : List Move) (y : Folder) → Between (after_moves ms l) ns y → Between l (ms ++ ns) y
  late ms ns y b = record {
    done = ms ++ b.done;
    rest = b.rest;
    parts = ap (λ (k : List Move). ms ++ k) b.parts ∙ sym (append_assoc ms b.done b.rest);
    shape = subst (λ (e : Layout). IsOfShape (bare e) y) (sym (moves_both ms b.done l)) b.shape;
  }

  -- moves after moves
  pub moves_on : (a b c : View) (ms ns : List Move) → Changes (λ x y. Between l ms y) a b → Changes (λ x y. Between (after_moves ms l) ns y) b c → Changes (λ x y. Between l (ms ++ ns) y) a c
  moves_on a b c ms ns first second =
      changes_on a b c (λ x y. Between l ms y) (λ x y. Between (after_moves ms l) ns y) (λ x y. Between l (ms ++ ns) y) first second (λ x y. early ms ns y) (λ x y z s t. late ms ns z t)

  -- moves that stop early
  pub moves_early : (a b : View) (ms ns : List Move) → Changes (λ x y. Between l ms y) a b → Changes (λ x y. Between l (ms ++ ns) y) a b
  moves_early a b ms ns change = changes_as a b (λ x y. Between l ms y) (λ x y. Between l (ms ++ ns) y) change (λ x y. early ms ns y)

  -- nothing is done
  pub moves_none : (v : View) (ms : List Move) → IsSound v → Each v (IsOfShape (bare l)) → Changes (λ x y. Between l ms y) v v
  moves_none v ms sound each = at_each_moment v v Same (IsOfShape (bare l)) (λ y. Between l ms y) sound (stays v) each (λ x y has same. none_done ms y (subst (IsOfShape (bare l)) (sym same) has))

  -- a change that matters to nothing that the layout lists is no move
  pub no_move : (a b : View) (S : Relation) (logs : List (List Mutation)) → IsSound a → Each a (λ x. HasShape x (bare l) logs) → Changes S a b → ((x y : Folder) → S x y → AgreeOn (bare l) x y) → Changes (λ x y. Between l [] y) a b
  no_move a b S logs sound each change agree =
      at_each_moment a b S (λ x. HasShape x (bare l) logs) (λ y. Between l [] y) sound change each (λ x y has s. none_done [] y (logs, shape_kept x y (bare l) logs (agree x y s) has))

  -- each image has the shape after it
  pub still_shape : (a b : View) (S : Relation) (logs : List (List Mutation)) → Each a (λ x. HasShape x (bare l) logs) → Changes S a b → ((x y : Folder) → S x y → AgreeOn (bare l) x y) → Each b (λ x. HasShape x (bare l) logs)
  still_shape a b S logs each change agree y now = let from = change.image y now in shape_kept from.0 y (bare l) logs (agree from.0 y from.2) (each from.0 from.1)

  -- ---- one law a move

  pub put_moves : (a b : View) (older : List (List Mutation)) (current : List Mutation) (m : Mutation) → IsSound a → Each a (λ x. HasShape x (bare l) (older ++ current ∷ [])) → HasNumbersInOrder l → IsMutationOf (numbered_types 1 (listing_of l).tables) m
      → Changes (FileChange (log_name l.last) (LeftWith (IsLogBeforeOrAfter (log_name l.last) current m))) a b → Changes (λ x y. Between l (Put m ∷ []) y) a b
  put_moves a b older current m sound each in_order fits change =
      at_each_moment a b _ (λ x. HasShape x (bare l) (older ++ current ∷ [])) (λ y. Between l (Put m ∷ []) y) sound change each (λ x y has step.
      ⊎_elim (λ former. none_done (Put m ∷ []) y (older ++ current ∷ [], former)) (λ later. all_done (Put m ∷ []) y (older ++ (current ++ m ∷ []) ∷ [], later)) (put_appended x y l older current m has (since_last l in_order) fits step))

  pub flush_moves : (a b : View) (table : ℕ) (logs : List (List Mutation)) → IsSound a → Each a (λ x. HasShape x (bare l) logs × HasNew table l x) → Changes (FileChange (manifest_name l.used.manifest) (LeftWith (ListsEither l (after_flush table l)))) a b
      → Changes (λ x y. Between l (Flush table ∷ []) y) a b
  flush_moves a b table logs sound each change =
      at_each_moment a b _ (λ x. HasShape x (bare l) logs × HasNew table l x) (λ y. Between l (Flush table ∷ []) y) sound change each (λ x y has step.
      ⊎_elim (λ former. none_done (Flush table ∷ []) y (logs, former)) (λ later. all_done (Flush table ∷ []) y (logs_after table l logs, later)) (flush_appended x y l table logs has.0 has.1 step))

  pub create_moves : (a b : View) (d : Definition) (logs : List (List Mutation)) → IsSound a → Each a (λ x. HasShape x (bare l) logs) → Changes (FileChange (manifest_name l.used.manifest) (LeftWith (ListsEither l (after_create d l)))) a b → Changes (λ x y. Between l (Create d ∷ []) y) a b
  create_moves a b d logs sound each change =
      at_each_moment a b _ (λ x. HasShape x (bare l) logs) (λ y. Between l (Create d ∷ []) y) sound change each (λ x y has step.
      ⊎_elim (λ former. none_done (Create d ∷ []) y (logs, former)) (λ later. all_done (Create d ∷ []) y (logs, later)) (create_appended x y l d logs has step))

  -- a move that its bare form doesn't show, over whatever files the calls make or delete
  pub quiet_moves : (a b : View) (m : Move) (S : Relation) (logs : List (List Mutation)) → bare (moved m l) ≡ bare l → IsSound a → Each a (λ x. HasShape x (bare l) logs) → Changes S a b → ((x y : Folder) → S x y → AgreeOn (bare l) x y) → Changes (λ x y. Between l (m ∷ []) y) a b
  quiet_moves a b m S logs same sound each change agree =
      at_each_moment a b S (λ x. HasShape x (bare l) logs) (λ y. Between l (m ∷ []) y) sound change each (λ x y has s.
      all_done (m ∷ []) y (logs, subst (λ (e : Layout). HasShape y e logs) (sym same) (shape_kept x y (bare l) logs (agree x y s) has)))

  -- a freeze is in memory alone
  pub freeze_moves : (a b : View) (table : ℕ) (S : Relation) (logs : List (List Mutation)) → IsSound a → Each a (λ x. HasShape x (bare l) logs) → Changes S a b → ((x y : Folder) → S x y → AgreeOn (bare l) x y) → Changes (λ x y. Between l (Freeze table ∷ []) y) a b
  freeze_moves a b table S logs sound each change agree = quiet_moves a b (Freeze table) S logs (bare_freeze table l) sound each change agree

-- ---- what each image has afterwards

-- a manifest that stands is there in each image, with what it lists
pub manifest_each : (v : View) (number at : ℕ) (listing : Listing) → (end : ManifestStands v number at listing) → IsFileDurable v (manifest_name number) end.at_end.bytes × IsManifest number end.at_end.bytes listing
manifest_each v number at listing end = (end.at_end.kept, (end.records, gated_end v (manifest_name number) at end.records end.at_end, end.builds))

-- after a record that has a flush
pub flush_each : (l : Layout) (table at : ℕ) (a b : View) (logs : List (List Mutation)) → Each a (λ x. HasShape x (bare l) logs × HasNew table l x) → Changes (FileChange (manifest_name l.used.manifest) AnyChange) a b
    → ManifestStands b l.used.manifest at (listing_of (after_flush table l)) → Each b (λ x. HasShape x (bare (after_flush table l)) (logs_after table l logs))
flush_each l table at a b logs each change end y now =
    let from = change.image y now in
    let was = each from.0 from.1 in
    let lists = manifest_each b l.used.manifest at (listing_of (after_flush table l)) end in
    flush_gained from.0 y l table logs was.0 from.2.others was.1 end.at_end.bytes (lists.0 y now) lists.1

-- after one that has a table
pub create_each : (l : Layout) (d : Definition) (at : ℕ) (a b : View) (logs : List (List Mutation)) → Each a (λ x. HasShape x (bare l) logs) → Changes (FileChange (manifest_name l.used.manifest) AnyChange) a b
    → ManifestStands b l.used.manifest at (listing_of (after_create d l)) → Each b (λ x. HasShape x (bare (after_create d l)) logs)
create_each l d at a b logs each change end y now =
    let from = change.image y now in
    let lists = manifest_each b l.used.manifest at (listing_of (after_create d l)) end in
    create_gained from.0 y l d logs (each from.0 from.1) from.2.others end.at_end.bytes (lists.0 y now) lists.1

-- after a mutation at the end of the log
pub put_each : (l : Layout) (m : Mutation) (at : ℕ) (a b : View) (older : List (List Mutation)) (current : List Mutation) → Each a (λ x. HasShape x (bare l) (older ++ current ∷ [])) → HasNumbersInOrder l → IsMutationOf (numbered_types 1 (listing_of l).tables) m
    → Changes (FileChange (log_name l.last) AnyChange) a b → IsAtLogEnd b (log_name l.last) at (current ++ m ∷ []) → Each b (λ x. HasShape x (bare (after_put m l)) (older ++ (current ++ m ∷ []) ∷ []))
put_each l m at a b older current each in_order fits change end y now =
    let from = change.image y now in
    let was = each from.0 from.1 in
    let types = numbered_types 1 (listing_of l).tables in
    let records = gated_end b (log_name l.last) at (map payload_of (current ++ m ∷ [])) end in
    put_gained from.0 y l older current m was from.2.others (since_last l in_order) (gained from.0 y types l.floor l.last older current m (last_is from.0 y l older current m was from.2.others) (put_segments from.0 y l older current m was from.2.others) fits from.2.others end.bytes (end.kept y now) records)

-- What a flush needs of the folder: the data file and the segment, once each image has them.
pub new_each : (l : Layout) (table at : ℕ) (v : View) → Each v (HasFlushed table l) → IsAtLogEnd v (log_name (suc l.last)) at [] → Each v (HasNew table l)
new_each l table at v files end x now = record { file = files x now; bytes = end.bytes; segment = end.kept x now; empty = gated_end v (log_name (suc l.last)) at [] end }
