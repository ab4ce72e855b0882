-- What a crash leaves of the last unit of a task: the layout before it or after it, and then nothing of its sources is needed.
use Rattle.std.proofs.Common.{◌≡◌, ◌≢◌, ◌∙◌, ◌<◌, ◌≤◌, ⊎_elim, ℕ, Bool, true, false, List, [], ◌∷◌, length, Some, refl, sym, ap, subst, arith}
use Rattle.std.proofs.lemmas.List.{append-nil}
use Rattle.std.proofs.lemmas.List.Elements.{All-contains, All-from_recursion}
use Rattle.std.specs.Prelude.{Contains}
use Rattle.std.specs.FinMap.{get, insert}
use Rattle.std.specs.FinMap as map_
use Rattle.std.specs.List.{AllByRecursion}
use Rattle.sasi_cells.specs.declared.mutation.Mutation.{Mutation}
use Rattle.sasi_types.specs.declared.column.ColumnType.{ColumnType}
use Rattle.sasi_types.specs.declared.partitioner.Partitioner.{Partitioner}
use Rattle.sasi_host.proofs.ChangeLaws.{at_each_moment}
use Rattle.sasi_host.specs.Disk.{Changes, Each, Within}
use Rattle.sasi_host.specs.NameLaws.{insert_apart, insert_here}
use Rattle.sasi_host.specs.Names.{Bytes, Folder, data_name, log_name, manifest_name, rank, seal_name}
use Rattle.sasi_host.specs.View.{IsSound, View}
use Rattle.sasi_host.specs.declared.name.FileName.{FileName}
use Rattle.sasi_model.specs.Abbreviations.{kind_of, types_of}
use Rattle.sasi_model.specs.Indexes.{index_of}
use Rattle.sasi_datawrite.specs.Format.{Content, data_bytes}
use Rattle.sasi_folder.proofs.FolderLaws.{kinds_apart, sealed_kept, segments_kept}
use Rattle.sasi_manifest.specs.FileNames.{has_name}
use Rattle.sasi_manifest.specs.Format.{IsManifest}
use Rattle.sasi_manifest.specs.ListedFiles.{is_name_of}
use Rattle.sasi_manifest.specs.OpenManifest.{ManifestStands}
use Rattle.sasi_manifest.specs.Types.{numbered_types}
use Rattle.sasi_manifest.specs.declared.files.PartNumber.{PartNumber}
use Rattle.sasi_manifest.specs.declared.listing.Listing.{Listing}
use Rattle.sasi_postings.specs.IndexFiles.{IsIndexFor}
use Rattle.sasi_compact.proofs.Finishing.{files_there, image_files}
use Rattle.sasi_compact.specs.Listing.{AreKept, ChangesOutput, HasFiles, HasIndexFile, ListsOutput, output_file}
use Rattle.sasi_layout.proofs.Compacts.{compact_gained}
use Rattle.sasi_layout.proofs.FileNameLaws.{kind_unnamed, other_kind}
use Rattle.sasi_layout.proofs.LayoutLaws.{bare_listing}
use Rattle.sasi_layout.proofs.OutputFile.{output_each}
use Rattle.sasi_layout.proofs.ShapeLaws.{shape_kept, tables_kept}
use Rattle.sasi_layout.proofs.Trails.{all_done, manifest_each, moves_on, no_move, none_done, still_shape}
use Rattle.sasi_layout.specs.Between.{Between}
use Rattle.sasi_layout.specs.Compacted.{HasOutput}
use Rattle.sasi_layout.specs.Compacting.{compact_parts, output_file as layout_output}
use Rattle.sasi_layout.specs.Flushed.{contents_of}
use Rattle.sasi_layout.specs.Frames.{AgreeOn}
use Rattle.sasi_layout.specs.Layout.{Layout, TableParts, bare, listing_of, numbered, numbered_indexes}
use Rattle.sasi_layout.specs.Moves.{Compact, Move, after_compact, after_moves}
use Rattle.sasi_layout.specs.Shape.{HasShape}
use Rattle.sasi_layout.specs.Shape as shape
use Rattle.sasi_recover.proofs.KeptShapes.{agree_where}
use Rattle.sasi_tables.specs.Flushing.{AreTableIndexes, IsTableIndex}
use Rattle.sasi_tasks.specs.Running.{compaction_of}
use Rattle.sasi_tasks.specs.declared.running.RunningTask.{RunningTask}

-- **The last unit is that of a table of the layout**: this content is the merge of the sources, and the parts and the definitions are those of its indexes. None of its files is listed.
pub record IsLastOf (l : Layout) (r : RunningTask) (parts : List PartNumber) (content : Content) (t : TableParts) : Type 0 where
  pub there : numbered 1 r.table l.tables ≡ Some t
  pub typed : length (types_of t.definition) ≤ 64
  pub partitioner : r.task.compaction.partitioner ≡ l.partitioner
  pub parts_are : parts ≡ compact_parts l.used.part (compaction_of r) t.numbers
  pub indexes : AreTableIndexes r.task.compaction.indexes t
  pub some : 1 ≤ length (map_.entries (layout_output l.used.part (compaction_of r) t).holds)
  pub content_is : content ≡ contents_of (layout_output l.used.part (compaction_of r) t).holds
  pub unlisted : (name : FileName) → has_name (listing_of l).tables name ≡ true → is_name_of (output_file r.task.compaction parts) name ≡ false

module _ (l : Layout) (r : RunningTask) (parts : List PartNumber) (content : Content) (t : TableParts) (of : IsLastOf l r parts content t) where
  abbrev after : Layout
  after = after_compact (compaction_of r) l

  -- ---- the files of the output

  part_there : (x : Folder) (q : PartNumber) → HasIndexFile x r.task.compaction content q → shape.HasIndexFile x l.partitioner t.definition t.numbers r.task.compaction.number (contents_of (layout_output l.used.part (compaction_of r) t).holds) q
  part_there x q has =
      let is : IsTableIndex t has.def = All-contains (IsTableIndex t) r.task.compaction.indexes has.def (All-from_recursion (IsTableIndex t) r.task.compaction.indexes of.indexes) has.listed in
      record {
        index = index_of has.def;
        defined = subst (λ (n : ℕ). Contains (numbered_indexes t) (n, index_of has.def)) has.numbered is.listed;
        bytes = has.bytes;
        there = has.there;
        stands = subst (λ (k : Content). IsIndexFor l.partitioner has.def.mode (kind_of t.definition has.def.column) has.def.column has.def.rule k has.bytes) of.content_is
            (subst (λ (p : Partitioner). IsIndexFor p has.def.mode (kind_of t.definition has.def.column) has.def.column has.def.rule content has.bytes) of.partitioner
            (subst (λ (k : ColumnType). IsIndexFor r.task.compaction.partitioner has.def.mode k has.def.column has.def.rule content has.bytes) (sym is.kind) has.stands));
        fits = has.fits;
      }

  parts_there : (x : Folder) (qs : List PartNumber) → AllByRecursion (HasIndexFile x r.task.compaction content) qs → AllByRecursion (shape.HasIndexFile x l.partitioner t.definition t.numbers r.task.compaction.number (contents_of (layout_output l.used.part (compaction_of r) t).holds)) qs
  parts_there x [] has = tt
  parts_there x (q ∷ qs) has = (part_there x q has.0, parts_there x qs has.1)

  -- a folder of its shape that has the files has the output
  has_output : (a : View) (x : Folder) (logs : List (List Mutation)) → HasShape x (bare l) logs → HasFiles x r.task.compaction parts content → HasOutput (compaction_of r) l x
  has_output a x logs has files =
      let alone : View = record a { image = λ (f : Folder). f ≡ x } in
      (output_each (compaction_of r) l t (data_bytes r.task.compaction.partitioner content) alone logs of.there of.typed
      (λ f same. subst (λ (g : Folder). HasShape g (bare l) logs) (sym same) has)
      (record { some = of.some; bytes_are = ap (λ (p : Partitioner). data_bytes p content) of.partitioner ∙ ap (data_bytes l.partitioner) of.content_is })
      (λ f same. ap (λ (g : Folder). get g (data_name r.task.compaction.number)) same ∙ files.«data») files.fits
      (λ f same. subst (λ (g : Folder). AllByRecursion (shape.HasIndexFile g l.partitioner t.definition t.numbers r.task.compaction.number (contents_of (layout_output l.used.part (compaction_of r) t).holds)) (compact_parts l.used.part (compaction_of r) t.numbers)) (sym same)
      (subst (λ (qs : List PartNumber). AllByRecursion (shape.HasIndexFile x l.partitioner t.definition t.numbers r.task.compaction.number (contents_of (layout_output l.used.part (compaction_of r) t).holds)) qs) of.parts_are (parts_there x parts files.indexes)))
      x refl).1

  -- ---- one folder

  module _ (x y : Folder) (logs : List (List Mutation)) (has : HasShape x (bare l) logs) (others : ChangesOutput l.used.manifest (output_file r.task.compaction parts) x y) where
    low_same : (name : FileName) → rank name.kind < 3 → name ≢ manifest_name l.used.manifest → get y name ≡ get x name
    low_same name low apart = others name apart (kind_unnamed name (output_file r.task.compaction parts) low)

    listed_same : (name : FileName) → has_name (listing_of (bare l)).tables name ≡ true → name ≢ manifest_name l.used.manifest → get y name ≡ get x name
    listed_same name is apart = others name apart (of.unlisted name (ap (λ (e : Listing). has_name e.tables name) (sym (bare_listing l)) ∙ is))

    listed_apart : (name : FileName) → has_name (listing_of (bare l)).tables name ≡ true → name ≢ manifest_name l.used.manifest
    listed_apart name is same = never (sym is ∙ ap (has_name (listing_of (bare l)).tables) same ∙ other_kind (manifest_name l.used.manifest) (listing_of (bare l)).tables (omega arith))
      where
        never : true ≡ false → ⊥
        never e = cc

    -- the manifest has the former listing
    still_before : (bytes : Bytes) → get y (manifest_name l.used.manifest) ≡ Some bytes → IsManifest l.used.manifest bytes (listing_of l) → HasShape y (bare l) logs
    still_before bytes there is = record {
      sealed = sealed_kept x y l.used.manifest (λ n. low_same (seal_name n) (omega arith) (kinds_apart _ _ (omega arith))) has.sealed;
      manifest = (bytes, there, subst (IsManifest l.used.manifest bytes) (sym (bare_listing l)) is);
      live = has.live;
      segments = segments_kept x y (numbered_types 1 (listing_of (bare l)).tables) l.floor logs (λ segment above below. low_same (log_name segment) (omega arith) (kinds_apart _ _ (omega arith))) has.segments;
      tables = tables_kept x y l.partitioner l.floor 1 logs (bare l).tables (agree_where x y (bare l) (λ name listed. listed_same name listed (listed_apart name listed))) has.tables;
      used = has.used;
    }

    -- **it has the next one, and the files are there**
    comes_after : (a : View) (bytes : Bytes) → get y (manifest_name l.used.manifest) ≡ Some bytes → IsManifest l.used.manifest bytes (listing_of after) → HasFiles y r.task.compaction parts content → HasShape y (bare after) logs
    comes_after a bytes there is files =
        let z : Folder = insert y (manifest_name l.used.manifest) has.manifest.0 in
        let z_same : (name : FileName) → name ≢ manifest_name l.used.manifest → get z name ≡ get y name = λ name apart. insert_apart y (manifest_name l.used.manifest) name has.manifest.0 apart in
        let z_has : HasShape z (bare l) logs = shape_kept x z (bare l) logs (record {
          seals = λ n. z_same (seal_name n) (kinds_apart _ _ (omega arith)) ∙ low_same (seal_name n) (omega arith) (kinds_apart _ _ (omega arith));
          manifest = insert_here y (manifest_name l.used.manifest) has.manifest.0 ∙ sym has.manifest.1;
          logs = λ segment above below. z_same (log_name segment) (kinds_apart _ _ (omega arith)) ∙ low_same (log_name segment) (omega arith) (kinds_apart _ _ (omega arith));
          files = agree_where x z (bare l) (λ name listed. z_same name (listed_apart name listed) ∙ listed_same name listed (listed_apart name listed));
        }) has in
        let z_files = files_there y z l.used.manifest r.task.compaction parts content z_same files in
        compact_gained (compaction_of r) l logs z y z_has (has_output a z logs z_has z_files) (λ name apart. sym (z_same name apart)) bytes there is

  -- ---- moments

  -- **At each moment a crash leaves the layout before it or after it.**
  pub last_moments : (a b : View) (logs : List (List Mutation)) → IsSound a → Each a (λ x. HasShape x (bare l) logs) → Changes (ListsOutput l.used.manifest (listing_of l) (listing_of after) r.task.compaction parts content) a b
      → Changes (λ x y. Between l (Compact (compaction_of r) ∷ []) y) a b
  last_moments a b logs sound each change =
      at_each_moment a b (ListsOutput l.used.manifest (listing_of l) (listing_of after) r.task.compaction parts content) (λ x. HasShape x (bare l) logs) (λ y. Between l (Compact (compaction_of r) ∷ []) y) sound change each
      (λ x y has step. ⊎_elim
      (λ former. none_done l (Compact (compaction_of r) ∷ []) y (logs, still_before x y logs has step.others step.bytes step.manifest former))
      (λ later. all_done l (Compact (compaction_of r) ∷ []) y (logs, comes_after x y logs has step.others a step.bytes step.manifest later.0 later.1)) step.listed)

  -- **Afterwards each image has the layout after it.**
  pub last_each : (a b : View) (at : ℕ) (logs : List (List Mutation)) → IsSound b → Each a (λ x. HasShape x (bare l) logs) → Changes (ChangesOutput l.used.manifest (output_file r.task.compaction parts)) a b
      → ManifestStands b l.used.manifest at (listing_of after) → AreKept b r.task.compaction parts content → Each b (λ x. HasShape x (bare after) logs)
  last_each a b at logs sound each change stands kept y now =
      let from = change.image y now in
      let lists = manifest_each b l.used.manifest at (listing_of after) stands in
      comes_after from.0 y logs (each from.0 from.1) from.2 b stands.at_end.bytes (lists.0 y now) lists.1 (image_files b sound y r.task.compaction content now parts kept)

-- ---- files that are listed no more

module _ (l : Layout) (mine : FileName → Bool) (kind : (name : FileName) → mine name ≡ true → 3 ≤ rank name.kind) (unlisted : (name : FileName) → mine name ≡ true → has_name (listing_of l).tables name ≡ false) where
  low_kept : (name : FileName) → rank name.kind < 3 → mine name ≡ false
  low_kept name low = by (mine name) refl
    where
      by : (b : Bool) → mine name ≡ b → mine name ≡ false
      by false is = is
      by true is = absurd (omega (arith, kind name is, low))

  listed_kept : (name : FileName) → has_name (listing_of (bare l)).tables name ≡ true → mine name ≡ false
  listed_kept name listed = by (mine name) refl
    where
      never : true ≡ false → ⊥
      never e = cc

      by : (b : Bool) → mine name ≡ b → mine name ≡ false
      by false is = is
      by true is = absurd (never (sym listed ∙ ap (λ (e : Listing). has_name e.tables name) (bare_listing l) ∙ unlisted name is))

  agrees : (x y : Folder) → Within mine x y → AgreeOn (bare l) x y
  agrees x y step = record {
    seals = λ n. step (seal_name n) (low_kept (seal_name n) (omega arith));
    manifest = step (manifest_name l.used.manifest) (low_kept (manifest_name l.used.manifest) (omega arith));
    logs = λ segment above below. step (log_name segment) (low_kept (log_name segment) (omega arith));
    files = agree_where x y (bare l) (λ name listed. step name (listed_kept name listed));
  }

  -- **Their deletion is no move.**
  pub deletes_on : (from : Layout) (ms : List Move) (a b d : View) (logs : List (List Mutation)) → after_moves ms from ≡ l → IsSound b → Each b (λ x. HasShape x (bare l) logs) → Changes (λ x y. Between from ms y) a b → Changes (Within mine) b d
      → Changes (λ x y. Between from ms y) a d
  deletes_on from ms a b d logs is sound each first change =
      subst (λ (k : List Move). Changes (λ x y. Between from k y) a d) (append-nil ms)
      (moves_on from a b d ms [] first (subst (λ (k : Layout). Changes (λ x y. Between k [] y) b d) (sym is) (no_move l b d (Within mine) logs sound each change agrees)))

  pub deletes_each : (b d : View) (logs : List (List Mutation)) → Each b (λ x. HasShape x (bare l) logs) → Changes (Within mine) b d → Each d (λ x. HasShape x (bare l) logs)
  deletes_each b d logs each change = still_shape l b d (Within mine) logs each change agrees
