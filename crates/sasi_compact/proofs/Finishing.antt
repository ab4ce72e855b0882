-- The last unit of a compaction: its files become durable, and then one record lists them.
use Rattle.std.proofs.Common.{◌≡◌, ◌≢◌, ◌⊎◌, ◌∙◌, ◌≤◌, ◌^◌, inl, inr, ⊎_elim, false, ℕ, List, [], ◌∷◌, length, map, Some, refl, sym, ap, subst, arith}
use Rattle.std.specs.Prelude.{IsSome}
use Rattle.std.specs.FinMap.{get}
use Rattle.std.specs.List.{AllByRecursion}
use Rattle.sasi_types.specs.declared.index_def.IndexDef.{IndexDef}
use Rattle.sasi_types.specs.declared.partitioner.Partitioner.{Partitioner}
use Rattle.sasi_host.specs.declared.name.FileName.{FileName}
use Rattle.sasi_host.specs.Names.{Bytes, Folder, data_name, manifest_name}
use Rattle.sasi_host.specs.View.{IsSound, IsThere, Reaches, View}
use Rattle.sasi_host.specs.Disk.{AnyChange, Changes, FileChange, IsFileDurable, LeftWith, Same, Within}
use Rattle.sasi_host.proofs.ChangeLaws.{changes_among, changes_as, changes_on, stays}
use Rattle.sasi_host.proofs.ContentLaws.{contents_kept, reaches_where}
use Rattle.sasi_host.proofs.Durability.{file_durable_contents, file_durable_other}
use Rattle.sasi_datawrite.specs.Format.{Content, data_bytes}
use Rattle.sasi_folder.proofs.FolderLaws.{kinds_apart}
use Rattle.sasi_layout.proofs.FileNameLaws.{kind_unnamed}
use Rattle.sasi_layout.proofs.Trails.{manifest_each}
use Rattle.sasi_manifest.specs.declared.files.PartNumber.{PartNumber}
use Rattle.sasi_manifest.specs.declared.listing.Listing.{Listing}
use Rattle.sasi_manifest.specs.ListedFiles.{index_name, is_name_of, names_of}
use Rattle.sasi_manifest.specs.OpenManifest.{IsEither, ManifestStands}
use Rattle.sasi_manifest.proofs.Laws.{manifest_stays}
use Rattle.sasi_pairs.specs.Gathered.{defs_of}
use Rattle.sasi_pairs.specs.PairViews.{PairView}
use Rattle.sasi_pairs.specs.SealedFiles.{AreDurable, HasDurableIndex}
use Rattle.sasi_compact.specs.Listing.{AreKept, ChangesOutput, HasFiles, HasIndexFile, ListsOutput, output_file}
use Rattle.sasi_compact.specs.declared.compaction.Compaction.{Compaction}

-- ---- durable files

-- the files that are sealed are those of the compaction
pub kept_as : (v : View) (pairs : PairView) (c : Compaction) (parts : List PartNumber) (content : Content) → pairs.writer.file ≡ data_name c.number → pairs.writer.partitioner ≡ c.partitioner → defs_of pairs.indexes ≡ c.indexes
    → AreDurable v pairs parts content → AreKept v c parts content
kept_as v pairs c parts content file partitioner defs durable = record {
  «data» = subst (λ (name : FileName). IsFileDurable v name (data_bytes c.partitioner content)) file (subst (λ (p : Partitioner). IsFileDurable v pairs.writer.file (data_bytes p content)) partitioner durable.«data»);
  indexes =
      subst (λ (ds : List IndexDef). AllByRecursion (HasDurableIndex v c.number c.partitioner ds content) parts) defs
      (subst (λ (p : Partitioner). AllByRecursion (HasDurableIndex v c.number p (defs_of pairs.indexes) content) parts) partitioner
      (subst (λ (n : ℕ). AllByRecursion (HasDurableIndex v n pairs.writer.partitioner (defs_of pairs.indexes) content) parts) (ap (λ (f : FileName). f.number) file) durable.indexes));
}

-- they stay, while the manifest gets its record
indexes_stay : (a b : View) (number : ℕ) (c : Compaction) (content : Content) (parts : List PartNumber) → Changes (FileChange (manifest_name number) AnyChange) a b
    → AllByRecursion (HasDurableIndex a c.number c.partitioner c.indexes content) parts → AllByRecursion (HasDurableIndex b c.number c.partitioner c.indexes content) parts
indexes_stay a b number c content [] change all = tt
indexes_stay a b number c content (p ∷ parts) change all = (
  record {
    def = all.0.def;
    listed = all.0.listed;
    numbered = all.0.numbered;
    bytes = all.0.bytes;
    stands = all.0.stands;
    kept = file_durable_other a b (manifest_name number) (index_name c.number p) AnyChange all.0.bytes (kinds_apart (index_name c.number p) (manifest_name number) (omega arith)) change all.0.kept;
  },
  indexes_stay a b number c content parts change all.1,
)

pub kept_listed : (a b : View) (number : ℕ) (c : Compaction) (parts : List PartNumber) (content : Content) → Changes (FileChange (manifest_name number) AnyChange) a b → AreKept a c parts content → AreKept b c parts content
kept_listed a b number c parts content change kept = record {
  «data» = file_durable_other a b (manifest_name number) (data_name c.number) AnyChange (data_bytes c.partitioner content) (kinds_apart (data_name c.number) (manifest_name number) (omega arith)) change kept.«data»;
  indexes = indexes_stay a b number c content parts change kept.indexes;
}

-- each image has them
module _ (v : View) (sound : IsSound v) (folder : Folder) (c : Compaction) (content : Content) (image : v.image folder) where
  durable_fits : (name : FileName) (bytes : Bytes) → IsFileDurable v name bytes → length bytes ≤ 2 ^ 62
  durable_fits name bytes kept = sound.fits name bytes (file_durable_contents v name bytes sound (sound.told folder image) kept)

  image_indexes : (parts : List PartNumber) → AllByRecursion (HasDurableIndex v c.number c.partitioner c.indexes content) parts → AllByRecursion (HasIndexFile folder c content) parts
  image_indexes [] all = tt
  image_indexes (p ∷ parts) all = (
    record {
      def = all.0.def;
      listed = all.0.listed;
      numbered = all.0.numbered;
      bytes = all.0.bytes;
      stands = all.0.stands;
      there = all.0.kept folder image;
      fits = durable_fits (index_name c.number p) all.0.bytes all.0.kept;
    },
    image_indexes parts all.1,
  )

  pub image_files : (parts : List PartNumber) → AreKept v c parts content → HasFiles folder c parts content
  image_files parts kept = record {
    «data» = kept.«data» folder image;
    fits = durable_fits (data_name c.number) (data_bytes c.partitioner content) kept.«data»;
    indexes = image_indexes parts kept.indexes;
  }

-- and so does the folder as it reads
module _ (v : View) (sound : IsSound v) (c : Compaction) (content : Content) where
  durable_there : (name : FileName) (bytes : Bytes) → IsFileDurable v name bytes → IsThere v name
  durable_there name bytes kept told = subst IsSome (sym (file_durable_contents v name bytes sound told kept)) refl

  indexes_read : (parts : List PartNumber) → AllByRecursion (HasDurableIndex v c.number c.partitioner c.indexes content) parts → AllByRecursion (IsThere v) (map (index_name c.number) parts)
  indexes_read [] all = tt
  indexes_read (p ∷ parts) all = (durable_there (index_name c.number p) all.0.bytes all.0.kept, indexes_read parts all.1)

  pub kept_there : (parts : List PartNumber) → AreKept v c parts content → AllByRecursion (IsThere v) (names_of (output_file c parts))
  kept_there parts kept = (durable_there (data_name c.number) (data_bytes c.partitioner content) kept.«data», indexes_read parts kept.indexes)

-- a folder in which the manifest changes still has them
indexes_there : (x y : Folder) (number : ℕ) (c : Compaction) (content : Content) (parts : List PartNumber) → ((name : FileName) → name ≢ manifest_name number → get y name ≡ get x name) → AllByRecursion (HasIndexFile x c content) parts → AllByRecursion (HasIndexFile y c content) parts
indexes_there x y number c content [] others all = tt
indexes_there x y number c content (p ∷ parts) others all = (
  record {
    def = all.0.def;
    listed = all.0.listed;
    numbered = all.0.numbered;
    bytes = all.0.bytes;
    stands = all.0.stands;
    there = others (index_name c.number p) (kinds_apart (index_name c.number p) (manifest_name number) (omega arith)) ∙ all.0.there;
    fits = all.0.fits;
  },
  indexes_there x y number c content parts others all.1,
)

pub files_there : (x y : Folder) (number : ℕ) (c : Compaction) (parts : List PartNumber) (content : Content) → ((name : FileName) → name ≢ manifest_name number → get y name ≡ get x name) → HasFiles x c parts content → HasFiles y c parts content
files_there x y number c parts content others has = record { «data» = others (data_name c.number) (kinds_apart (data_name c.number) (manifest_name number) (omega arith)) ∙ has.«data»; fits = has.fits; indexes = indexes_there x y number c content parts others has.indexes }

-- ---- the manifest, while the files are made

unnamed : (number : ℕ) (c : Compaction) (parts : List PartNumber) → is_name_of (output_file c parts) (manifest_name number) ≡ false
unnamed number c parts = kind_unnamed (manifest_name number) (output_file c parts) (omega arith)

module _ (a b : View) (number : ℕ) (c : Compaction) (parts : List PartNumber) (made : Changes (Within (is_name_of (output_file c parts))) a b) where
  pub room_made : (at : ℕ) → Reaches a (manifest_name number) at → Reaches b (manifest_name number) at
  room_made at = reaches_where a b (Within (is_name_of (output_file c parts))) (manifest_name number) at made (contents_kept a b (Within (is_name_of (output_file c parts))) (manifest_name number) (λ x y step. step (manifest_name number) (unnamed number c parts)) made)

  pub stands_made : (at : ℕ) (listing : Listing) → ManifestStands a number at listing → ManifestStands b number at listing
  stands_made at listing = manifest_stays a b number at listing (λ bytes kept folder image. let was = made.image folder image in was.2 (manifest_name number) (unnamed number c parts) ∙ kept was.0 was.1)

  pub only_made : Changes (ChangesOutput number (output_file c parts)) a b
  only_made = changes_as a b (Within (is_name_of (output_file c parts))) (ChangesOutput number (output_file c parts)) made (λ x y step name apart not_named. step name not_named)

  -- the manifest has the former listing meanwhile
  pub lists_made : (former next : Listing) (content : Content) (at : ℕ) → IsSound a → ManifestStands a number at former → Changes (ListsOutput number former next c parts content) a b
  lists_made former next content at sound stands =
      let each = manifest_each a number at former stands in
      changes_among a b (λ x. get x (manifest_name number) ≡ Some stands.at_end.bytes) (Within (is_name_of (output_file c parts))) (ListsOutput number former next c parts content) sound each.0 made
      (λ x y there step. record {
        others = λ name apart not_named. step name not_named;
        bytes = stands.at_end.bytes;
        manifest = step (manifest_name number) (unnamed number c parts) ∙ there;
        listed = inl each.1;
      })

  -- ---- and while it gets its record

  module _ (d : View) (listed : Changes (FileChange (manifest_name number) AnyChange) b d) where
    pub only_listed : Changes (ChangesOutput number (output_file c parts)) a d
    only_listed = changes_on a b d (ChangesOutput number (output_file c parts)) (FileChange (manifest_name number) AnyChange) (ChangesOutput number (output_file c parts)) only_made listed (λ x y s. s)
        (λ x y z s t name apart not_named. t.others name apart ∙ s name apart not_named)

  -- **The output is listed whole or not at all.**
  pub lists_whole : (d : View) (former next : Listing) (content : Content) (at : ℕ) → IsSound a → IsSound b → ManifestStands a number at former → AreKept b c parts content
      → Changes (FileChange (manifest_name number) (LeftWith (IsEither number former next))) b d → Changes (ListsOutput number former next c parts content) a d
  lists_whole d former next content at sound_a sound_b stands kept listed =
      changes_on a b d (ListsOutput number former next c parts content) ListsNow (ListsOutput number former next c parts content) (lists_made former next content at sound_a stands)
      (changes_among b d (λ x. HasFiles x c parts content) (FileChange (manifest_name number) (LeftWith (IsEither number former next))) ListsNow sound_b (λ x image. image_files b sound_b x c content image parts kept) listed (λ x y has step. (has, step)))
      (λ x y s. s)
      (λ x y z s t. record {
        others = λ name apart not_named. t.1.others name apart ∙ s.others name apart not_named;
        bytes = t.1.this.0;
        manifest = t.1.this.1;
        listed = ⊎_elim (λ is. inl is) (λ is. inr (is, files_there y z number c parts content t.1.others t.0)) t.1.this.2;
      })
    where
      ListsNow : Folder → Folder → Type 0
      ListsNow x y = HasFiles x c parts content × FileChange (manifest_name number) (LeftWith (IsEither number former next)) x y

-- before anything is made
module _ (a : View) (number : ℕ) (c : Compaction) (parts : List PartNumber) where
  pub nothing_made : Changes (Within (is_name_of (output_file c parts))) a a
  nothing_made = changes_as a a Same (Within (is_name_of (output_file c parts))) (stays a) (λ x y same name not_named. ap (λ (f : Folder). get f name) same)
