-- A data file and its index files, once they are written and synced.
use Rattle.std.proofs.Common.{◌≡◌, ℕ, List, [], ◌∷◌, ap, ◌∙◌, subst, arith}
use Rattle.std.specs.Prelude.{Contains}
use Rattle.std.specs.List.{AllByRecursion}
use Rattle.sasi_types.specs.declared.partitioner.Partitioner.{Partitioner}
use Rattle.std.specs.FinMap.{get}
use Rattle.sasi_host.specs.declared.name.FileName.{FileName}
use Rattle.sasi_host.specs.Names.{Bytes, Folder, data_name, rank}
use Rattle.sasi_host.specs.View.{Holds, IsSound, View}
use Rattle.sasi_host.specs.Disk.{AnyChange, Changes, FileChange, IsFolderSynced, IsSynced, Same, Within}
use Rattle.sasi_host.proofs.ContentLaws.{contents_kept, holds_where}
use Rattle.sasi_datawrite.specs.Format.{Content, data_bytes}
use Rattle.sasi_indexwrite.specs.Files.{IsIndexOf}
use Rattle.sasi_indexwrite.specs.Stored.{stored}
use Rattle.sasi_indexwrite.proofs.Lists.{all_at}
use Rattle.sasi_manifest.specs.declared.files.PartNumber.{PartNumber}
use Rattle.sasi_manifest.specs.ListedFiles.{index_name}
use Rattle.sasi_postings.proofs.Modes.{stored_are}
use Rattle.sasi_pairs.specs.Gathered.{GatheredIndex, defs_of}
use Rattle.sasi_pairs.specs.PairViews.{HasPostings, IsPairing, PairView}
use Rattle.sasi_pairs.specs.SealedFiles.{AreAbsent, AreDurable, HasDurableIndex, HasSyncedIndex, is_index_of}
use Rattle.sasi_pairs.proofs.DurableFiles.{synced_durable}
use Rattle.sasi_pairs.proofs.IndexLaws.{data_not_index}
use Rattle.sasi_pairs.proofs.Replaced.{def_contained}
use Rattle.sasi_pairs.proofs.SyncedFiles.{synced_kept}

-- ---- the data file beside its index files

-- the index files are as absent as before, once the data file is written
pub absent_behind : (a b : View) (number : ℕ) (parts : List PartNumber) (file : FileName) → file ≡ data_name number → Changes (FileChange file AnyChange) a b → AreAbsent a number parts → AreAbsent b number parts
absent_behind a b number [] file is change absent = tt
absent_behind a b number (p ∷ parts) file is change absent = (
  contents_kept a b (FileChange file AnyChange) (index_name number p) (λ x y step. step.others (index_name number p) (λ same. absurd (omega (arith, ap (λ (n : FileName). rank n.kind) (same ∙ is))))) change ∙ absent.0,
  absent_behind a b number parts file is change absent.1,
)

module _ (a b : View) (number : ℕ) (parts : List PartNumber) (file : FileName) (is : file ≡ data_name number) (change : Changes (Within (is_index_of (record { number = number; parts = parts }))) a b) where
  kept : (x y : Folder) → Within (is_index_of (record { number = number; parts = parts })) x y → get y file ≡ get x file
  kept x y step = step file (ap (λ (n : FileName). is_index_of (record { number = number; parts = parts }) n) is ∙ data_not_index number parts)

  -- the data file stays as it is while the index files are written
  pub data_holds : (bytes : Bytes) → Holds a file bytes → Holds b file bytes
  data_holds bytes holds = holds_where a b (Within (is_index_of (record { number = number; parts = parts }))) file bytes change (contents_kept a b (Within (is_index_of (record { number = number; parts = parts }))) file kept change) holds

  pub data_synced : IsSynced a file → IsSynced b file
  data_synced synced = synced_kept a b (Within (is_index_of (record { number = number; parts = parts }))) file kept change synced

-- ---- once the folder is synced

all_contained : {X : Type 0} (P : X → Type 0) (xs : List X) (x : X) → AllByRecursion P xs → Contains xs x → P x
all_contained P xs x all has = subst P has.2 (all_at P xs x has.0 has.1 all)

module _ (a b : View) (sound : IsSound b) (same : Changes Same a b) (folder : IsFolderSynced b) (number : ℕ) (partitioner : Partitioner) (indexes : List GatheredIndex) (content : Content)
    (pairing : AllByRecursion (HasPostings partitioner content) indexes) where
  index_durable : (p : PartNumber) → HasSyncedIndex a number indexes p → HasDurableIndex b number partitioner (defs_of indexes) content p
  index_durable p has = record {
    def = has.index.def;
    listed = def_contained indexes has.index has.listed;
    numbered = has.numbered;
    bytes = has.holds.bytes;
    stands = subst (λ postings. IsIndexOf has.index.def.mode has.index.def.kind postings has.holds.bytes)
        (ap (stored has.index.def.mode) (all_contained (HasPostings partitioner content) indexes has.index pairing has.listed)
        ∙ stored_are partitioner has.index.def.column has.index.def.rule content has.index.def.mode)
        has.holds.is_index;
    kept = synced_durable a b (index_name number p) has.holds.bytes sound same has.synced folder has.holds.holds;
  }

  indexes_durable : (parts : List PartNumber) → AllByRecursion (HasSyncedIndex a number indexes) parts → AllByRecursion (HasDurableIndex b number partitioner (defs_of indexes) content) parts
  indexes_durable [] has = tt
  indexes_durable (p ∷ parts) has = (index_durable p has.0, indexes_durable parts has.1)

-- all of them are durable
pub all_durable : (start a b : View) (pair : PairView) (parts : List PartNumber) (content : Content) → IsSound b → Changes Same a b → IsFolderSynced b → IsPairing start pair content → IsSynced a pair.writer.file
    → Holds a pair.writer.file (data_bytes pair.writer.partitioner content) → AllByRecursion (HasSyncedIndex a pair.writer.file.number pair.indexes) parts → AreDurable b pair parts content
all_durable start a b pair parts content sound same folder pairing synced holds indexes = record {
  «data» = synced_durable a b pair.writer.file (data_bytes pair.writer.partitioner content) sound same synced folder holds;
  indexes = indexes_durable a b sound same folder pair.writer.file.number pair.writer.partitioner pair.indexes content pairing.indexes parts indexes;
}
