-- The files of a new store: its manifest, its seal and its first segment, and no other.
use Rattle.std.proofs.Common.{◌≡◌, ◌≢◌, ℕ, true, false, [], Option, None, Some, IsSome, is_some, refl, sym, ◌∙◌, ap, subst, arith}
use Rattle.std.specs.FinMap.{get}
use Rattle.sasi_types.specs.declared.partitioner.Partitioner.{Partitioner}
use Rattle.sasi_host.specs.declared.name.FileName.{FileName}
use Rattle.sasi_host.specs.Names.{Bytes, Folder, log_name, manifest_name, seal_name}
use Rattle.sasi_host.specs.View.{View, IsAbsent, IsSound, IsTold, Reaches, contents, contents_in}
use Rattle.sasi_host.specs.Disk.{AnyChange, Changes, FileChange, IsFileDurable, IsFolderSynced}
use Rattle.sasi_host.proofs.ContentLaws.{absent_where, contents_kept, contents_other}
use Rattle.sasi_manifest.specs.OpenManifest.{ChangesOnlyManifest, IsUnsealed}
use Rattle.sasi_folder.proofs.FolderLaws.{kinds_apart}
use Rattle.sasi_layout.specs.Kept.{HasKept}
use Rattle.sasi_recover.specs.declared.unlisted_files.Keep.TheVariants.{Store}
use Rattle.sasi_recover.specs.Deletion.{keeps}
use Rattle.sasi_recover.proofs.DeletedFiles.{keeps_manifest, keeps_seal, keeps_segment}
use Rattle.sasi_recover.proofs.FirstStore.{new_listing}
use Rattle.sasi_recover.proofs.KeptFiles.{has_kept, keeps_is}

both_ways : false ≡ true → ⊥
both_ways e = cc

none_of : (o : Option Bytes) → is_some o ≡ false → o ≡ None
none_of None is = refl
none_of (Some b) is = cc

module _ (a b c : View) (p : Partitioner) (none : (name : FileName) → IsAbsent a name) (first : Changes (FileChange (log_name 1) AnyChange) a b) (second : Changes (ChangesOnlyManifest 1) b c) where
  -- no image has the seal before it is made
  pub still_unsealed : IsSound a → IsFolderSynced a → IsUnsealed b 1
  still_unsealed sound synced y now =
      let from = first.image y now in
      from.2.others (seal_name 1) (kinds_apart _ _ (omega arith))
      ∙ none_of (get from.0 (seal_name 1)) (synced from.0 (seal_name 1) (sound.told from.0 from.1) from.1 ∙ ap (λ (o : Option Bytes). is_some o) (none (seal_name 1)))

  apart : (name kept : FileName) → keeps (Store 1 1 1) [] name ≡ false → keeps (Store 1 1 1) [] kept ≡ true → name ≢ kept
  apart name kept other is same = both_ways (sym other ∙ ap (keeps (Store 1 1 1) []) same ∙ is)

  -- other names are still absent
  others_absent : (name : FileName) → keeps (Store 1 1 1) [] name ≡ false → IsAbsent c name
  others_absent name other =
      let no_log = apart name (log_name 1) other (keeps_segment 1 1 1 [] 1 (omega arith) (omega arith)) in
      let no_manifest = apart name (manifest_name 1) other (keeps_manifest 1 1 1 []) in
      let no_seal = apart name (seal_name 1) other (keeps_seal 1 1 1 []) in
      let in_b = absent_where a b name (contents_other a b (log_name 1) name AnyChange no_log first) (none name) in
      absent_where b c name (contents_kept b c (ChangesOnlyManifest 1) name (λ x y touches. touches name no_manifest no_seal) second) in_b

  pub kept_first : (at log_at : ℕ) → IsSound a → IsSound c → IsFolderSynced a → (IsUnsealed b 1 → IsFileDurable c (seal_name 1) []) → Reaches c (manifest_name 1) at → Reaches c (log_name 1) log_at
      → (folder : Folder) → c.files ≡ Some folder → HasKept (record { manifest = 1; listing = new_listing p }) folder
  kept_first at log_at sound_a sound_c synced sealed manifest log folder files =
      let told : IsTold c = ap (λ (o : Option Folder). is_some o) files in
      has_kept (record { manifest = 1; listing = new_listing p }) folder
      (there (manifest_name 1) (manifest told).0 (manifest told).1)
      (ap (λ (o : Option Bytes). is_some o) (sealed (still_unsealed sound_a synced) folder (sound_c.reads folder files)))
      (λ segment above below. (let one : segment ≡ 1 = omega (arith, above, below) in subst (λ n. IsSome (get folder (log_name n))) (sym one) (there (log_name 1) (log told).0 (log told).1)))
      (λ n is. cc)
      (λ name other. sym (reads name) ∙ others_absent name (keeps_is 1 (new_listing p) [] name refl ∙ other))
    where
      reads : (name : FileName) → contents c name ≡ get folder name
      reads name = ap (λ (o : Option Folder). contents_in o name) files

      there : (name : FileName) (bytes : Bytes) → contents c name ≡ Some bytes → IsSome (get folder name)
      there name bytes is = ap (λ (o : Option Bytes). is_some o) (sym (reads name) ∙ is)
