-- Open manifests, and what a crash leaves of a manifest and its seal.
use Rattle.std.specs.Prelude.{Bool, IsTrue, ◌≡◌, ◌≢◌, ◌⊎◌, ℕ, ◌+◌, ◌≤◌, ◌^◌, List, [], Some, None}
use Rattle.std.specs.FinMap.{get}
use Rattle.sasi_host.specs.declared.name.FileName.{FileName}
use Rattle.sasi_host.specs.Names.{Bytes, Folder, manifest_name, seal_name}
use Rattle.sasi_host.specs.View.{View}
use Rattle.sasi_host.specs.Disk.{Each}
use Rattle.sasi_gated.specs.Handles.{Handle, IsAtEnd}
use Rattle.sasi_manifest.specs.declared.listing.Listing.{Listing}
use Rattle.sasi_manifest.specs.Consistent.{IsConsistent}
use Rattle.sasi_manifest.specs.Format.{IsManifest}
use Rattle.sasi_manifest.specs.Abbreviations.{Builds}

-- the model of an open manifest
pub record ManifestState : Type 0 where
  pub number : ℕ
  -- the offset of its closed gate
  pub at : ℕ
  -- every call on it succeeded
  pub usable : Bool
  pub listing : Listing

-- the gated file is at the closed gate, at the end of the listing
pub record IsAtListingEnd (gated : Handle) (listing : Listing) : Type 0 where
  pub fits : gated.at ≤ 2 ^ 62
  pub reaches : listing.length ≡ gated.at + 1
  pub few_records : listing.records ≤ gated.at
  pub handle : IsTrue gated.usable

-- the gated file is that of the manifest, and is ready while the manifest is usable
pub record IsOpenManifest (number : ℕ) (gated : Handle) (listing : Listing) (usable : Bool) : Type 0 where
  pub file : gated.file ≡ manifest_name number
  pub ready : IsTrue usable → IsAtListingEnd gated listing
  pub consistent : IsConsistent listing

-- the manifest is durable with this listing, and its closed gate is at this offset
pub record ManifestStands (v : View) (number at : ℕ) (listing : Listing) : Type 0 where
  pub records : List Bytes
  pub at_end : IsAtEnd v (manifest_name number) at records
  pub builds : Builds records listing

-- the manifest has the former listing or the next
abbrev pub IsEither : ℕ → Listing → Listing → Bytes → Type 0
IsEither number former next bytes = IsManifest number bytes former ⊎ IsManifest number bytes next

-- no image has a seal of this number
abbrev pub IsUnsealed : View → ℕ → Type 0
IsUnsealed v number = Each v (λ folder. get folder (seal_name number) ≡ None)

-- there is no seal, or an empty one and a whole manifest with this listing
abbrev pub IsSealedWhole : ℕ → Listing → Folder → Type 0
IsSealedWhole number listing folder =
    (get folder (seal_name number) ≡ None)
    ⊎ ((get folder (seal_name number) ≡ Some []) × (bytes : Bytes) × (get folder (manifest_name number) ≡ Some bytes) × IsManifest number bytes listing)

-- only this manifest and its seal change
abbrev pub ChangesOnlyManifest : ℕ → Folder → Folder → Type 0
ChangesOnlyManifest number old new = (name : FileName) → name ≢ manifest_name number → name ≢ seal_name number → get new name ≡ get old name

-- a manifest and its seal are created: no other file changes, and where there is the seal the manifest is whole
pub record Creates (number : ℕ) (listing : Listing) (old new : Folder) : Type 0 where
  pub others : ChangesOnlyManifest number old new
  pub whole : IsSealedWhole number listing new
