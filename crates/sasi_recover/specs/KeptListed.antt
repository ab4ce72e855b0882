-- Which files an opening leaves as they are, whatever is damaged.
use Rattle.std.specs.Prelude.{◌≡◌, ℕ, true, Some}
use Rattle.std.specs.FinMap.{get}
use Rattle.sasi_host.specs.declared.name.FileName.{FileName}
use Rattle.sasi_host.specs.Names.{Bytes, Folder, manifest_name}
use Rattle.sasi_manifest.specs.declared.listing.Listing.{Listing}
use Rattle.sasi_manifest.specs.Format.{IsManifest}
use Rattle.sasi_manifest.specs.OpenManifest.{ManifestState}
use Rattle.sasi_layout.specs.Kept.{Kept, is_kept}

-- what a store with this manifest keeps
abbrev pub kept_under : ManifestState → Kept
kept_under m = record { manifest = m.number; listing = m.listing }

-- the kept files stay as they are
abbrev pub KeepsAll : Kept → Folder → Folder → Type 0
KeepsAll k x y = (name : FileName) → is_kept k name ≡ true → get y name ≡ get x name

-- The file is the manifest of this number, its seal, or one that it lists. Where the manifest can't be read, each file is.
abbrev pub IsKeptUnder : Folder → ℕ → FileName → Type 0
IsKeptUnder folder number name = (bytes : Bytes) (listing : Listing) → get folder (manifest_name number) ≡ Some bytes → IsManifest number bytes listing → is_kept (record { manifest = number; listing = listing }) name ≡ true

-- Those files stay as they are.
abbrev pub KeepsListed : Folder → ℕ → Folder → Folder → Type 0
KeepsListed folder number x y = (name : FileName) → IsKeptUnder folder number name → get y name ≡ get x name
