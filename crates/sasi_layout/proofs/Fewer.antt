-- A store serves a layout as well where no image is new.
use Rattle.std.specs.Prelude.{ℕ, List}
use Rattle.sasi_host.specs.declared.name.FileName.{FileName}
use Rattle.sasi_host.specs.Names.{Bytes, Folder, log_name}
use Rattle.sasi_host.specs.View.{IsTold, View}
use Rattle.sasi_gated.specs.Handles.{IsAtEnd}
use Rattle.sasi_gated.proofs.HandleLaws.{end_stays}
use Rattle.sasi_manifest.specs.declared.listing.Listing.{Listing}
use Rattle.sasi_manifest.specs.OpenManifest.{ManifestStands}
use Rattle.sasi_manifest.proofs.Laws.{manifest_stays}
use Rattle.sasi_layout.specs.Layout.{Layout, listing_of}
use Rattle.sasi_layout.specs.Serving.{Serves, StoreInMemory}

module _ (a b : View) (fewer : (x : Folder) → b.image x → a.image x) where
  -- a gated file ends where it did
  end_fewer : (file : FileName) (at : ℕ) (records : List Bytes) → IsAtEnd a file at records → IsAtEnd b file at records
  end_fewer file at records = end_stays a b file at records (λ bytes kept x now. kept x (fewer x now))

  pub manifest_fewer : (number at : ℕ) (listing : Listing) → ManifestStands a number at listing → ManifestStands b number at listing
  manifest_fewer number at listing = manifest_stays a b number at listing (λ bytes kept x now. kept x (fewer x now))

  pub serves_fewer : (store : StoreInMemory) (l : Layout) → IsTold b → Serves a store l → Serves b store l
  serves_fewer store l told serves = record {
    told = told;
    in_order = serves.in_order;
    definitions = serves.definitions;
    tables = serves.tables;
    used = serves.used;
    timestamp = serves.timestamp;
    listing = serves.listing;
    manifest = serves.manifest;
    log = serves.log;
    older = serves.older;
    current = serves.current;
    log_end = end_fewer (log_name l.last) store.log.at _ serves.log_end;
    manifest_end = manifest_fewer l.used.manifest store.manifest.at (listing_of l) serves.manifest_end;
    shape = λ x now. serves.shape x (fewer x now);
  }
