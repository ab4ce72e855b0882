-- The names of listed files: data files and index files, of used numbers.
-- belongs in sasi_tables
use Rattle.std.proofs.Common.{◌≡◌, ◌<◌, ◌≤◌, suc, true, false, sym, ◌∙◌, arith}
use Rattle.std.proofs.Math.Nat.{lt_of_not-le}
use Rattle.sasi_folder.specs.Damages.{IsListedName}
use Rattle.sasi_host.specs.declared.name.FileName.{FileName}
use Rattle.sasi_host.specs.Names.{rank}
use Rattle.sasi_layout.proofs.FileNameLaws.{other_kind, unlisted_above}
use Rattle.sasi_layout.specs.Layout.{Used}
use Rattle.sasi_layout.specs.Serving.{AreNumbered}
use Rattle.sasi_manifest.specs.OpenManifest.{ManifestState}
use Rattle.sasi_manifest.specs.declared.listing.Listing.{Listing}

never : true ≡ false → ⊥
never e = cc

-- a listed file is a data file or one of an index
pub listed_kind : (listing : Listing) (name : FileName) → IsListedName listing.tables name → 3 ≤ rank name.kind
listed_kind listing name listed =
    let above : 2 < rank name.kind = lt_of_not-le (λ low. never (sym listed ∙ other_kind name listing.tables (omega (arith, low)))) in
    omega (arith, above)

-- its number is used
pub listed_number : (m : ManifestState) (used : Used) → AreNumbered m used → (name : FileName) → IsListedName m.listing.tables name → name.number ≤ used.«data»
listed_number m used numbered name listed =
    let below : name.number < suc used.«data» = lt_of_not-le (λ above. never (sym listed ∙ unlisted_above used.«data» m.listing.last name m.listing.tables numbered.files (omega (arith, above)))) in
    omega (arith, below)
