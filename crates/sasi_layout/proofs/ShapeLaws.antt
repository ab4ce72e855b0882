-- Other files don't matter to a shape; and the shape of what a crash leaves of a layout.
use Rattle.std.specs.Prelude.{ℕ, suc, List, Some, refl, length, map, ◌≡◌, ◌+◌, ◌∷◌, []}
use Rattle.std.proofs.Common.{◌∙◌, sym, ap, subst, arith}
use Rattle.std.specs.FinMap.{get}
use Rattle.std.specs.List.{AllByRecursion}
use Rattle.sasi_types.specs.declared.partitioner.Partitioner.{Partitioner}
use Rattle.sasi_model.specs.State.{Definition}
use Rattle.sasi_cells.specs.declared.mutation.Mutation.{Mutation}
use Rattle.sasi_host.specs.Names.{Bytes, Folder, manifest_name, data_name}
use Rattle.sasi_datawrite.specs.Format.{Content}
use Rattle.sasi_manifest.specs.declared.files.PartNumber.{PartNumber}
use Rattle.sasi_manifest.specs.Format.{IsManifest}
use Rattle.sasi_manifest.specs.Types.{numbered_types}
use Rattle.sasi_manifest.specs.declared.listing.Listing.{Listing}
use Rattle.sasi_folder.proofs.FolderLaws.{sealed_kept, segments_kept}
use Rattle.sasi_folder.specs.FolderContents.{HasSegments, IsSealed}
use Rattle.sasi_layout.proofs.LayoutLaws.{bare_listing}
use Rattle.sasi_manifest.specs.ListedFiles.{index_name}
use Rattle.sasi_layout.specs.Frames.{AgreeOn, AgreeOnFiles, AgreeOnTables, AreAlike, SameFiles}
use Rattle.sasi_layout.specs.Layout.{File, IsIdle, Layout, TableParts, bare, bare_table, listing_of, used_in}
use Rattle.sasi_layout.specs.Shape.{HasFile, HasIndexFile, AreShaped, HasShape}

-- ---- other files don't matter

parts_kept : (x y : Folder) (p : Partitioner) (d : Definition) (ns : List ℕ) (number : ℕ) (content : Content) (ps : List PartNumber) → AreAlike x y (map (index_name number) ps) → AllByRecursion (HasIndexFile x p d ns number content) ps → AllByRecursion (HasIndexFile y p d ns number content) ps
parts_kept x y p d ns number content [] same has = tt
parts_kept x y p d ns number content (part ∷ ps) same has = (
  record { index = has.0.index; defined = has.0.defined; bytes = has.0.bytes; there = same.0 ∙ has.0.there; stands = has.0.stands; fits = has.0.fits },
  parts_kept x y p d ns number content ps same.1 has.1,
)

pub files_kept : (x y : Folder) (p : Partitioner) (d : Definition) (ns : List ℕ) (fs : List File) → AgreeOnFiles x y fs → AllByRecursion (HasFile x p d ns) fs → AllByRecursion (HasFile y p d ns) fs
files_kept x y p d ns [] same has = tt
files_kept x y p d ns (f ∷ fs) same has = (
  record { bytes = has.0.bytes; content = has.0.content; there = same.0.0 ∙ has.0.there; data_file = has.0.data_file; fits = has.0.fits; keys = has.0.keys; holds = has.0.holds; indexes = parts_kept x y p d ns f.listed.number has.0.content f.listed.parts same.0.1 has.0.indexes },
  files_kept x y p d ns fs same.1 has.1,
)

parts_agree : (x y : Folder) → SameFiles x y → (number : ℕ) (ps : List PartNumber) → AreAlike x y (map (index_name number) ps)
parts_agree x y same number [] = tt
parts_agree x y same number (p ∷ ps) = (same (index_name number p) (omega arith), parts_agree x y same number ps)

pub all_agree : (x y : Folder) → SameFiles x y → (fs : List File) → AgreeOnFiles x y fs
all_agree x y same [] = tt
all_agree x y same (f ∷ fs) = ((same (data_name f.listed.number) (omega arith), parts_agree x y same f.listed.number f.listed.parts), all_agree x y same fs)

-- where the files of the tables are the same
pub tables_kept : (x y : Folder) (p : Partitioner) (floor number : ℕ) (logs : List (List Mutation)) (ts : List TableParts) → AgreeOnTables x y ts
    → AreShaped x p floor number logs ts → AreShaped y p floor number logs ts
tables_kept x y p floor number logs [] same are = tt
tables_kept x y p floor number logs (t ∷ ts) same are = (
  record { files = files_kept x y p t.definition t.numbers t.files same.0 are.0.files; idle = are.0.idle; memtable = are.0.memtable; first = are.0.first },
  tables_kept x y p floor (suc number) logs ts same.1 are.1,
)

pub tables_agree : (x y : Folder) → SameFiles x y → (ts : List TableParts) → AgreeOnTables x y ts
tables_agree x y same [] = tt
tables_agree x y same (t ∷ ts) = (all_agree x y same t.files, tables_agree x y same ts)

-- where all files that tables can have are the same
pub shaped_kept : (x y : Folder) (p : Partitioner) (floor number : ℕ) (logs : List (List Mutation)) (ts : List TableParts) → SameFiles x y → AreShaped x p floor number logs ts → AreShaped y p floor number logs ts
shaped_kept x y p floor number logs ts same are = tables_kept x y p floor number logs ts (tables_agree x y same ts) are

-- No other file matters.
pub shape_kept : (x y : Folder) (l : Layout) (logs : List (List Mutation)) → AgreeOn l x y → HasShape x l logs → HasShape y l logs
shape_kept x y l logs agree has = record {
  sealed = sealed_kept x y l.used.manifest agree.seals has.sealed;
  manifest = (has.manifest.0, agree.manifest ∙ has.manifest.1, has.manifest.2);
  live = has.live;
  segments = segments_kept x y (numbered_types 1 (listing_of l).tables) l.floor logs (λ segment above below. agree.logs segment above (omega (arith, below, has.live))) has.segments;
  tables = tables_kept x y l.partitioner l.floor 1 logs l.tables agree.files has.tables;
  used = has.used;
}

-- ---- the shape of a bare layout

pub bare_idle : (t : TableParts) → IsIdle (bare_table t)
bare_idle t = refl

module _ (y : Folder) (l : Layout) (listing : Listing) (logs : List (List Mutation)) (lists : listing_of l ≡ listing) where
  -- a folder with all that the layout lists, where the log holds what isn't flushed
  pub bare_shape : IsSealed y l.used.manifest → ((bytes : Bytes) × (get y (manifest_name l.used.manifest) ≡ Some bytes) × IsManifest l.used.manifest bytes listing) → l.floor + length logs ≡ suc l.last
      → HasSegments y (numbered_types 1 listing.tables) l.floor logs → AreShaped y l.partitioner l.floor 1 logs (map bare_table l.tables) → HasShape y (bare l) logs
  bare_shape sealed manifest live segments tables =
      let same : listing ≡ listing_of (bare l) = sym (bare_listing l ∙ lists) in
      record {
        sealed = sealed;
        manifest = (manifest.0, manifest.1, subst (IsManifest l.used.manifest manifest.0) same manifest.2);
        live = live;
        segments = subst (λ (e : Listing). HasSegments y (numbered_types 1 e.tables) l.floor logs) same segments;
        tables = tables;
        used = ap (used_in l.used.manifest) (lists ∙ same);
      }
