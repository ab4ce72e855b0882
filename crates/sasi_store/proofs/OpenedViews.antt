-- The view of a cursor that is opened: the current parts of its table without the memtable, which is empty then.
use Rattle.std.proofs.Common.{◌≡◌, ◌-◌, ◌≤◌, ◌++◌, ◌||◌, ◌==◌, Bool, true, false, not, ℕ, List, [], ◌∷◌, length, map, slice_get, Option, None, Some, refl, sym, ap, subst, ◌∙◌, append_assoc, arith, eqb-true, inl}
use Rattle.std.specs.Prelude.{Contains}
use Rattle.std.proofs.lemmas.Grind.{flat_map-append}
use Rattle.std.proofs.lemmas.List.{map-append}
use Rattle.std.specs.FinMap as map_
use Rattle.std.specs.FinMap.{get}
use Rattle.std.specs.List.{AllByRecursion, list_any}
use Rattle.std.specs.Option.{option_map_or}
use Rattle.sasi_types.specs.declared.column.ColumnType.{ColumnType}
use Rattle.sasi_host.specs.Names.{data_name, name_eq}
use Rattle.sasi_host.specs.View.{View}
use Rattle.sasi_layout.proofs.FileNameLaws.{has_name_by, name_itself}
use Rattle.sasi_layout.specs.Serving.{CanChange}
use Rattle.sasi_layout.specs.Statements.{any_partition}
use Rattle.sasi_manifest.specs.ListedFiles.{index_name}
use Rattle.sasi_manifest.specs.declared.files.ListedFile.{ListedFile}
use Rattle.sasi_manifest.specs.Edits.{files_of}
use Rattle.sasi_memindex.specs.Book.{Book}
use Rattle.sasi_memindex.specs.declared.map_part.MapPart.{MapPart}
use Rattle.sasi_memtable.specs.MemtableView.{MemtableView}
use Rattle.sasi_machine.specs.TableRows.{AreStored}
use Rattle.sasi_model.specs.Abbreviations.{Partitions}
use Rattle.sasi_scan.specs.Numbered.{views_numbered}
use Rattle.sasi_sources.specs.KeyCandidates.{HasKeyType}
use Rattle.sasi_views.specs.Components.{lists}
use Rattle.sasi_views.specs.Parts.{ListsOnce, components_of, part_components}
use Rattle.sasi_views.specs.declared.part.Part as view
use Rattle.sasi_views.specs.declared.part.Part.TheVariants as view_part
use Rattle.sasi_engine.specs.Findable.{CanFind}
use Rattle.sasi_engine.specs.Plans.{map_numbers}
use Rattle.sasi_plan.specs.Reading.{PendingReady}
use Rattle.sasi_plan.specs.declared.plan.PlanSource.{PlanSource}
use Rattle.sasi_plan.specs.declared.plan.PlanSource.TheVariants.{Nothing, OfKey, OfTable}
use Rattle.sasi_tables.proofs.HeldMaps.{first_in, later_in}
use Rattle.sasi_tables.proofs.ListedFrames.{file_named}
use Rattle.sasi_store.proofs.ListedNumbers.{listed_number}
use Rattle.sasi_tables.proofs.PinnedMaps.{frozen_aside}
use Rattle.sasi_tables.specs.Held.{numbers_of}
use Rattle.sasi_tables.specs.Pinned.{IsAside}
use Rattle.sasi_tables.specs.TablesView.{IsOfParts, memory_of}
use Rattle.sasi_tables.specs.ViewParts.{aside_parts, current_parts, file_part, listed_parts}
use Rattle.sasi_tables.specs.declared.parts.Parts.{Parts}
use Rattle.sasi_tables.specs.declared.table_maps.TableMaps.{TableMaps}
use Rattle.sasi_store.specs.Cursors.{IsKeptPart}
use Rattle.sasi_store.proofs.AsideViews.{all_front}
use Rattle.sasi_store.proofs.ViewDamage.{each_in}
use Rattle.sasi_store.proofs.ViewFiles.{lists_both, name_listed}

-- a map that holds nothing
pub holds_nothing : (m : Partitions) → any_partition (m ∷ []) ≡ false → m ≡ map_.empty
holds_nothing m none = by (length (map_.entries m) == 0) refl none
  where
    by : (b : Bool) → (length (map_.entries m) == 0) ≡ b → (not b || false) ≡ false → m ≡ map_.empty
    by true is none = map_.empty_of_len m (map_.len-entries m ∙ eqb-true (length (map_.entries m)) 0 is)
    by false is none = cc

-- ---- without the last map

module _ (book : Book) (n : ℕ) where
  -- what holds of the maps of a view holds of those in front
  maps_front : (P : MemtableView → Type 0) (vs : List view.Part) → AllByRecursion P (views_numbered book (map_numbers (vs ++ view_part.Map n ∷ []))) → AllByRecursion P (views_numbered book (map_numbers vs))
  maps_front P [] all = tt
  maps_front P (view_part.File number indexes ∷ vs) all = maps_front P vs all
  maps_front P (view_part.Map k ∷ vs) all = by (get book k) all (maps_front P vs)
    where
      by : (o : Option MapPart) → AllByRecursion P (option_map_or (λ (part : MapPart). part.map ∷ []) o [] ++ views_numbered book (map_numbers (vs ++ view_part.Map n ∷ [])))
          → (AllByRecursion P (views_numbered book (map_numbers (vs ++ view_part.Map n ∷ []))) → AllByRecursion P (views_numbered book (map_numbers vs)))
          → AllByRecursion P (option_map_or (λ (part : MapPart). part.map ∷ []) o [] ++ views_numbered book (map_numbers vs))
      by None all rest = rest all
      by (Some part) all rest = (all.0, rest all.1)

  -- **What is read in a view can be read in its front:** the keys are of one type,
  pub keys_front : (types : List ColumnType) (kind : ColumnType) (vs : List view.Part) → HasKeyType types (views_numbered book (map_numbers (vs ++ view_part.Map n ∷ []))) kind → HasKeyType types (views_numbered book (map_numbers vs)) kind
  keys_front types kind vs is = record { first = is.first; stored = maps_front (λ (m : MemtableView). AreStored kind m.partitions) vs is.stored }

  -- **and the relations can be found.**
  pub ready_front : (source : PlanSource) (vs : List view.Part) → PendingReady source (vs ++ view_part.Map n ∷ []) book → PendingReady source vs book
  ready_front Nothing vs is = is
  ready_front (OfKey key relations) vs is = (is.0, all_front (CanFind book relations.items) vs (view_part.Map n) is.1)
  ready_front (OfTable relations) vs is = (is.0, all_front (CanFind book relations.items) vs (view_part.Map n) is.1)

-- ---- the parts of a table

module _ (p : Parts) (table : ℕ) (x : TableMaps) (there : slice_get p.tables.items (table - 1) ≡ Some x) where
  abbrev files : List ListedFile
  files = files_of p.manifest.listing.tables table

  abbrev memtable : view.Part
  memtable = view_part.Map x.memtable

  -- **The memtable is the last of the current parts.**
  pub memtable_last : current_parts p table ≡ aside_parts p table ++ memtable ∷ []
  memtable_last =
      ap (λ (o : Option TableMaps). listed_parts files (option_map_or numbers_of o [])) there
      ∙ ap (λ (ps : List view.Part). map file_part files ++ ps) (map-append (λ (n : ℕ). view_part.Map n) x.frozen (x.memtable ∷ []))
      ∙ sym (append_assoc (map file_part files) (map (λ (n : ℕ). view_part.Map n) x.frozen) (memtable ∷ []))
      ∙ ap (λ (o : Option TableMaps). listed_parts files (option_map_or (λ (t : TableMaps). t.frozen) o []) ++ memtable ∷ []) (sym there)

  -- **Nothing is listed twice without it.**
  pub aside_once : ListsOnce (current_parts p table) → ListsOnce (aside_parts p table)
  aside_once once c =
      let all : lists c (components_of (aside_parts p table ++ memtable ∷ [])) ≤ 1 = subst (λ (ps : List view.Part). lists c (components_of ps) ≤ 1) memtable_last (once c) in
      omega (
        arith,
        all,
        ap (lists c) (flat_map-append part_components (aside_parts p table) (memtable ∷ [])),
        lists_both c (components_of (aside_parts p table)) (components_of (memtable ∷ [])),
      )

  parts_kept : (fs : List ListedFile) (ns : List ℕ) → AllByRecursion (λ (f : ListedFile). (f.number ≤ p.numbers.«data») × Contains files f) fs → ((n : ℕ) → Contains ns n → IsAside p n) → AllByRecursion (IsKeptPart p table) (listed_parts fs ns)
  parts_kept [] [] all each = tt
  parts_kept [] (n ∷ ns) all each = (each n (first_in n ns), parts_kept [] ns all (λ k has. each k (later_in n ns k has)))
  parts_kept (f ∷ fs) ns all each = ((all.0.0, inl all.0.1), parts_kept fs ns all.1 each)

  -- each listed file has a used number
  files_used : (v : View) → CanChange v (memory_of p) → (fs : List ListedFile) → AllByRecursion (λ (f : ListedFile). Contains files f) fs → AllByRecursion (λ (f : ListedFile). (f.number ≤ p.numbers.«data») × Contains files f) fs
  files_used v ready [] all = tt
  files_used v ready (f ∷ fs) all = (
    (
      listed_number p.manifest (memory_of p).used ready.numbered (data_name f.number)
          (has_name_by (data_name f.number) p.manifest.listing.tables
          ∙ name_listed p.manifest.listing.tables (table - 1) (data_name f.number) (file_named (data_name f.number) files f all.0 (ap (λ b. b || list_any (name_eq (data_name f.number)) (map (index_name f.number) f.parts)) (name_itself (data_name f.number))))),
      all.0,
    ),
    files_used v ready fs all.1,
  )

  -- **The others are listed files and frozen maps.**
  pub aside_kept : (v : View) → CanChange v (memory_of p) → IsOfParts p → AllByRecursion (IsKeptPart p table) (aside_parts p table)
  aside_kept v ready of =
      subst (λ (o : Option TableMaps). AllByRecursion (IsKeptPart p table) (listed_parts files (option_map_or (λ (t : TableMaps). t.frozen) o []))) (sym there)
      (parts_kept files x.frozen (files_used v ready files (each_in files)) (λ n has. frozen_aside p of (table - 1) x there n has))
