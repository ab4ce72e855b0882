-- The parts of a view: their files are there, and none is listed twice.
use Rattle.std.proofs.Common.{◌≡◌, ◌≢◌, ℕ, zero, suc, ◌+◌, ◌-◌, ◌<◌, ◌≤◌, ◌||◌, Bool, true, false, if◌then◌else◌, nat_eq, List, [], ◌∷◌, ◌++◌, map, slice_get, Option, None, Some, refl, sym, ap, subst, ◌∙◌, arith}
use Rattle.std.proofs.lemmas.Bool.Decides.{nat_tests}
use Rattle.std.proofs.lemmas.Bool.{or_left, or_right}
use Rattle.std.specs.Prelude.{Contains}
use Rattle.std.specs.List.{AllByRecursion, list_any}
use Rattle.std.specs.Option.{option_map_or}
use Rattle.sasi_host.specs.declared.name.FileName.{FileName}
use Rattle.sasi_host.specs.NameLaws.{same_name, test_apart}
use Rattle.sasi_host.specs.Names.{data_name, manifest_name, name_eq, rank, seal_name}
use Rattle.sasi_host.specs.View.{IsThere, View}
use Rattle.sasi_manifest.specs.declared.files.ListedFile.{ListedFile}
use Rattle.sasi_manifest.specs.declared.files.PartNumber.{PartNumber}
use Rattle.sasi_manifest.specs.Consistent.{FilesRise, HasParts, NumbersRise}
use Rattle.sasi_manifest.specs.Edits.{files_of}
use Rattle.sasi_manifest.specs.FileNames.{has_name}
use Rattle.sasi_manifest.specs.ListedDefinition.{ListedDefinition}
use Rattle.sasi_manifest.specs.ListedFiles.{FitParts, IndexesRise, index_name, is_name_of}
use Rattle.sasi_layout.proofs.FileNameLaws.{has_name_by, have_name, name_itself}
use Rattle.sasi_layout.proofs.KeptLaws.{kept_there}
use Rattle.sasi_layout.specs.Kept.{Kept, has_segment, is_kept}
use Rattle.sasi_layout.specs.Serving.{CanChange, kept_by}
use Rattle.sasi_views.specs.declared.component.Component.{Component}
use Rattle.sasi_views.specs.declared.component.Component.TheVariants.{File, Map}
use Rattle.sasi_views.specs.Components.{lists, same}
use Rattle.sasi_views.specs.Parts.{ListsOnce, components_of, part_components}
use Rattle.sasi_engine.specs.Plans.{is_file_of}
use Rattle.sasi_tables.proofs.ListedFrames.{file_named}
use Rattle.sasi_tables.specs.TablesView.{memory_of}
use Rattle.sasi_tables.specs.ViewParts.{current_parts, file_part, listed_parts, table_numbers}
use Rattle.sasi_tables.specs.Held.{Rise, numbers_of}
use Rattle.sasi_tables.specs.TablesView.{IsOfParts}
use Rattle.sasi_tables.specs.declared.table_maps.TableMaps.{TableMaps}
use Rattle.std.specs.declared.cmp.Ordering.{Ordering}
use Rattle.std.specs.declared.cmp.Ordering.TheVariants.{Less, Equal, Greater}
use Rattle.std.specs.Ordering.{is_eq, nat_cmp}
use Rattle.sasi_tables.specs.declared.parts.Parts.{Parts}

-- ---- the files of a table

-- what the files of each table have
pub files_have : (P : List ListedFile → Type 0) → P [] → (ts : List ListedDefinition) (at : ℕ) → AllByRecursion (λ (t : ListedDefinition). P t.files) ts → P (option_map_or (λ t. t.files) (slice_get ts at) [])
files_have P none [] at all = none
files_have P none (t ∷ ts) zero all = all.0
files_have P none (t ∷ ts) (suc at) all = files_have P none ts at all.1

-- what one of them is called, a file of the tables is called
pub name_listed : (ts : List ListedDefinition) (at : ℕ) (name : FileName) → have_name (option_map_or (λ t. t.files) (slice_get ts at) []) name ≡ true → list_any (λ t. have_name t.files name) ts ≡ true
name_listed [] at name is = is
name_listed (t ∷ ts) zero name is = or_left (have_name t.files name) (list_any (λ t. have_name t.files name) ts) is
name_listed (t ∷ ts) (suc at) name is = or_right (have_name t.files name) (list_any (λ t. have_name t.files name) ts) (name_listed ts at name is)

-- what a file of one of them is called, it is called
pub table_names : (ts : List ListedDefinition) (at : ℕ) (t : ListedDefinition) → slice_get ts at ≡ Some t → (f : ListedFile) → Contains t.files f → (name : FileName) → is_name_of f name ≡ true → has_name ts name ≡ true
table_names ts at t there f has name named =
    has_name_by name ts ∙ name_listed ts at name (ap (λ (o : Option ListedDefinition). have_name (option_map_or (λ (u : ListedDefinition). u.files) o []) name) there ∙ file_named name t.files f has named)

-- as its data file is
pub table_lists : (ts : List ListedDefinition) (at : ℕ) (t : ListedDefinition) → slice_get ts at ≡ Some t → (f : ListedFile) → Contains t.files f → has_name ts (data_name f.number) ≡ true
table_lists ts at t there f has = table_names ts at t there f has (data_name f.number) (ap (λ b. b || list_any (name_eq (data_name f.number)) (map (index_name f.number) f.parts)) (name_itself (data_name f.number)))

-- and is kept
pub listed_kept : (k : Kept) (name : FileName) → has_name k.listing.tables name ≡ true → is_kept k name ≡ true
listed_kept k name is =
    let segment : Bool = has_segment k.listing.floor k.listing.last name in
    or_right (name_eq name (manifest_name k.manifest)) (name_eq name (seal_name k.manifest) || (segment || has_name k.listing.tables name))
    (or_right (name_eq name (seal_name k.manifest)) (segment || has_name k.listing.tables name) (or_right segment (has_name k.listing.tables name) is))

-- the files of a view are those that are listed
maps_no_files : (ns : List ℕ) (name : FileName) → is_file_of (listed_parts [] ns) name ≡ false
maps_no_files [] name = refl
maps_no_files (n ∷ ns) name = maps_no_files ns name

pub view_files : (fs : List ListedFile) (ns : List ℕ) (name : FileName) → is_file_of (listed_parts fs ns) name ≡ have_name fs name
view_files [] ns name = maps_no_files ns name
view_files (f ∷ fs) ns name = ap (λ b. is_name_of f name || b) (view_files fs ns name)

-- ---- how often a component is listed

abbrev one_if : Bool → ℕ
one_if b = if b then 1 else 0

pub lists_both : (c : Component) (xs ys : List Component) → lists c (xs ++ ys) ≡ lists c xs + lists c ys
lists_both c [] ys = omega arith
lists_both c (x ∷ xs) ys = omega (arith, lists_both c xs ys)

-- ---- a map

no_map : (n number : ℕ) (ps : List PartNumber) → lists (Map n) (map (λ p. File (index_name number p)) ps) ≡ 0
no_map n number [] = refl
no_map n number (p ∷ ps) = omega (arith, no_map n number ps)

same_numbers : (a b : ℕ) → same (Map a) (Map b) ≡ true → a ≡ b
same_numbers a b is = by (nat_cmp a b) refl is
  where
    by : (o : Ordering) → nat_cmp a b ≡ o → is_eq o ≡ true → a ≡ b
    by Less o h = cc
    by Equal o h = grind (arith, nat_tests)
    by Greater o h = cc

-- maps with higher numbers
maps_none : (n : ℕ) (ns : List ℕ) → AllByRecursion (λ k. n < k) ns → lists (Map n) (components_of (listed_parts [] ns)) ≡ 0
maps_none n [] above = refl
maps_none n (k ∷ ns) above = by (same (Map k) (Map n)) refl (maps_none n ns above.1)
  where
    by : (b : Bool) → same (Map k) (Map n) ≡ b → lists (Map n) (components_of (listed_parts [] ns)) ≡ 0 → one_if b + lists (Map n) (components_of (listed_parts [] ns)) ≡ 0
    by true is rest = absurd (omega (arith, above.0, same_numbers k n is))
    by false is rest = omega (arith, rest)

-- of rising numbers each is there once at most
maps_once : (n : ℕ) (ns : List ℕ) → Rise ns → lists (Map n) (components_of (listed_parts [] ns)) ≤ 1
maps_once n [] rise = omega arith
maps_once n (k ∷ ns) rise = by (same (Map k) (Map n)) refl (maps_once n ns rise.1)
  where
    by : (b : Bool) → same (Map k) (Map n) ≡ b → lists (Map n) (components_of (listed_parts [] ns)) ≤ 1 → one_if b + lists (Map n) (components_of (listed_parts [] ns)) ≤ 1
    by true is rest = omega (arith, maps_none n ns (subst (λ i. AllByRecursion (λ (j : ℕ). i < j) ns) (same_numbers k n is) rise.0))
    by false is rest = omega (arith, rest)

map_once : (n : ℕ) (ns : List ℕ) (fs : List ListedFile) → Rise ns → lists (Map n) (components_of (listed_parts fs ns)) ≤ 1
map_once n ns [] rise = maps_once n ns rise
map_once n ns (f ∷ fs) rise =
    let indexes = map (λ p. File (index_name f.number p)) f.parts in
    omega (arith, no_map n f.number f.parts, lists_both (Map n) indexes (components_of (listed_parts fs ns)), map_once n ns fs rise)

-- ---- a file

module _ (name : FileName) where
  abbrev count : List Component → ℕ
  count xs = lists (File name) xs

  -- the index files of these parts, with the data file of this number
  abbrev indexes : ℕ → List PartNumber → List Component
  indexes number ps = map (λ p. File (index_name number p)) ps

  parts_apart : (number : ℕ) (ps : List PartNumber) → AllByRecursion (λ (p : PartNumber). index_name number p ≢ name) ps → count (indexes number ps) ≡ 0
  parts_apart number [] all = refl
  parts_apart number (p ∷ ps) all = omega (arith, ap one_if (test_apart (index_name number p) name all.0), parts_apart number ps all.1)

  each_apart : (number : ℕ) → ((p : PartNumber) → index_name number p ≢ name) → (ps : List PartNumber) → AllByRecursion (λ (p : PartNumber). index_name number p ≢ name) ps
  each_apart number apart [] = tt
  each_apart number apart (p ∷ ps) = (apart p, each_apart number apart ps)

  -- those of indexes with higher numbers
  above_apart : (number above : ℕ) (ps : List PartNumber) → NumbersRise above (map (λ (q : PartNumber). q.index) ps) → name.index ≤ above → AllByRecursion (λ (p : PartNumber). index_name number p ≢ name) ps
  above_apart number above [] rise below = tt
  above_apart number above (p ∷ ps) rise below = (
    (λ is. (let own : p.index ≡ name.index = ap (λ (n : FileName). n.index) is in omega (arith, own, rise.0, below))),
    above_apart number p.index ps rise.1 (omega (arith, rise.0, below)),
  )

  others_rise : (above : ℕ) (ps : List PartNumber) → NumbersRise above (map (λ (q : PartNumber). q.index) ps) → IndexesRise ps
  others_rise above [] rise = tt
  others_rise above (p ∷ ps) rise = rise.1

  -- of each index there is one part at most
  index_once : (number : ℕ) (ps : List PartNumber) → IndexesRise ps → count (indexes number ps) ≤ 1
  index_once number [] rise = omega arith
  index_once number (p ∷ ps) rise = by (same (File (index_name number p)) (File name)) refl (index_once number ps (others_rise p.index ps rise))
    where
      by : (b : Bool) → same (File (index_name number p)) (File name) ≡ b → count (indexes number ps) ≤ 1 → one_if b + count (indexes number ps) ≤ 1
      by true is rest =
          let own : p.index ≡ name.index = ap (λ (n : FileName). n.index) (same_name (index_name number p) name is) in
          omega (arith, parts_apart number ps (above_apart number p.index ps rise (omega (arith, own))))
      by false other rest = omega (arith, rest)

  -- a data file with its index files
  file_once : (f : ListedFile) → IndexesRise f.parts → count (part_components (file_part f)) ≤ 1
  file_once f rise = by (same (File (data_name f.number)) (File name)) refl
    where
      by : (b : Bool) → same (File (data_name f.number)) (File name) ≡ b → one_if b + count (indexes f.number f.parts) ≤ 1
      by true is =
          let own : data_name f.number ≡ name = same_name (data_name f.number) name is in
          omega (arith, parts_apart f.number f.parts (each_apart f.number (λ p other. (let kinds : 4 ≡ 3 = ap (λ (n : FileName). rank n.kind) (other ∙ sym own) in omega (arith, kinds))) f.parts))
      by false other = omega (arith, index_once f.number f.parts rise)

  -- those of another number
  file_apart : (f : ListedFile) → f.number ≢ name.number → count (part_components (file_part f)) ≡ 0
  file_apart f apart =
      omega (
        arith,
        ap one_if (test_apart (data_name f.number) name (λ is. apart (ap (λ (n : FileName). n.number) is))),
        parts_apart f.number f.parts (each_apart f.number (λ p is. apart (ap (λ (n : FileName). n.number) is)) f.parts),
      )

  no_file : (ns : List ℕ) → count (components_of (listed_parts [] ns)) ≡ 0
  no_file [] = refl
  no_file (n ∷ ns) = ap (λ (k : ℕ). 0 + k) (no_file ns)

  module _ (ns : List ℕ) where
    files_apart : (above : ℕ) (fs : List ListedFile) → FilesRise above fs → name.number ≤ above → count (components_of (listed_parts fs ns)) ≡ 0
    files_apart above [] rise below = no_file ns
    files_apart above (f ∷ fs) rise below =
        omega (
          arith,
          lists_both (File name) (part_components (file_part f)) (components_of (listed_parts fs ns)),
          file_apart f (λ own. omega (arith, own, rise.0, below)),
          files_apart f.number fs rise.2 (omega (arith, rise.0, below)),
        )

    files_once : (above : ℕ) (fs : List ListedFile) → FilesRise above fs → AllByRecursion (λ (f : ListedFile). IndexesRise f.parts) fs → count (components_of (listed_parts fs ns)) ≤ 1
    files_once above [] rise parts = omega (arith, no_file ns)
    files_once above (f ∷ fs) rise parts = by (nat_eq f.number name.number) refl (files_once f.number fs rise.2 parts.1)
      where
        both : count (components_of (listed_parts (f ∷ fs) ns)) ≡ count (part_components (file_part f)) + count (components_of (listed_parts fs ns))
        both = lists_both (File name) (part_components (file_part f)) (components_of (listed_parts fs ns))

        by : (b : Bool) → nat_eq f.number name.number ≡ b → count (components_of (listed_parts fs ns)) ≤ 1 → count (components_of (listed_parts (f ∷ fs) ns)) ≤ 1
        by true is rest =
            let own : f.number ≡ name.number = grind (arith, nat_tests, is) in
            omega (arith, both, file_once f parts.0, files_apart f.number fs rise.2 (omega (arith, own)))
        by false other rest =
            omega (arith, both, rest, file_apart f (λ own. (let is : nat_eq f.number name.number ≡ true = grind (arith, nat_tests, own) in let no : true ≡ false = sym is ∙ other in cc)))

-- ---- the parts of a listed table

file_parts_rise : (numbers : List ℕ) (fs : List ListedFile) → AllByRecursion (λ (f : ListedFile). FitParts numbers f.parts) fs → AllByRecursion (λ (f : ListedFile). IndexesRise f.parts) fs
file_parts_rise numbers [] all = tt
file_parts_rise numbers (f ∷ fs) all = (all.0.rise, file_parts_rise numbers fs all.1)

parts_rise : (ts : List ListedDefinition) → AllByRecursion HasParts ts → AllByRecursion (λ (t : ListedDefinition). AllByRecursion (λ (f : ListedFile). IndexesRise f.parts) t.files) ts
parts_rise [] all = tt
parts_rise (t ∷ ts) all = (file_parts_rise t.numbers t.files all.0, parts_rise ts all.1)

module _ (v : View) (p : Parts) (ready : CanChange v (memory_of p)) (number : ℕ) where
  abbrev tables : List ListedDefinition
  tables = p.manifest.listing.tables

  abbrev files : List ListedFile
  files = files_of tables number

  abbrev maps : List ℕ
  maps = table_numbers p.tables.items number

  -- the manifest lists the files of a view of current parts,
  pub view_listed : (name : FileName) → is_file_of (current_parts p number) name ≡ true → has_name tables name ≡ true
  view_listed name is = has_name_by name tables ∙ name_listed tables (number - 1) name (sym (view_files files maps name) ∙ is)

  -- **they are there,**
  pub view_there : (name : FileName) → is_file_of (current_parts p number) name ≡ true → IsThere v name
  view_there name is = kept_there v ready.aside (kept_by (memory_of p)) name ready.exactly (listed_kept (kept_by (memory_of p)) name (view_listed name is))

  -- **and none of them is listed twice.**
  pub view_once : IsOfParts p → ListsOnce (current_parts p number)
  view_once of (Map n) = map_once n maps files (by (slice_get p.tables.items (number - 1)) refl)
    where
      by : (o : Option TableMaps) → slice_get p.tables.items (number - 1) ≡ o → Rise (option_map_or numbers_of o [])
      by None is = tt
      by (Some x) is = of.mapped.rising (number - 1) x is
  view_once of (File name) =
      files_once name maps 0 files (files_have (FilesRise 0) tt tables (number - 1) ready.consistent.files)
      (files_have (AllByRecursion (λ (f : ListedFile). IndexesRise f.parts)) tt tables (number - 1) (parts_rise tables ready.consistent.parts))
