-- Damage that a reader shows in a view is damage of the folder where a table lists its files, and else damage of a file that it holds.
use Rattle.std.proofs.Common.{◌≡◌, ◌-◌, ◌<◌, ◌||◌, ◌&&◌, Bool, true, false, nat_eq, is_some, IsSome, ℕ, zero, suc, List, [], ◌∷◌, length, map, slice_get, slice_index_or, Option, None, Some, inl, inr, refl, sym, ap, subst, ◌∙◌, arith}
use Rattle.std.specs.Prelude.{Contains}
use Rattle.std.proofs.lemmas.Bool.{or_left, or_right}
use Rattle.std.proofs.lemmas.Bool.Decides.{nat_tests}
use Rattle.std.specs.FinMap.{get}
use Rattle.std.specs.List.{AllByRecursion, list_any}
use Rattle.std.specs.Option.{option_map_or}
use Rattle.sasi_types.specs.declared.column.ColumnType.{ColumnType}
use Rattle.sasi_dataread.specs.Damages.{ShowsDataFile, in_tree, inside, opened_by, outside}
use Rattle.sasi_hits.specs.KeyTrees as keys
use Rattle.sasi_hits.specs.KeyTrees.{ShowsKeyTree}
use Rattle.sasi_lookup.specs.Files.{FileShows}
use Rattle.sasi_folder.specs.Damages as folders
use Rattle.sasi_folder.specs.Damages.{FolderShows, IsListedName, broken_content, broken_ends, broken_file, broken_index}
use Rattle.sasi_folder.specs.FolderContents.{IsSealed}
use Rattle.sasi_host.specs.declared.damage.Damage.{Damage}
use Rattle.sasi_host.specs.declared.name.FileName.{FileName}
use Rattle.sasi_host.specs.declared.name.Kind.TheVariants.{Data}
use Rattle.sasi_host.specs.Names.{Bytes, Folder, data_name, name_eq, rank, seal_name}
use Rattle.sasi_host.specs.View.{IsSound, View, contents_in}
use Rattle.sasi_layout.proofs.FileNameLaws.{data_named, has_name_by, have_name, name_same, other_kind}
use Rattle.sasi_layout.proofs.KeptLaws.{aside_kind, free_in, keeps_seal, kept_in}
use Rattle.sasi_layout.proofs.Trails.{manifest_each}
use Rattle.sasi_layout.specs.Kept.{Kept, is_kept}
use Rattle.sasi_layout.specs.Serving.{CanChange, kept_by}
use Rattle.sasi_machine.specs.declared.prepared.Selection.{Selection}
use Rattle.sasi_manifest.specs.declared.files.ListedFile.{ListedFile}
use Rattle.sasi_manifest.specs.declared.files.PartNumber.{PartNumber}
use Rattle.sasi_manifest.specs.declared.listing.Listing.{Listing}
use Rattle.sasi_manifest.specs.Edits.{files_of}
use Rattle.sasi_manifest.specs.FileNames.{has_name}
use Rattle.sasi_manifest.specs.ListedDefinition.{ListedDefinition}
use Rattle.sasi_manifest.specs.ListedFiles.{has_file, index_name, is_name_of}
use Rattle.sasi_manifest.specs.ListedTables.{listed}
use Rattle.sasi_scan.specs.Parts.{ShowsListed}
use Rattle.sasi_engine.specs.Plans.{IsShownIn, is_file_of, of_data, names_of, of_hits, of_index, of_lookup}
use Rattle.sasi_plan.specs.Plans.{PlanView}
use Rattle.sasi_plan.specs.Reading.{PendingShows, listed_files}
use Rattle.sasi_model.specs.Abbreviations.{types_of}
use Rattle.sasi_views.specs.declared.part.Part.{Part}
use Rattle.sasi_views.specs.declared.part.Part.TheVariants.{File, Map}
use Rattle.sasi_store.specs.HeldDamage.{ShowsHeld, with_files}
use Rattle.sasi_store.specs.Selects.{IsPlanFor}
use Rattle.sasi_tables.specs.TablesView.{memory_of}
use Rattle.sasi_tables.specs.ViewParts.{current_parts, listed_parts, table_numbers}
use Rattle.sasi_tables.specs.declared.parts.Parts.{Parts}
use Rattle.sasi_tables.proofs.TablesInMemory.{there_inside}
use Rattle.sasi_tables.proofs.ListedFrames.{file_named}
use Rattle.sasi_store.proofs.ListedViews.{IsOfFiles, data_listed, part_named}
use Rattle.sasi_store.proofs.ViewFiles.{listed_kept, name_listed}

-- ---- lists

all_then : {A : Type 0} (P Q : A → Type 0) → ((x : A) → P x → Q x) → (xs : List A) → AllByRecursion P xs → AllByRecursion Q xs
all_then P Q f [] all = tt
all_then P Q f (x ∷ xs) all = (f x all.0, all_then P Q f xs all.1)

pub all_within : {A : Type 0} (P : A → Type 0) (xs : List A) (x : A) (k : ℕ) → k < length xs → slice_index_or xs k x ≡ x → AllByRecursion P xs → P x
all_within P [] x k below is all = absurd (omega (arith, below))
all_within P (y ∷ xs) x zero below is all = subst P is all.0
all_within P (y ∷ xs) x (suc k) below is all = all_within P xs x k (omega (arith, below)) is all.1

index_there : {A : Type 0} (xs : List A) (k : ℕ) (x : A) → slice_get xs k ≡ Some x → slice_index_or xs k x ≡ x
index_there [] k x there = cc
index_there (y ∷ xs) zero x there = let same : y ≡ x = cc in same
index_there (y ∷ xs) (suc k) x there = index_there xs k x there

some_in : {A : Type 0} (o : Option A) → is_some o ≡ true → (x : A) × (o ≡ Some x)
some_in None some = cc
some_in (Some x) some = (x, refl)

none_in : {A : Type 0} (o : Option A) → is_some o ≡ false → o ≡ None
none_in None none = refl
none_in (Some x) none = cc

found_in : {A : Type 0} (o : Option A) → IsSome o → (x : A) × (o ≡ Some x)
found_in None some = cc
found_in (Some x) some = (x, refl)

-- one of them has what all have
in_each : (files fs : List ListedFile) → AllByRecursion (λ (f : ListedFile). Contains files f) fs → (f : ListedFile) → Contains fs f → Contains files f
in_each files fs all f has = all_within (Contains files) fs f has.0 has.1 has.2 all

pub each_in : (fs : List ListedFile) → AllByRecursion (λ (f : ListedFile). Contains fs f) fs
each_in [] = tt
each_in (f ∷ fs) = ((0, omega arith, refl), all_then (λ (g : ListedFile). Contains fs g) (λ (g : ListedFile). Contains (f ∷ fs) g) (λ g is. (suc is.0, omega (arith, is.1), is.2)) fs (each_in fs))

-- ---- listed files

-- each file has its number
pub has_each : (fs : List ListedFile) → AllByRecursion (λ (f : ListedFile). has_file fs f.number ≡ true) fs
has_each [] = tt
has_each (f ∷ fs) =
    let own : nat_eq f.number f.number ≡ true = grind (arith, nat_tests) in
    (or_left (nat_eq f.number f.number) (has_file fs f.number) own, all_then (λ (g : ListedFile). has_file fs g.number ≡ true) (λ (g : ListedFile). has_file (f ∷ fs) g.number ≡ true) (λ g is. or_right (nat_eq g.number f.number) (has_file fs g.number) is) fs (has_each fs))

pub listed_any : (tables : List ListedDefinition) (at : ℕ) (t : ListedDefinition) → slice_get tables at ≡ Some t → (n : ℕ) → has_file t.files n ≡ true → list_any (λ t. has_file t.files n) tables ≡ true
listed_any [] at t there n has = cc
listed_any (x ∷ tables) zero t there n has = let same : x ≡ t = cc in or_left (has_file x.files n) (list_any (λ t. has_file t.files n) tables) (ap (λ (d : ListedDefinition). has_file d.files n) same ∙ has)
listed_any (x ∷ tables) (suc at) t there n has = or_right (has_file x.files n) (list_any (λ t. has_file t.files n) tables) (listed_any tables at t there n has)

-- no seal with a higher number is kept
unkept_seal : (k : Kept) (other : ℕ) → k.manifest < other → is_kept k (seal_name other) ≡ false
unkept_seal k other above = by (nat_eq other k.manifest) (has_name k.listing.tables (seal_name other)) (grind (arith, nat_tests, above)) (other_kind (seal_name other) k.listing.tables (omega arith))
  where
    by : (a b : Bool) → a ≡ false → b ≡ false → ((((true && a) && true) && true) || b) ≡ false
    by true b apart unlisted = cc
    by false b apart unlisted = unlisted

-- no index file is called as a data file
no_index : (name : FileName) → name.kind ≡ Data → (number : ℕ) (ps : List PartNumber) → list_any (name_eq name) (map (index_name number) ps) ≡ false
no_index name kind number [] = refl
no_index name kind number (p ∷ ps) =
    let is : rank name.kind ≡ 3 = ap rank kind in
    let apart : name_eq name (index_name number p) ≡ false = grind (arith, nat_tests, is) in
    ap (λ b. b || list_any (name_eq name) (map (index_name number) ps)) apart ∙ no_index name kind number ps

-- a data file of this name has this number
data_by : (f : ListedFile) (name : FileName) → name.kind ≡ Data → is_name_of f name ≡ true → name ≡ data_name f.number
data_by f name kind named = by (name_eq name (data_name f.number)) refl named
  where
    by : (b : Bool) → name_eq name (data_name f.number) ≡ b → (b || list_any (name_eq name) (map (index_name f.number) f.parts)) ≡ true → name ≡ data_name f.number
    by true is named = name_same name (data_name f.number) is
    by false other named = let no : false ≡ true = sym (no_index name kind f.number f.parts) ∙ named in cc

-- damage of the keys is damage of the file
keys_show : (types : List ColumnType) (file : FileName) (bytes : Bytes) (damage : Damage) → ShowsKeyTree file bytes damage → ShowsDataFile types file bytes damage
keys_show types file bytes damage (keys.outside shown) = outside shown
keys_show types file bytes damage (keys.inside numbers has shown) = inside numbers has (in_tree shown)

-- ---- the files of a view

-- each part is a file of those that the view has
own_parts : (files : List ListedFile) (parts : List Part) → AllByRecursion (λ (f : ListedFile). Contains files f) (listed_files parts) → AllByRecursion (IsOfFiles files) parts
own_parts files [] all = tt
own_parts files (Map n ∷ parts) all = (tt, own_parts files parts all)
own_parts files (File number indexes ∷ parts) all = (all.0, own_parts files parts all.1)

-- and their names are those of the view
files_named : (name : FileName) (parts : List Part) → have_name (listed_files parts) name ≡ is_file_of parts name
files_named name [] = refl
files_named name (Map n ∷ parts) = files_named name parts
files_named name (File number indexes ∷ parts) = ap (λ b. list_any (name_eq name) (names_of (File number indexes)) || b) (files_named name parts)

or_false : (b : Bool) → (b || false) ≡ b
or_false true = refl
or_false false = refl

-- ---- a view

-- of a table that is one of these and has columns of these types; it lists files that the table has there, and the folder has these
module _ (files : Option Folder) (folder : Folder) (now : files ≡ Some folder) (tables : List ListedDefinition) (at : ℕ) (row : ListedDefinition) (row_there : slice_get tables at ≡ Some row) (types : List ColumnType) (types_are : types ≡ types_of row.definition)
    (parts : List Part) (listed : AllByRecursion (IsOfFiles row.files) parts) (present : (name : FileName) → IsListedName tables name → IsSome (get folder name)) where
  -- of a data file
  data_shows : (damage : Damage) → ShowsListed files row.files types damage → folders.ShowsListedFile folder tables damage
  data_shows damage shows =
      let n = shows.file.number in
      let holds : has_file row.files n ≡ true = all_within (λ (f : ListedFile). has_file row.files f.number ≡ true) row.files shows.file shows.listed.0 shows.listed.1 shows.listed.2 (has_each row.files) in
      let is_in : has_name tables (data_name n) ≡ true = data_named n tables ∙ listed_any tables at row row_there n holds in
      let bytes = found_in (get folder (data_name n)) (present (data_name n) is_in) in
      by n bytes.0 is_in bytes.1 holds (shows.shown bytes.0 (ap (λ (o : Option Folder). contents_in o (data_name n)) now ∙ bytes.1))
    where
      by : (n : ℕ) (bytes : Bytes) → has_name tables (data_name n) ≡ true → get folder (data_name n) ≡ Some bytes → has_file row.files n ≡ true → ShowsDataFile types (data_name n) bytes damage → folders.ShowsListedFile folder tables damage
      by n bytes is_in there holds (outside shown) = broken_ends (data_name n) bytes is_in there shown
      by n bytes is_in there holds (inside numbers parts shown) = broken_content n bytes (opened_by (data_name n) types numbers) there (record {
        table = row;
        listed = (at, there_inside tables at row row_there, index_there tables at row row_there);
        has = holds;
        named = refl;
        types = types_are;
        parts = parts;
      }) shown

  lookup_shows : (damage : Damage) (name : FileName) → name.kind ≡ Data → is_file_of parts name ≡ true → FileShows types name files damage → folders.ShowsListedFile folder tables damage
  lookup_shows damage name kind is_file shows =
      let by = part_named row.files name parts listed is_file in
      data_shows damage (record { file = by.file; listed = by.is_in; shown = subst (λ (n : FileName). FileShows types n files damage) (data_by by.file name kind by.named) shows })

  name_there : (name : FileName) → is_file_of parts name ≡ true → has_name tables name ≡ true
  name_there name is =
      let by = part_named row.files name parts listed is in
      has_name_by name tables
      ∙ name_listed tables at name (ap (λ (o : Option ListedDefinition). have_name (option_map_or (λ (x : ListedDefinition). x.files) o []) name) row_there ∙ file_named name row.files by.file by.is_in by.named)

  hits_show : (damage : Damage) → IsShownIn parts files damage → folders.ShowsListedFile folder tables damage
  hits_show damage (of_data name kind is_file shows) = lookup_shows damage name kind is_file (λ bytes there. keys_show types name bytes damage (shows bytes there))
  hits_show damage (of_index name kind is_file shows) =
      let found = found_in (get folder name) (present name (name_there name is_file)) in
      broken_index name found.0 (name_there name is_file) kind found.1 (shows found.0 (ap (λ (o : Option Folder). contents_in o name) now ∙ found.1))

  -- **What a source shows in it is damage of a file that the table has there.**
  files_show : (damage : Damage) → PendingShows types parts files damage → folders.ShowsListedFile folder tables damage
  files_show damage (inl (of_hits shown)) = hits_show damage shown
  files_show damage (inl (of_lookup name kind is_file shows)) = lookup_shows damage name kind is_file shows
  files_show damage (inr shows) = data_shows damage (record { file = shows.file; listed = in_each row.files (listed_files parts) (data_listed row.files parts listed) shows.file shows.listed; shown = shows.shown })

-- ---- the folder

module _ (v : View) (sound : IsSound v) (p : Parts) (ready : CanChange v (memory_of p)) (folder : Folder) (now : v.files ≡ Some folder) where
  abbrev listing : Listing
  listing = p.manifest.listing

  sealed : IsSealed folder p.manifest.number
  sealed = record {
    there = kept_in ready.aside (kept_by (memory_of p)) folder (seal_name p.manifest.number) (ready.exactly folder now) (keeps_seal (kept_by (memory_of p)));
    highest = λ other above. none_in (get folder (seal_name other))
        (free_in ready.aside (kept_by (memory_of p)) folder (seal_name other) (ready.exactly folder now) (aside_kind _ ready.aside (seal_name other) ready.aside_are (omega arith)) (unkept_seal (kept_by (memory_of p)) other above));
  }

  -- damage of a listed file
  listed_shows : (damage : Damage) → folders.ShowsListedFile folder listing.tables damage → FolderShows folder damage
  listed_shows damage shown =
      let stands = ready.stands (ap (λ (o : Option Folder). is_some o) now) in
      let manifest = manifest_each v p.manifest.number p.manifest.at listing stands in
      inr (record {
        number = p.manifest.number;
        sealed = sealed;
        shows = broken_file stands.at_end.bytes listing (manifest.0 folder (sound.reads folder now)) manifest.1 shown;
      })

  -- each listed file is there
  listed_present : (name : FileName) → IsListedName listing.tables name → IsSome (get folder name)
  listed_present name is = kept_in ready.aside (kept_by (memory_of p)) folder name (ready.exactly folder now) (listed_kept (kept_by (memory_of p)) name is)

  -- damage of a file that the table has no more, or still has
  module _ (held : FileName → Bool) (at : ℕ) (row : ListedDefinition) (row_there : slice_get listing.tables at ≡ Some row) (types : List ColumnType) (types_are : types ≡ types_of row.definition) (parts : List Part)
      (present : (name : FileName) → is_file_of parts name ≡ true → (held name ≡ true) × IsSome (get folder name)) where
    held_there : (name : FileName) → IsListedName (with_files row (listed_files parts)) name → (held name ≡ true) × IsSome (get folder name)
    held_there name is = present name (sym (files_named name parts) ∙ sym (or_false (have_name (listed_files parts) name)) ∙ sym (has_name_by name (with_files row (listed_files parts))) ∙ is)

    -- **What a source shows in a view is damage of a file that it holds.**
    pub held_show : (damage : Damage) → PendingShows types parts v.files damage → ShowsHeld held folder damage
    held_show damage shown =
        let stands = ready.stands (ap (λ (o : Option Folder). is_some o) now) in
        let manifest = manifest_each v p.manifest.number p.manifest.at listing stands in
        record {
          number = p.manifest.number;
          sealed = sealed;
          bytes = stands.at_end.bytes;
          there = manifest.0 folder (sound.reads folder now);
          listing = listing;
          manifest = manifest.1;
          table = row;
          listed = (at, there_inside listing.tables at row row_there, index_there listing.tables at row row_there);
          files = listed_files parts;
          present = held_there;
          shows = files_show v.files folder now (with_files row (listed_files parts)) 0 (record row { files = listed_files parts }) refl types types_are parts (own_parts (listed_files parts) parts (each_in (listed_files parts))) (λ name is. (held_there name is).1) damage shown;
        }

-- ---- the view of a SELECT

-- each of the files is one of them
own_files : (files : List ListedFile) (numbers : List ℕ) (fs : List ListedFile) → AllByRecursion (λ (f : ListedFile). Contains files f) fs → AllByRecursion (IsOfFiles files) (listed_parts fs numbers)
own_files all_files [] [] all = tt
own_files all_files (n ∷ numbers) [] all = (tt, own_files all_files numbers [] all)
own_files all_files numbers (f ∷ fs) all = (all.0, own_files all_files numbers fs all.1)

-- **So it is in a view of the current parts of its table.**
pub view_shows : (v : View) → IsSound v → (p : Parts) → CanChange v (memory_of p) → (rows : Selection) (plan : PlanView) → IsPlanFor p rows plan → (folder : Folder) → v.files ≡ Some folder → (damage : Damage)
    → PendingShows plan.types (current_parts p rows.table) v.files damage → FolderShows folder damage
view_shows v sound p ready rows plan is folder now damage shown =
    let files_are = ap (λ (o : Option ListedDefinition). option_map_or (λ (x : ListedDefinition). x.files) o []) is.there in
    let numbers = table_numbers p.tables.items rows.table in
    let all = subst (λ (fs : List ListedFile). AllByRecursion (IsOfFiles fs) (current_parts p rows.table)) files_are (own_files (files_of p.manifest.listing.tables rows.table) numbers (files_of p.manifest.listing.tables rows.table) (each_in (files_of p.manifest.listing.tables rows.table))) in
    listed_shows v sound p ready folder now damage
    (files_show v.files folder now p.manifest.listing.tables (rows.table - 1) (listed is.row) is.there plan.types is.types (current_parts p rows.table) all (listed_present v sound p ready folder now) damage shown)
