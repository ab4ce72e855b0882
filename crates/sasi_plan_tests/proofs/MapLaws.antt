-- What a reader needs of the maps, and of the parts of a view.
use Rattle.std.proofs.Common.{◌≡◌, ℕ, Bool, true, false, ◌||◌, List, [], ◌∷◌, ◌++◌, map, Option, None, Some, refl, sym, subst, inl, inr}
use Rattle.std.specs.FinMap as fin
use Rattle.std.specs.List.{AllByRecursion, IsDistinct, list_any}
use Rattle.std.specs.Option.{IsSomeAnd, option_map_or}
use Rattle.sasi_types.specs.declared.column.ColumnType.TheVariants as kinds
use Rattle.sasi_host.specs.declared.name.FileName.{FileName}
use Rattle.sasi_host.specs.Names.{data_name, name_eq}
use Rattle.sasi_layout.proofs.FileNameLaws.{name_there}
use Rattle.sasi_machine.specs.TableRows.{AreStored}
use Rattle.sasi_manifest.specs.declared.files.PartNumber.{PartNumber}
use Rattle.sasi_manifest.specs.ListedFiles.{index_name}
use Rattle.sasi_memindex.specs.Book.{Book, bare}
use Rattle.sasi_memindex.specs.declared.map_part.MapPart.{MapPart}
use Rattle.sasi_memtable.specs.MemtableView.{MemtableView}
use Rattle.sasi_views.specs.declared.component.Component.TheVariants as component
use Rattle.sasi_views.specs.declared.part.Part.{Part}
use Rattle.sasi_views.specs.declared.part.Part.TheVariants.{File, Map}
use Rattle.sasi_views.specs.Components.{same}
use Rattle.sasi_views.specs.Parts.{ListsOnce}
use Rattle.sasi_views.proofs.BookLaws.{listed_once}
use Rattle.sasi_engine.specs.Findable.{CanFind, HasIndexFor, HasIndexes}
use Rattle.sasi_engine.specs.Plans.{is_file_of, map_numbers, names_of}
use Rattle.sasi_scan.specs.Numbered.{views_numbered}
use Rattle.sasi_engine.specs.declared.relation.IndexedRelation.{IndexedRelation}
use Rattle.sasi_plan_tests.specs.Fixture.{HasMaps, IsOn, IsOwnPart, IsTextMap}

-- ---- a book

text_map : (found : Option MapPart) (m : MemtableView) → found ≡ Some (bare m) → AreStored kinds.Text m.partitions → IsSomeAnd found (IsTextMap [])
text_map found m is stored = subst (λ (o : Option MapPart). IsSomeAnd o (IsTextMap [])) (sym is) (record { stored = stored; found = λ relation on. absurd on })

-- a book that has these three maps, without indexes
pub maps_there : (book : Book) (first second third : MemtableView) → fin.get book 1 ≡ Some (bare first) → fin.get book 2 ≡ Some (bare second) → fin.get book 3 ≡ Some (bare third)
    → AreStored kinds.Text first.partitions → AreStored kinds.Text second.partitions → AreStored kinds.Text third.partitions → HasMaps [] book
maps_there book first second third one two three in_first in_second in_third number (inl same) = subst Has (sym same) (text_map (fin.get book 1) first one in_first)
  where
    Has : ℕ → Type 0
    Has n = IsSomeAnd (fin.get book n) (IsTextMap [])
maps_there book first second third one two three in_first in_second in_third number (inr (inl same)) = subst Has (sym same) (text_map (fin.get book 2) second two in_second)
  where
    Has : ℕ → Type 0
    Has n = IsSomeAnd (fin.get book n) (IsTextMap [])
maps_there book first second third one two three in_first in_second in_third number (inr (inr (inl same))) = subst Has (sym same) (text_map (fin.get book 3) third three in_third)
  where
    Has : ℕ → Type 0
    Has n = IsSomeAnd (fin.get book n) (IsTextMap [])
maps_there book first second third one two three in_first in_second in_third number (inr (inr (inr never))) = absurd never

-- ---- the parts of a view

parts_apart : IsDistinct same (component.File (data_name 7) ∷ component.Map 1 ∷ component.Map 2 ∷ component.Map 3 ∷ [])
unfolding IsDistinct
parts_apart = ((refl, (refl, (refl, tt))), ((refl, (refl, tt)), ((refl, tt), (tt, tt))))

pub parts_once : ListsOnce (File 7 [] ∷ Map 1 ∷ Map 2 ∷ Map 3 ∷ [])
parts_once = listed_once (component.File (data_name 7) ∷ component.Map 1 ∷ component.Map 2 ∷ component.Map 3 ∷ []) parts_apart

own_names : (part : Part) → IsOwnPart part → AllByRecursion (λ (name : FileName). name ≡ data_name 7) (names_of part)
own_names (File number indexes) own =
    subst (λ (n : ℕ). AllByRecursion (λ (name : FileName). name ≡ data_name 7) (data_name n ∷ map (index_name n) indexes)) (sym own.0)
    (subst (λ (ps : List PartNumber). AllByRecursion (λ (name : FileName). name ≡ data_name 7) (data_name 7 ∷ map (index_name 7) ps)) (sym own.1) (refl, tt))
own_names (Map number) own = tt

-- no other file is read than the data file
pub own_file : (listed : List Part) → AllByRecursion IsOwnPart listed → (name : FileName) → is_file_of listed name ≡ true → name ≡ data_name 7
own_file [] own name is = cc
own_file (part ∷ parts) own name is = by (list_any (name_eq name) (names_of part)) refl is (own_file parts own.1 name)
  where
    by : (b : Bool) → list_any (name_eq name) (names_of part) ≡ b → (b || is_file_of parts name) ≡ true → (is_file_of parts name ≡ true → name ≡ data_name 7) → name ≡ data_name 7
    by true here either rest = name_there (λ (n : FileName). n ≡ data_name 7) name (names_of part) (own_names part own.0) here
    by false apart either rest = rest either

-- ---- the maps

module _ (numbers : List ℕ) (book : Book) (has : HasMaps numbers book) where
  -- their keys and values can be printed
  pub maps_stored : (listed : List Part) → AllByRecursion IsOwnPart listed → AllByRecursion (λ (m : MemtableView). AreStored kinds.Text m.partitions) (views_numbered book (map_numbers listed))
  maps_stored [] own = tt
  maps_stored (File number indexes ∷ parts) own = maps_stored parts own.1
  maps_stored (Map number ∷ parts) own = by (fin.get book number) (has number own.0) (maps_stored parts own.1)
    where
      by : (o : Option MapPart) → IsSomeAnd o (IsTextMap numbers) → AllByRecursion (λ (m : MemtableView). AreStored kinds.Text m.partitions) (views_numbered book (map_numbers parts))
          → AllByRecursion (λ (m : MemtableView). AreStored kinds.Text m.partitions) (option_map_or (λ (part : MapPart). part.map ∷ []) o [] ++ views_numbered book (map_numbers parts))
      by None is rest = absurd is
      by (Some part) is rest = (is.stored, rest)

  indexes_found : (part : MapPart) → IsTextMap numbers part → (relations : List IndexedRelation) → AllByRecursion (IsOn numbers) relations → AllByRecursion (HasIndexFor part) relations
  indexes_found part is [] all = tt
  indexes_found part is (relation ∷ relations) all = (is.found relation all.0.listed, indexes_found part is relations all.1)

  has_indexes : (relations : List IndexedRelation) → AllByRecursion (IsOn numbers) relations → (o : Option MapPart) → IsSomeAnd o (IsTextMap numbers) → HasIndexes relations o
  has_indexes relations all None is = absurd is
  has_indexes relations all (Some part) is = indexes_found part is relations all

  -- and they have the indexes that are asked
  pub parts_found : (relations : List IndexedRelation) → AllByRecursion (IsOn numbers) relations → (listed : List Part) → AllByRecursion IsOwnPart listed → AllByRecursion (CanFind book relations) listed
  parts_found relations all [] own = tt
  parts_found relations all (File number indexes ∷ parts) own = (tt, parts_found relations all parts own.1)
  parts_found relations all (Map number ∷ parts) own = (has_indexes relations all (fin.get book number) (has number own.0), parts_found relations all parts own.1)
