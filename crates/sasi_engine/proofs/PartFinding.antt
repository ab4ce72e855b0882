-- What files and then maps have of a key.
use Rattle.std.proofs.Common.{◌≡◌, ℕ, List, [], ◌∷◌, ◌++◌, map, Option, None, Some, IfSome, refl, sym, ap, subst, ◌∙◌}
use Rattle.std.specs.FinMap.{empty, get, get-empty}
use Rattle.std.specs.Option.{option_map_or}
use Rattle.sasi_types.specs.declared.column.ColumnType.{ColumnType}
use Rattle.sasi_types.specs.declared.decorated_key.DecoratedKey.{DecoratedKey}
use Rattle.sasi_cells.specs.Maps.{joined}
use Rattle.sasi_model.specs.Abbreviations.{Partitions}
use Rattle.sasi_model.specs.Cells.{Partition}
use Rattle.sasi_types.specs.DecoratedKey.{decorated_cmp}
use Rattle.sasi_memindex.specs.Book.{Book}
use Rattle.sasi_memindex.specs.declared.map_part.MapPart.{MapPart}
use Rattle.sasi_memtable.specs.MemtableView.{MemtableView}
use Rattle.sasi_scan.specs.Finding.{found_in}
use Rattle.sasi_scan.specs.Parts.{IsMergeOfParts}
use Rattle.sasi_scan.proofs.KeyLookups.{maps_of_parts}
use Rattle.sasi_scan.proofs.Openings.{each_among}
use Rattle.sasi_engine.specs.TokenHits.{maps_numbered}
use Rattle.sasi_scan.specs.Numbered.{views_numbered}

found_append : (key : DecoratedKey) (base : Option Partition) (xs ys : List Partitions) → found_in key base (xs ++ ys) ≡ found_in key (found_in key base xs) ys
found_append key base [] ys = refl
found_append key base (x ∷ xs) ys = found_append key (joined base (get x key)) xs ys

pub parts_found : (key other : DecoratedKey) (in_files found : Option Partition) (files maps : List Partitions) → key ≡ other → in_files ≡ found_in other None files → found ≡ found_in key in_files maps → found ≡ found_in key None (files ++ maps)
parts_found key other in_files found files maps same first then =
    then ∙ ap (λ (o : Option Partition). found_in key o maps) (first ∙ ap (λ (k : DecoratedKey). found_in k None files) (sym same)) ∙ sym (found_append key None files maps)

-- ---- in any file

-- what the maps with some numbers have of a key is what those have that the book has
numbered_found : (book : Book) (key : DecoratedKey) (base : Option Partition) (numbers : List ℕ) → found_in key base (maps_numbered book numbers) ≡ found_in key base (map (λ (m : MemtableView). m.partitions) (views_numbered book numbers))
numbered_found book key base [] = refl
numbered_found book key base (number ∷ numbers) = by (get book number) (λ b. numbered_found book key b numbers)
  where
    by : (o : Option MapPart) → ((b : Option Partition) → found_in key b (maps_numbered book numbers) ≡ found_in key b (map (λ (m : MemtableView). m.partitions) (views_numbered book numbers)))
        → found_in key (joined base (get (option_map_or (λ (m : MapPart). m.map.partitions) o empty) key)) (maps_numbered book numbers)
        ≡ found_in key base (map (λ (m : MemtableView). m.partitions) (option_map_or (λ (m : MapPart). m.map ∷ []) o [] ++ views_numbered book numbers))
    by None others = ap (λ (x : Option Partition). found_in key (joined base x) (maps_numbered book numbers)) (get-empty decorated_cmp key) ∙ others base
    by (Some m) others = others (joined base (get m.map.partitions key))

-- **What the files have of a key, and then the maps, is the merge of what parts have.**
pub found_of_parts : (types : List ColumnType) (book : Book) (numbers : List ℕ) (key : DecoratedKey) (in_files found : Option Partition) → IfSome in_files (IsMergeOfParts types (views_numbered book numbers) key.key) → found ≡ found_in key in_files (maps_numbered book numbers)
    → IfSome found (IsMergeOfParts types (views_numbered book numbers) key.key)
found_of_parts types book numbers key in_files found files_of is =
    subst (λ (o : Option Partition). IfSome o (IsMergeOfParts types (views_numbered book numbers) key.key)) (sym (is ∙ numbered_found book key in_files numbers))
    (maps_of_parts types (views_numbered book numbers) key in_files (views_numbered book numbers) (each_among (views_numbered book numbers)) files_of)
