-- Maps whose indexes are all of column 1.
use Rattle.std.specs.Prelude.{◌≡◌, ℕ, List, [], ◌∷◌, Option, None, Some, ⊤}
use Rattle.sasi_types.specs.declared.column.ColumnType.{ColumnType}
use Rattle.sasi_memindex.specs.declared.map_part.MapPart.{MapPart}
use Rattle.sasi_memindex.specs.Book.{AreKept, AreValuesOf}
use Rattle.sasi_memindex.specs.MemIndexView.{MemIndexView, Numbered}

-- an index of column 1, whose values are of this type
pub record IsOfColumn (type : ColumnType) (index : MemIndexView) : Type 0 where
  pub column : index.column ≡ 1
  pub kind : index.kind ≡ type

abbrev pub AreOfColumn : ColumnType → Numbered → Type 0
AreOfColumn type [] = ⊤
AreOfColumn type (i ∷ is) = IsOfColumn type i.1 × AreOfColumn type is

-- the values of column 1 are of this type, and the indexes are those of the column
pub record IsIndexed (type : ColumnType) (part : MapPart) : Type 0 where
  pub values : AreValuesOf 1 type part.map.partitions
  pub kept : AreKept part.map.partitions part.indexes
  pub of : AreOfColumn type part.indexes

-- the map is there, and is indexed so
abbrev pub HasIndexes : ColumnType → Option MapPart → Type 0
HasIndexes type None = ⊥
HasIndexes type (Some part) = IsIndexed type part
