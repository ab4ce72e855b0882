-- Maps with their indexes, and what a change of one leaves.
use Rattle.std.specs.Prelude.{◌≡◌, ℕ, false, List, [], ◌∷◌, ◌++◌, map, slice_get, Option, None, Some, IfSome, refl}
use Rattle.std.specs.Coded.{Coded, code_by, coded×, coded_ℕ}
use Rattle.std.specs.FinMap as map_
use Rattle.std.specs.Option.{option_and_then, option_map}
use Rattle.std.specs.Ordering.{nat_cmp}
use Rattle.sasi_types.specs.declared.class.Class.{Class}
use Rattle.sasi_types.specs.declared.column.ColumnType.{ColumnType}
use Rattle.sasi_types.specs.declared.decorated_key.DecoratedKey.{DecoratedKey}
use Rattle.sasi_types.specs.declared.rule.Rule.{Rule}
use Rattle.sasi_types.specs.Rule.{class_of}
use Rattle.sasi_analyzers.specs.Kits.{has_class}
use Rattle.sasi_memtable.specs.MemtableView.{MemtableView, coded_memtable, with_change}
use Rattle.sasi_model.specs.Abbreviations.{Partitions}
use Rattle.sasi_model.specs.Cells.{Partition, value_at}
use Rattle.sasi_model.specs.IndexTerms.{cell_at, terms_of_value}
use Rattle.sasi_memindex.specs.declared.map_part.MapPart.{MapPart}
use Rattle.sasi_memindex.specs.IndexedValues.{IsCellOf, IsValueOf}
use Rattle.sasi_memindex.specs.IndexOf.{HasTermsAt, IsIndexOf}
use Rattle.sasi_memindex.specs.MemIndexView.{MemIndexView, Numbered, coded_numbered, subject}

-- the maps by their numbers
abbrev pub Book : Type 0
Book = map_.FinMap nat_cmp MapPart

-- a map without indexes
abbrev pub bare : MemtableView → MapPart
bare m = record { map = m; indexes = [] }

-- ---- what holds of a map and its indexes

-- the column's values in the map are of the type
abbrev pub AreValuesOf : ℕ → ColumnType → Partitions → Type 0
AreValuesOf column type m = (key : DecoratedKey) → IsCellOf type (cell_at m key column)

-- it is the index of the map, whose values it can index
pub record IsKept (m : Partitions) (index : MemIndexView) : Type 0 where
  pub is : IsIndexOf m index
  pub values : AreValuesOf index.column index.kind m

-- each of the indexes is
abbrev pub AreKept : Partitions → Numbered → Type 0
AreKept m indexes = (position : ℕ) (i : ℕ × MemIndexView) → slice_get indexes position ≡ Some i → IsKept m i.1

-- each of them can index the change
abbrev pub CanIndex : Numbered → Partition → Type 0
CanIndex indexes change = (position : ℕ) (i : ℕ × MemIndexView) → slice_get indexes position ≡ Some i → IsCellOf i.1.kind (map_.get change.cells i.1.column)

-- an index has the terms of what is old at the key, and can index what the change makes of that
pub record CanMerge (index : MemIndexView) (key : DecoratedKey) (old : Option Partition) (change : Partition) : Type 0 where
  pub current : HasTermsAt index key (terms_of_value index.rule (option_and_then (λ p. value_at p index.column) old))
  pub before : IfSome (option_and_then (λ p. value_at p index.column) old) (IsValueOf index.kind)
  pub written : IsCellOf index.kind (map_.get change.cells index.column)

-- the numbers of the indexes, and what they are of
abbrev pub subjects : Numbered → List (ℕ × (ℕ × (ColumnType × Option Rule)))
subjects indexes = map (λ i. (i.0, subject i.1)) indexes

-- ---- a change of a partition

-- a change can be merged into the map with this number
abbrev pub CanChange : Option MapPart → Partition → Type 0
CanChange None change = ⊥
CanChange (Some part) change = AreKept part.map.partitions part.indexes × CanIndex part.indexes change

-- it was, and the indexes are those of the map again
pub record HasChange (key : List ℕ) (change : Partition) (old new : MapPart) : Type 0 where
  pub merged : new.map ≡ with_change old.map key change
  pub same : subjects new.indexes ≡ subjects old.indexes
  pub kept : AreKept new.map.partitions new.indexes

abbrev pub IsChanged : List ℕ → Partition → Option MapPart → Option MapPart → Type 0
IsChanged key change (Some old) (Some new) = HasChange key change old new
IsChanged key change old new = ⊥

-- ---- a further index

-- the map with this number is there, and has values of the type in the column
abbrev pub CanAdd : ℕ → ColumnType → Option MapPart → Type 0
CanAdd column type None = ⊥
CanAdd column type (Some part) = AreValuesOf column type part.map.partitions

-- an index of the map with this number comes after the others
pub record HasAdded (number column : ℕ) (type : ColumnType) (rule : Option Rule) (old new : MapPart) : Type 0 where
  pub added : MemIndexView
  pub of : subject added ≡ (column, (type, rule))
  pub kept : IsKept old.map.partitions added
  pub is : new ≡ record { map = old.map; indexes = old.indexes ++ (number, added) ∷ [] }

abbrev pub IsAdded : ℕ → ℕ → ColumnType → Option Rule → Option MapPart → Option MapPart → Type 0
IsAdded number column type rule (Some old) (Some new) = HasAdded number column type rule old new
IsAdded number column type rule old new = ⊥

-- ---- a class that is missing

-- an index makes terms by an analyzer of this class, and no object is one
pub record IsMissing (classes : List Class) (rule : Option Rule) (class : Class) : Type 0 where
  pub needed : option_map class_of rule ≡ Some class
  pub lacking : has_class class classes ≡ false

-- the same of one of the indexes
pub record IsMissingOf (classes : List Class) (indexes : Numbered) (class : Class) : Type 0 where
  pub position : ℕ
  pub index : ℕ × MemIndexView
  pub listed : slice_get indexes position ≡ Some index
  pub missing : IsMissing classes index.1.rule class

abbrev pub IsMissingIn : List Class → Option MapPart → Class → Type 0
IsMissingIn classes None class = ⊥
IsMissingIn classes (Some part) class = IsMissingOf classes part.indexes class

-- ---- codes

abbrev pub coded_part : Coded MapPart
coded_part = code_by (MemtableView × Numbered) (coded× coded_memtable coded_numbered) (λ p. (p.map, p.indexes)) (λ c. record { map = c.0; indexes = c.1 }) (λ _. refl)

abbrev pub coded_book : Coded Book
coded_book = map_.code coded_ℕ coded_part
