-- What is asked of relations and maps, so that the hits can be found.
use Rattle.std.specs.Prelude.{◌≡◌, ◌≤◌, nat_eq, List, length, Option, None, Some}
use Rattle.std.specs.FinMap as map_
use Rattle.std.specs.List.{AllByRecursion}
use Rattle.std.specs.Map.{lookup}
use Rattle.sasi_memindex.specs.declared.map_part.MapPart.{MapPart}
use Rattle.sasi_memindex.specs.Book.{Book}
use Rattle.sasi_memindex.specs.IndexOf.{IsIndexOf}
use Rattle.sasi_memindex.specs.MemIndexView.{MemIndexView}
use Rattle.sasi_views.specs.declared.part.Part.{Part}
use Rattle.sasi_views.specs.declared.part.Part.TheVariants.{File, Map}
use Rattle.sasi_engine.specs.declared.relation.IndexedRelation.{IndexedRelation}

-- a relation has a word at least
abbrev pub HasWords : IndexedRelation → Type 0
HasWords relation = 1 ≤ length relation.words

-- the index of the map that the relation names
abbrev pub index_for : IndexedRelation → MapPart → Option MemIndexView
index_for relation part = lookup (λ n. nat_eq n relation.index) part.indexes

-- the map has the index that the relation names, and the index is that of the map
pub record HasIndexFor (part : MapPart) (relation : IndexedRelation) : Type 0 where
  pub index : MemIndexView
  pub there : index_for relation part ≡ Some index
  pub is : IsIndexOf part.map.partitions index

-- so of the indexes of all these relations
abbrev pub HasIndexes : List IndexedRelation → Option MapPart → Type 0
HasIndexes relations None = ⊥
HasIndexes relations (Some part) = AllByRecursion (HasIndexFor part) relations

-- a map is in the book, with the indexes of all relations
abbrev pub CanFind : Book → List IndexedRelation → Part → Type 0
CanFind book relations (File number parts) = Unit {0}
CanFind book relations (Map number) = HasIndexes relations (map_.get book number)
