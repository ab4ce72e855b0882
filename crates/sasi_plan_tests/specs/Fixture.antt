-- The maps of the fixture, its views, and the plans that can be read in them.
use Rattle.std.specs.Prelude.{◌≡◌, ℕ, List, [], ◌∷◌, slice_get, Some}
use Rattle.std.specs.FinMap.{get}
use Rattle.std.specs.List.{AllByRecursion}
use Rattle.std.specs.Option.{IsSomeAnd}
use Rattle.sasi_types.specs.declared.column.ColumnType.TheVariants as kinds
use Rattle.sasi_machine.specs.TableRows.{AreStored}
use Rattle.sasi_memindex.specs.declared.map_part.MapPart.{MapPart}
use Rattle.sasi_memindex.specs.Book.{Book}
use Rattle.sasi_views.specs.declared.part.Part.{Part}
use Rattle.sasi_views.specs.declared.part.Part.TheVariants.{File, Map}
use Rattle.sasi_engine.specs.Findable.{HasIndexFor, HasWords}
use Rattle.sasi_sources.specs.Maps.{IsOneOf}
use Rattle.sasi_engine.specs.declared.relation.IndexedRelation.{IndexedRelation}
use Rattle.sasi_plan.specs.Plans.{PlanView}
use Rattle.sasi_plan.specs.declared.plan.PlanSource.{PlanSource}
use Rattle.sasi_plan.specs.declared.plan.PlanSource.TheVariants.{Nothing, OfKey, OfTable}

-- the map has keys of texts and texts, and the indexes with these numbers
pub record IsTextMap (numbers : List ℕ) (part : MapPart) : Type 0 where
  pub stored : AreStored kinds.Text part.map.partitions
  pub found : (relation : IndexedRelation) → IsOneOf numbers relation.index → HasIndexFor part relation

-- the numbers of the maps, the oldest first
abbrev pub own_maps : List ℕ
own_maps = 1 ∷ 2 ∷ 3 ∷ []

-- the book has each of them so
abbrev pub HasMaps : List ℕ → Book → Type 0
HasMaps numbers book = (number : ℕ) → IsOneOf own_maps number → IsSomeAnd (get book number) (IsTextMap numbers)

-- a part of the fixture: the data file 7 without index files, or one of the maps
abbrev pub IsOwnPart : Part → Type 0
IsOwnPart (File number indexes) = (number ≡ 7) × (indexes ≡ [])
IsOwnPart (Map number) = IsOneOf own_maps number

-- a relation asks for words by one of the indexes with these numbers
pub record IsOn (numbers : List ℕ) (relation : IndexedRelation) : Type 0 where
  pub words : HasWords relation
  pub listed : IsOneOf numbers relation.index

-- so do those of a source
abbrev pub SourceIsOn : List ℕ → PlanSource → Type 0
SourceIsOn numbers Nothing = Unit {0}
SourceIsOn numbers (OfKey key relations) = AllByRecursion (IsOn numbers) relations.items
SourceIsOn numbers (OfTable relations) = AllByRecursion (IsOn numbers) relations.items

-- a plan of a SELECT on a table that has the indexes with these numbers
pub record IsPlanOn (numbers : List ℕ) (plan : PlanView) : Type 0 where
  pub source : SourceIsOn numbers plan.source
  pub key : slice_get plan.types 0 ≡ Some plan.picked.key

-- the plan, the view and the book are those of the fixture, with the same indexes
pub record CanRead (plan : PlanView) (view : List Part) (book : Book) : Type 0 where
  pub numbers : List ℕ
  pub planned : IsPlanOn numbers plan
  pub own : AllByRecursion IsOwnPart view
  pub maps : HasMaps numbers book
