-- What a plan of a SELECT says: which rows it asks for, and where they are looked for.
use Rattle.std.specs.Prelude.{◌≡◌, ◌==◌, ℕ, nat_eq, Bool, not, true, false, if◌then◌else◌, List, [], ◌∷◌, length, map, Option, None, Some, unwrap_or}
use Rattle.sasi_types.specs.declared.column.ColumnType.{ColumnType}
use Rattle.sasi_types.specs.declared.index_def.IndexDef.{IndexDef}
use Rattle.sasi_types.specs.declared.partitioner.Partitioner.{Partitioner}
use Rattle.sasi_cells.specs.declared.picked.Picked.{Picked}
use Rattle.sasi_model.specs.Abbreviations.{kind_of}
use Rattle.sasi_model.specs.Conditions.{Condition}
use Rattle.sasi_model.specs.Indexes.{index_on}
use Rattle.sasi_model.specs.State.{Definition, decorated}
use Rattle.sasi_model.specs.Filters.{key_asked}
use Rattle.sasi_candidates.proofs.Asking.{IsAskable}
use Rattle.sasi_engine.specs.Asked.{Asked, asked_of}
use Rattle.sasi_engine.specs.KeyedHits.{agree}
use Rattle.sasi_engine.specs.declared.relation.IndexedRelation.{IndexedRelation}
use Rattle.sasi_plan.specs.declared.plan.PlanSource.{PlanSource}
use Rattle.sasi_plan.specs.declared.plan.PlanSource.TheVariants.{Nothing, OfKey as FromKey, OfTable}

-- what contracts see of a plan
pub record PlanView : Type 0 where
  pub picked : Picked
  -- all of them have to hold
  pub conditions : List Condition
  pub limit : Option ℕ
  -- the types of the table's columns
  pub types : List ColumnType
  pub source : PlanSource

-- ---- relations on indexed columns

-- the number of the index on the column
abbrev pub number_on : ℕ → List IndexDef → Option ℕ
number_on column [] = None
number_on column (def ∷ defs) = if nat_eq def.column column then Some def.number else number_on column defs

-- there is an index on the column
abbrev pub IsNumbered : List IndexDef → Asked → Type 0
IsNumbered defs a = (number : ℕ) × (number_on a.index.column defs ≡ Some number)

-- what a relation asks, by the number of the index on its column
abbrev pub relation_of : List IndexDef → Asked → IndexedRelation
relation_of defs a = record { index = unwrap_or (number_on a.index.column defs) 0; op = a.search.op; words = a.search.words }

-- the index is that of its column, and can be asked so
pub record IsAskedOf (d : Definition) (a : Asked) : Type 0 where
  pub defined : index_on a.index.column d.indexes ≡ Some a.index
  pub askable : IsAskable (kind_of d a.index.column) a.search

-- ---- where the candidates come from

-- **Nowhere** where two conditions ask for different keys; **the key** that they ask for; or else **all keys**: those that the relations leave.
abbrev pub IsSourceOf : Partitioner → List IndexDef → List Condition → PlanSource → Type 0
IsSourceOf partitioner defs conditions Nothing = (bytes : List ℕ) × (key_asked conditions ≡ Some bytes) × (agree bytes conditions ≡ false)
IsSourceOf partitioner defs conditions (FromKey key relations) =
    (key_asked conditions ≡ Some key.key) × (agree key.key conditions ≡ true) × (key ≡ decorated partitioner key.key) × (relations.items ≡ map (relation_of defs) (asked_of conditions))
IsSourceOf partitioner defs conditions (OfTable relations) = (key_asked conditions ≡ None) × (relations.items ≡ map (relation_of defs) (asked_of conditions))

-- they are those of hits, which are asked of indexes and looked up token by token
abbrev pub asks_indexes : PlanSource → Bool
asks_indexes Nothing = false
asks_indexes (FromKey key relations) = not (length relations.items == 0)
asks_indexes (OfTable relations) = not (length relations.items == 0)
