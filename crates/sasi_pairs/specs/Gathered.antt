-- The indexes of a data file that is written, with their postings so far.
use Rattle.std.specs.Prelude.{◌≢◌, List, [], Contains, map}
use Rattle.std.specs.FinMap as map_
use Rattle.sasi_types.specs.declared.class.Class.{Class}
use Rattle.sasi_types.specs.declared.column.ColumnType.TheVariants.{Uuid}
use Rattle.sasi_types.specs.declared.index_def.IndexDef.{IndexDef}
use Rattle.sasi_types.specs.declared.tree.Pair.{Pair}
use Rattle.sasi_model.specs.Cells.{Partition}
use Rattle.sasi_memindex.specs.Book.{IsMissing}
use Rattle.sasi_memindex.specs.IndexedValues.{IsCellOf}
use Rattle.sasi_segments.specs.declared.posting.Posting.{Posting}
use Rattle.sasi_postings.specs.Postings.{is_short, postings_at, with_postings}

-- an index, and its postings so far
pub record GatheredIndex : Type 0 where
  pub def : IndexDef
  pub postings : List Posting

-- the definitions
abbrev pub defs_of : List GatheredIndex → List IndexDef
defs_of indexes = map (λ i. i.def) indexes

-- an index without a posting
abbrev pub fresh : IndexDef → GatheredIndex
fresh def = record { def = def; postings = [] }

-- an index that can be built, of whichever mode: a uuid has no terms
pub record IsBuilt (def : IndexDef) : Type 0 where
  pub kind : def.kind ≢ Uuid

-- ---- one more partition

-- the cell of the indexed column, if the partition has a live one, has a value of the index's type
abbrev pub CanIndex : Partition → IndexDef → Type 0
CanIndex part def = IsCellOf def.kind (map_.get part.cells def.column)

abbrev pub CanTake : Partition → GatheredIndex → Type 0
CanTake part i = CanIndex part i.def

-- with the postings of the partition, which the key tree has at this pair
abbrev pub with_partition : Pair → Partition → GatheredIndex → GatheredIndex
with_partition pair part i = record i { postings = with_postings i.postings (postings_at is_short i.def.column i.def.rule pair part) }

-- the terms of one of the indexes are made by an analyzer of this class, and no object is one
pub record LacksClass (classes : List Class) (defs : List IndexDef) (class : Class) : Type 0 where
  pub def : IndexDef
  pub listed : Contains defs def
  pub missing : IsMissing classes def.rule class
