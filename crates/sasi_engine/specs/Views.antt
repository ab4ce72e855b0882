-- A view of a table: what its parts, and the relations of a WHERE, are in the layout.
use Rattle.std.specs.Prelude.{◌≡◌, ℕ, ◌≤◌, List, [], ◌∷◌, ◌++◌, length, map, Option, None, Some}
use Rattle.std.specs.FinMap as map_
use Rattle.std.specs.List.{zip}
use Rattle.sasi_types.specs.declared.column.ColumnType.{ColumnType}
use Rattle.sasi_types.specs.declared.partitioner.Partitioner.{Partitioner}
use Rattle.sasi_types.specs.declared.rule.Rule.{Rule}
use Rattle.sasi_host.specs.Names.{Folder}
use Rattle.sasi_manifest.specs.declared.files.PartNumber.{PartNumber}
use Rattle.sasi_model.specs.Abbreviations.{Partitions, kind_of, types_of}
use Rattle.sasi_model.specs.Indexes.{index_on}
use Rattle.sasi_model.specs.State.{Index}
use Rattle.sasi_memindex.specs.declared.map_part.MapPart.{MapPart}
use Rattle.sasi_memindex.specs.Book.{AreKept, Book, subjects}
use Rattle.sasi_memindex.specs.MemIndexView.{Numbered}
use Rattle.sasi_datawrite.specs.Format.{decorated_key}
use Rattle.sasi_layout.specs.Flushed.{contents_of}
use Rattle.sasi_layout.specs.Layout.{File, TableParts}
use Rattle.sasi_layout.specs.Shape.{HasFile}
use Rattle.sasi_views.specs.declared.part.Part as view
use Rattle.sasi_views.specs.declared.part.Part.TheVariants as view_part
use Rattle.sasi_candidates.specs.LayoutParts.{index_numbered, part_of_file, part_of_map}
use Rattle.sasi_candidates.specs.Parts.{Disk, Memory, Origin, Part}
use Rattle.sasi_candidates.specs.Searches.{CanAsk}
use Rattle.sasi_candidates.proofs.FileIndexes.{HasOwnIndexes}
use Rattle.sasi_engine.specs.declared.relation.IndexedRelation.{IndexedRelation}
use Rattle.sasi_engine.specs.Asked.{Asked, keys_of}

-- ---- relations

-- the relation asks so of the column of this index, which is the table's under this number
pub record IsAsked (t : TableParts) (relation : IndexedRelation) (asked : Asked) : Type 0 where
  pub numbered : index_numbered relation.index t ≡ Some asked.index
  pub defined : index_on asked.index.column t.definition.indexes ≡ Some asked.index
  pub can : CanAsk (kind_of t.definition asked.index.column) asked.search.op
  pub some : 1 ≤ length asked.search.words
  pub search_is : asked.search ≡ record { op = relation.op; words = relation.words }

-- each relation asks as told at its position
abbrev pub AreAsked : TableParts → List IndexedRelation → List Asked → Type 0
AreAsked t [] [] = Unit {0}
AreAsked t [] (a ∷ asked) = ⊥
AreAsked t (r ∷ relations) [] = ⊥
AreAsked t (r ∷ relations) (a ∷ asked) = IsAsked t r a × AreAsked t relations asked

-- ---- parts

-- the folder has this data file of the table, with these index files
pub record IsFileOf (folder : Folder) (partitioner : Partitioner) (t : TableParts) (number : ℕ) (indexes : List PartNumber) (part : Part) : Type 0 where
  pub file : File
  pub has : HasFile folder partitioner t.definition t.numbers file
  pub number_is : number ≡ file.listed.number
  pub indexes_are : indexes ≡ file.listed.parts
  pub part_is : part ≡ part_of_file t file

-- what the indexes of the table are of, with their numbers
abbrev pub subjects_of : TableParts → List (ℕ × (ℕ × (ColumnType × Option Rule)))
subjects_of t = zip t.numbers (map (λ (index : Index). (index.column, (kind_of t.definition index.column, index.rule))) t.definition.indexes)

-- the map has the table's indexes, each with the terms of the cells that are current in the map, and perhaps later ones behind them
pub record IsMapOf (t : TableParts) (m : MapPart) (part : Part) : Type 0 where
  pub part_is : part ≡ part_of_map m.map.partitions
  pub own : Numbered
  pub later : Numbered
  pub indexes_are : m.indexes ≡ own ++ later
  pub subjects_are : subjects own ≡ subjects_of t
  pub kept : AreKept m.map.partitions own

abbrev pub IsMapIn : TableParts → Option MapPart → Part → Type 0
IsMapIn t None part = ⊥
IsMapIn t (Some m) part = IsMapOf t m part

-- the part of a view is this part of the table
abbrev pub IsPartOf : Folder → Partitioner → TableParts → Book → view.Part → Part → Type 0
IsPartOf folder partitioner t book (view_part.File number indexes) part = IsFileOf folder partitioner t number indexes part
IsPartOf folder partitioner t book (view_part.Map number) part = IsMapIn t (map_.get book number) part

-- each is the one at its position
abbrev pub ArePartsOf : Folder → Partitioner → TableParts → Book → List view.Part → List Part → Type 0
ArePartsOf folder partitioner t book [] [] = Unit {0}
ArePartsOf folder partitioner t book [] (p ∷ ps) = ⊥
ArePartsOf folder partitioner t book (v ∷ vs) [] = ⊥
ArePartsOf folder partitioner t book (v ∷ vs) (p ∷ ps) = IsPartOf folder partitioner t book v p × ArePartsOf folder partitioner t book vs ps

-- ---- keys of parts

-- the keys of a data file have the tokens that the partitioner gives them
abbrev pub IsDecorated : Partitioner → Origin → Partitions → Type 0
IsDecorated partitioner Memory m = Unit {0}
IsDecorated partitioner (Disk columns) m = keys_of m ≡ map (decorated_key partitioner) (contents_of m)

-- ---- a view

-- **The view has these parts, and the relations ask so of them.** The folder has the data files and the index files, and the book the maps.
pub record IsPlannedFor (folder : Folder) (partitioner : Partitioner) (t : TableParts) (book : Book) (types : List ColumnType) (relations : List IndexedRelation) (listed : List view.Part)
    (asked : List Asked) (parts : List Part) : Type 0 where
  pub own : HasOwnIndexes t
  pub types_are : types ≡ types_of t.definition
  pub relations_are : AreAsked t relations asked
  pub parts_are : ArePartsOf folder partitioner t book listed parts
