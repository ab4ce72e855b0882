-- The streams of a plan, by what they read.
use Rattle.std.specs.Prelude.{◌≡◌, ℕ, suc, ◌+◌, ◌*◌, nat_eq, Bool, true, List, [], ◌∷◌, ◌++◌, map, is_some, Option, None, Some}
use Rattle.std.specs.FinMap as map_
use Rattle.std.specs.List.{find}
use Rattle.std.specs.List.Sorted.{IsStrictlySortedBy}
use Rattle.sasi_types.specs.declared.column.ColumnType.{ColumnType}
use Rattle.sasi_types.specs.declared.decorated_key.DecoratedKey.{DecoratedKey}
use Rattle.sasi_types.specs.declared.partitioner.Partitioner.{Partitioner}
use Rattle.sasi_types.specs.declared.tree.Pair.{Pair}
use Rattle.sasi_types.specs.DecoratedKey.{decorated_cmp}
use Rattle.sasi_host.specs.declared.damage.Damage.{Damage}
use Rattle.sasi_host.specs.declared.name.FileName.{FileName}
use Rattle.sasi_host.specs.Names.{Bytes, Folder, data_name}
use Rattle.sasi_terms.specs.declared.op.Op.{Op}
use Rattle.sasi_datawrite.specs.Format.{Content, key_pairs}
use Rattle.sasi_dataread.specs.ReadCosts.{file_pages}
use Rattle.sasi_indexwrite.specs.Content.{IndexContent}
use Rattle.sasi_manifest.specs.declared.files.PartNumber.{PartNumber}
use Rattle.sasi_manifest.specs.ListedFiles.{index_name}
use Rattle.sasi_memindex.specs.Book.{Book}
use Rattle.sasi_memindex.specs.declared.map_part.MapPart.{MapPart}
use Rattle.sasi_views.specs.declared.part.Part.{Part}
use Rattle.sasi_views.specs.declared.part.Part.TheVariants.{File, Map}
use Rattle.sasi_hits.specs.declared.hits.Hits.{Hits}
use Rattle.sasi_hits.specs.Calls.{IsFile}
use Rattle.sasi_hits.specs.HitPairs.{AreHits}
use Rattle.sasi_hits.specs.Hits.{Leaves, Opens, Pays, Ready, Shows}
use Rattle.sasi_hits.specs.IndexHits.{HitsShow, ReadsAsIndex, all_cost}
use Rattle.sasi_hits.specs.KeyTrees.{KeysShow, ReadsAsData}
use Rattle.sasi_hits.specs.MapHits.{key_hits}
use Rattle.sasi_hits.specs.Pairs.{entries_of}
use Rattle.sasi_engine.specs.declared.relation.IndexedRelation.{IndexedRelation}
use Rattle.sasi_engine.specs.Asked.{first_lacking}
use Rattle.sasi_engine.specs.Parts.{HitsIn, OfFile}
use Rattle.sasi_engine.specs.Parts as parts
use Rattle.sasi_engine.specs.inside.Found.{found_in}

-- ---- streams

-- what a stream reads: an index file, where it asks for words, all keys of a data file, or some keys in memory
pub data Source : Type 0 where
  OfIndex : FileName → Op → List (List ℕ) → Source
  OfKeys : FileName → List ColumnType → Source
  OfMap : List DecoratedKey → Source

-- a source, with the numbers of the relation and of the part
pub record Planned : Type 0 where
  pub source : Source
  pub leaf : ℕ
  pub part : ℕ

-- a new stream of the hits that an index file gives
pub record IsIndexStream (file : FileName) (op : Op) (words : List (List ℕ)) (leaf part : ℕ) (s : Hits) : Type 0 where
  pub leaves : (files : Option Folder) (bytes : Bytes) (content : IndexContent) (pairs : List Pair) → ReadsAsIndex files file bytes content → AreHits content op words None 0 pairs → Leaves s files (entries_of leaf part pairs)
  pub pays : (files : Option Folder) (bytes : Bytes) (content : IndexContent) (is : ReadsAsIndex files file bytes content) → Pays s files (3 + all_cost is.index_file.blocks.levels content op words)
  pub opens : (name : FileName) → Opens s name → IsFile file name
  pub ready : (files : Option Folder) → Ready s files
  pub shows : (files : Option Folder) (damage : Damage) → Shows s files damage → HitsShow file files damage

-- one of all keys of a data file
pub record IsKeysStream (file : FileName) (types : List ColumnType) (leaf part : ℕ) (s : Hits) : Type 0 where
  pub leaves : (files : Option Folder) (bytes : Bytes) (partitioner : Partitioner) (content : Content) → ReadsAsData files file types bytes partitioner content → Leaves s files (entries_of leaf part (key_pairs partitioner content))
  pub pays : (files : Option Folder) (bytes : Bytes) (partitioner : Partitioner) (content : Content) → ReadsAsData files file types bytes partitioner content → Pays s files (2 * file_pages bytes)
  pub opens : (name : FileName) → Opens s name → IsFile file name
  pub ready : (files : Option Folder) → Ready s files
  pub shows : (files : Option Folder) (damage : Damage) → Shows s files damage → KeysShow file files damage

-- one of keys in memory
pub record IsMapStream (keys : List DecoratedKey) (leaf part : ℕ) (s : Hits) : Type 0 where
  pub leaves : (files : Option Folder) → IsStrictlySortedBy decorated_cmp keys → Leaves s files (key_hits leaf part keys)
  pub pays : (files : Option Folder) → Pays s files 0
  pub opens : (name : FileName) → Opens s name → ⊥
  pub ready : (files : Option Folder) → Ready s files
  pub shows : (files : Option Folder) (damage : Damage) → Shows s files damage → ⊥

abbrev pub IsStream : Source → ℕ → ℕ → Hits → Type 0
IsStream (OfIndex file op words) leaf part s = IsIndexStream file op words leaf part s
IsStream (OfKeys file types) leaf part s = IsKeysStream file types leaf part s
IsStream (OfMap keys) leaf part s = IsMapStream keys leaf part s

-- each is the new stream that is planned at its position
abbrev pub AreStreams : List Planned → List Hits → Type 0
AreStreams [] [] = Unit {0}
AreStreams [] (s ∷ ss) = ⊥
AreStreams (p ∷ ps) [] = ⊥
AreStreams (p ∷ ps) (s ∷ ss) = IsStream p.source p.leaf p.part s × AreStreams ps ss

-- these new streams come after those that are there
pub record Adds (planned : List Planned) (old new : List Hits) : Type 0 where
  pub added : List Hits
  pub new_is : new ≡ old ++ added
  pub are : AreStreams planned added

-- ---- a data file

-- of its parts the one of the index with this number
abbrev pub part_for : ℕ → List PartNumber → Option PartNumber
part_for number parts = find (λ (p : PartNumber). nat_eq p.index number) parts

abbrev pub has_part : List PartNumber → IndexedRelation → Bool
has_part parts relation = is_some (part_for relation.index parts)

-- the source of a relation, where the file has the part of its index
abbrev pub own_source : ℕ → ℕ → ℕ → IndexedRelation → Option PartNumber → List Planned
own_source number at leaf relation None = []
own_source number at leaf relation (Some p) = record { source = OfIndex (index_name number p) relation.op relation.words; leaf = leaf; part = at } ∷ []

-- those of the relations, where the first one has this number
abbrev pub own_sources : ℕ → List PartNumber → ℕ → ℕ → List IndexedRelation → List Planned
own_sources number parts at leaf [] = []
own_sources number parts at leaf (r ∷ rs) = own_source number at leaf r (part_for r.index parts) ++ own_sources number parts at (suc leaf) rs

-- all keys, where the file lacks the index of this relation
abbrev pub key_source : ℕ → List ColumnType → ℕ → Option ℕ → List Planned
key_source number types at None = []
key_source number types at (Some leaf) = record { source = OfKeys (data_name number) types; leaf = leaf; part = at } ∷ []

abbrev pub file_sources : List ColumnType → List IndexedRelation → ℕ → ℕ → List PartNumber → List Planned
file_sources types relations at number parts = key_source number types at (first_lacking 0 (map (has_part parts) relations)) ++ own_sources number parts at 0 relations

-- ---- a map

abbrev pub found_sources : MapPart → ℕ → ℕ → List IndexedRelation → List Planned
found_sources part at leaf [] = []
found_sources part at leaf (r ∷ rs) = record { source = OfMap (found_in part r); leaf = leaf; part = at } ∷ found_sources part at (suc leaf) rs

abbrev pub map_sources : List IndexedRelation → ℕ → Option MapPart → List Planned
map_sources relations at None = []
map_sources relations at (Some part) = found_sources part at 0 relations

-- ---- all parts

-- those of the part with this number
abbrev pub part_sources : Book → List ColumnType → List IndexedRelation → ℕ → Part → List Planned
part_sources book types relations at (File number parts) = file_sources types relations at number parts
part_sources book types relations at (Map number) = map_sources relations at (map_.get book number)

-- those of the parts, where the first one has this number
abbrev pub all_sources : Book → List ColumnType → List IndexedRelation → ℕ → List Part → List Planned
all_sources book types relations at [] = []
all_sources book types relations at (part ∷ parts) = part_sources book types relations at part ++ all_sources book types relations (suc at) parts

-- of each relation, whether the part has its index
abbrev pub part_bits : List IndexedRelation → Part → List Bool
part_bits relations (File number parts) = map (has_part parts) relations
part_bits relations (Map number) = map (λ (r : IndexedRelation). true) relations

-- ---- where the hits are

abbrev pub found_by : List IndexedRelation → Option MapPart → List (List DecoratedKey)
found_by relations None = []
found_by relations (Some part) = map (found_in part) relations

-- those of the part, before which there are so many files
abbrev pub part_hits : Book → List IndexedRelation → ℕ → Part → HitsIn
part_hits book relations files (File number parts) = OfFile files (map (has_part parts) relations)
part_hits book relations files (Map number) = parts.OfMap (found_by relations (map_.get book number))

-- how many files there are with this part
abbrev pub files_with : ℕ → Part → ℕ
files_with files (File number parts) = files + 1
files_with files (Map number) = files

-- those of the parts
abbrev pub all_hits : Book → List IndexedRelation → ℕ → List Part → List HitsIn
all_hits book relations files [] = []
all_hits book relations files (part ∷ parts) = part_hits book relations files part ∷ all_hits book relations (files_with files part) parts
