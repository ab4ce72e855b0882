-- What the streams of a plan leave, and the files that they may read.
use Rattle.std.specs.Prelude.{◌≡◌, ℕ, ◌≤◌, ◌^◌, Bool, true, List, [], ◌∷◌, length, map, Option, Some}
use Rattle.std.specs.FinMap.{get}
use Rattle.std.specs.List.{list_any}
use Rattle.sasi_types.specs.declared.column.ColumnType.{ColumnType}
use Rattle.sasi_types.specs.declared.partitioner.Partitioner.{Partitioner}
use Rattle.sasi_host.specs.declared.damage.Damage.{Damage}
use Rattle.sasi_host.specs.declared.name.FileName.{FileName}
use Rattle.sasi_host.specs.declared.name.Kind.TheVariants.{Data, Index}
use Rattle.sasi_host.specs.Names.{Bytes, Folder, data_name, name_eq}
use Rattle.sasi_manifest.specs.ListedFiles.{index_name}
pub use Rattle.sasi_views.specs.Parts.{names_of}
use Rattle.sasi_views.specs.declared.part.Part as view
use Rattle.sasi_views.specs.declared.part.Part.TheVariants.{File, Map}
use Rattle.sasi_ranges.specs.EachStream.{EachLeaves}
use Rattle.sasi_candidates.specs.Parts.{Part}
use Rattle.sasi_hits.specs.Hits.{Leaves}
use Rattle.sasi_hits.specs.IndexHits.{HitsShow}
use Rattle.sasi_hits.specs.KeyTrees.{KeysShow}
use Rattle.sasi_lookup.specs.Files.{FileShows}
use Rattle.sasi_engine.specs.declared.plan.PlanStreams.{PlanStreams}
use Rattle.sasi_engine.specs.Asked.{Asked}
use Rattle.sasi_engine.specs.HitLists.{hit_lists, serving}
use Rattle.sasi_engine.specs.Parts.{hits_in, hits_of}

-- **As the folder reads, the streams leave the hits of these relations in these parts**, and these streams serve the relations.
pub record IsPlanOf (folder : Folder) (partitioner : Partitioner) (asked : List Asked) (parts : List Part) (plan : PlanStreams) : Type 0 where
  pub leaves : EachLeaves Leaves (Some folder) plan.streams (hit_lists partitioner asked 0 parts)
  pub serving_is : plan.relations ≡ serving asked parts
  pub hits_are : map hits_in plan.parts.items ≡ hits_of asked 0 parts

-- ---- files

-- the file is one of those of the parts
abbrev pub is_file_of : List view.Part → FileName → Bool
is_file_of parts name = list_any (λ (part : view.Part). list_any (name_eq name) (names_of part)) parts

-- each of them has at most 2^40 bytes
abbrev pub AreShort : Folder → List view.Part → Type 0
AreShort folder parts = (name : FileName) (bytes : Bytes) → is_file_of parts name ≡ true → get folder name ≡ Some bytes → length bytes ≤ 2 ^ 40

-- ---- numbers

-- the numbers of the data files of a view, and those of its maps
abbrev pub file_numbers : List view.Part → List ℕ
file_numbers [] = []
file_numbers (File number indexes ∷ listed) = number ∷ file_numbers listed
file_numbers (Map number ∷ listed) = file_numbers listed

abbrev pub map_numbers : List view.Part → List ℕ
map_numbers [] = []
map_numbers (File number indexes ∷ listed) = map_numbers listed
map_numbers (Map number ∷ listed) = number ∷ map_numbers listed

-- ---- damage

-- the damage is that of one of the files: of a data file's key tree, or of an index file
pub data IsShownIn (parts : List view.Part) (files : Option Folder) (damage : Damage) : Type 0 where
  of_data : (file : FileName) → file.kind ≡ Data → is_file_of parts file ≡ true → KeysShow file files damage → IsShownIn parts files damage
  of_index : (file : FileName) → file.kind ≡ Index → is_file_of parts file ≡ true → HitsShow file files damage → IsShownIn parts files damage

-- or it shows where a data file is looked up
pub data IsCandidateDamage (parts : List view.Part) (types : List ColumnType) (files : Option Folder) (damage : Damage) : Type 0 where
  of_hits : IsShownIn parts files damage → IsCandidateDamage parts types files damage
  of_lookup : (file : FileName) → file.kind ≡ Data → is_file_of parts file ≡ true → FileShows types file files damage → IsCandidateDamage parts types files damage
