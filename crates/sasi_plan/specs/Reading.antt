-- A plan that is read in a view: the world of the view, and what is left and paid before the first candidate.
use Rattle.std.specs.Prelude.{◌≡◌, ◌⊎◌, ℕ, ◌+◌, ◌≤◌, true, false, List, [], ◌∷◌, ◌++◌, Option, None, Some}
use Rattle.std.specs.FinMap as map_
use Rattle.std.specs.List.{AllByRecursion, sum_by}
use Rattle.sasi_types.specs.declared.column.ColumnType.{ColumnType}
use Rattle.sasi_types.specs.declared.decorated_key.DecoratedKey.{DecoratedKey}
use Rattle.sasi_host.specs.declared.damage.Damage.{Damage}
use Rattle.sasi_host.specs.declared.name.FileName.{FileName}
use Rattle.sasi_host.specs.Names.{Folder}
use Rattle.sasi_host.specs.View.{contents_in}
use Rattle.sasi_manifest.specs.declared.files.ListedFile.{ListedFile}
use Rattle.sasi_memindex.specs.Book.{Book}
use Rattle.sasi_memtable.specs.MemtableView.{AreDecorated}
use Rattle.sasi_cells.specs.Maps.{merged}
use Rattle.sasi_model.specs.State.{decorated}
use Rattle.sasi_views.specs.declared.part.Part as view
use Rattle.sasi_views.specs.declared.part.Part.TheVariants.{File, Map}
use Rattle.sasi_scan.specs.Finding.{key_reads}
use Rattle.sasi_scan.specs.Paging.{table_reads}
use Rattle.sasi_scan.specs.Parts.{ShowsListed}
use Rattle.sasi_candidates.specs.Candidates.{candidates}
use Rattle.sasi_candidates.specs.Costs.{cost, file_cost, files_of, token_cost}
use Rattle.sasi_model.specs.Filters.{key_asked, where_of}
use Rattle.sasi_candidates.specs.Parts.{maps_of}
use Rattle.sasi_memindex.specs.Growth.{IsGrown}
use Rattle.sasi_recheck.specs.Sources.{Candidate, first_price}
use Rattle.sasi_engine.specs.declared.relation.IndexedRelation.{IndexedRelation}
use Rattle.sasi_engine.specs.Asked.{asked_of}
use Rattle.sasi_engine.specs.HitCandidates.{IsMadeOf, PlanWorld, in_memory, looked_groups, prices_from}
use Rattle.sasi_engine.specs.Plans.{AreShort, IsCandidateDamage, is_file_of, map_numbers}
use Rattle.sasi_sources.specs.Maps.{IsOneOf}
use Rattle.sasi_engine.specs.TokenHits.{contents_in_files}
use Rattle.sasi_engine.specs.Findable.{CanFind, HasWords}
use Rattle.sasi_engine.specs.Views.{IsPlannedFor}
use Rattle.sasi_engine.specs.KeyedHits.{agree}
use Rattle.sasi_plan.specs.Plans.{PlanView}
use Rattle.sasi_plan.specs.declared.plan.PlanSource.{PlanSource}
use Rattle.sasi_plan.specs.declared.plan.PlanSource.TheVariants.{Nothing, OfKey, OfTable}

-- ---- files

-- the data files of the view, as a manifest lists them
abbrev pub listed_files : List view.Part → List ListedFile
listed_files [] = []
listed_files (File number indexes ∷ listed) = record { number = number; parts = indexes } ∷ listed_files listed
listed_files (Map number ∷ listed) = listed_files listed

-- ---- the world

-- The view has these parts, the data files before the maps, and each key stands under the token that the partitioner gives it.
pub record IsViewOf (w : PlanWorld) (book : Book) : Type 0 where
  pub planned : IsPlannedFor w.folder w.partitioner w.table book w.types w.relations w.listed (asked_of w.conditions) w.parts
  pub ordered : w.parts ≡ files_of w.parts ++ in_memory w.parts
  pub own_tokens : AreDecorated w.partitioner (merged (maps_of w.parts))

-- made of these types, relations and parts, for all keys that the relations leave, or for one of them
abbrev pub IsMadeForTable : PlanWorld → List IndexedRelation → List ColumnType → List view.Part → Type 0
IsMadeForTable w relations types listed = IsMadeOf w types relations listed × (key_asked w.conditions ≡ None)

abbrev pub IsMadeForKey : PlanWorld → DecoratedKey → List IndexedRelation → List ColumnType → List view.Part → Type 0
IsMadeForKey w key relations types listed = IsMadeOf w types relations listed × (key_asked w.conditions ≡ Some key.key) × (agree key.key w.conditions ≡ true) × (key ≡ decorated w.partitioner key.key)

-- the source is that of the world's conditions, and was made of its types, relations and parts
abbrev pub IsMadeFor : PlanWorld → PlanSource → List ColumnType → List view.Part → Type 0
IsMadeFor w Nothing types listed = (bytes : List ℕ) × (key_asked w.conditions ≡ Some bytes) × (agree bytes w.conditions ≡ false)
IsMadeFor w (OfKey key relations) types listed = IsMadeForKey w key relations.items types listed
IsMadeFor w (OfTable relations) types listed = IsMadeForTable w relations.items types listed

-- ---- a plan

-- the world is that of the plan in this view, as the book is
pub record IsReadIn (w : PlanWorld) (plan : PlanView) (listed : List view.Part) (book : Book) : Type 0 where
  pub view_is : IsViewOf w book
  pub listed_are : w.listed ≡ listed
  pub types_are : w.types ≡ plan.types
  pub conditions_are : w.conditions ≡ plan.conditions
  pub made : IsMadeFor w plan.source plan.types listed

-- where hits are asked for, the bound holds for files of at most 2^40 bytes
abbrev pub IsBoundedBy : PlanWorld → List IndexedRelation → Type 0
IsBoundedBy w [] = Unit {0}
IsBoundedBy w (r ∷ relations) = AreShort w.folder w.listed

abbrev pub IsBounded : PlanWorld → PlanSource → Type 0
IsBounded w Nothing = Unit {0}
IsBounded w (OfKey key relations) = IsBoundedBy w relations.items
IsBounded w (OfTable relations) = IsBoundedBy w relations.items

-- what is read where hits are asked for, and else so much
abbrev pub reads_by : PlanWorld → List IndexedRelation → Option ℕ → ℕ → ℕ
reads_by w [] limit reads = reads
reads_by w (r ∷ relations) limit reads = cost w.partitioner w.parts w.conditions limit

-- **How many reads the plan may take**: none, a look-up of the key or a scan of the table; where hits are asked for what the conditions may cost
abbrev pub plan_reads : PlanWorld → PlanSource → Option ℕ → ℕ
plan_reads w Nothing limit = 0
plan_reads w (OfKey key relations) limit = reads_by w relations.items limit (key_reads w.partitioner key.key (contents_in_files w.parts))
plan_reads w (OfTable relations) limit = reads_by w relations.items limit (table_reads (Some w.folder) (listed_files w.listed))

-- ---- before the first candidate

-- the folder reads as that of the world, and the book has its maps, perhaps with further indexes, as far as the view goes
pub record IsSeen (w : PlanWorld) (origin : Book) (files : Option Folder) (book : Book) : Type 0 where
  pub files_are : (name : FileName) → is_file_of w.listed name ≡ true → contents_in files name ≡ map_.get w.folder name
  pub maps_are : (number : ℕ) → IsOneOf (map_numbers w.listed) number → IsGrown (map_.get origin number) (map_.get book number)

-- what a plan is read by, before its first candidate
pub record IsPending (w : PlanWorld) (origin : Book) (source : PlanSource) (types : List ColumnType) (listed : List view.Part) (files : Option Folder) (book : Book) : Type 0 where
  pub view_is : IsViewOf w origin
  pub listed_are : w.listed ≡ listed
  pub types_are : w.types ≡ types
  pub made : IsMadeFor w source types listed
  pub seen : IsSeen w origin files book

-- **The candidates of the conditions are left**
abbrev pub PendingLeaves : PlanSource → List ColumnType → List view.Part → Option Folder → Book → List Candidate → Type 0
PendingLeaves source types listed files book left = (w : PlanWorld) × (origin : Book) × IsPending w origin source types listed files book × (left ≡ candidates w.parts (where_of w.conditions))

-- what the conditions may cost in the files, and beside it these prices
abbrev pub HitPrices : PlanWorld → ℕ → List ℕ → List ℕ → Type 0
HitPrices w most prices own = AreShort w.folder w.listed × (most ≡ sum_by (file_cost w.partitioner w.conditions) (files_of w.parts)) × (prices ≡ own)

-- all keys take each page of the data files twice, and three reads more of each file; hits the tokens that are looked at
abbrev pub TablePrices : PlanWorld → List IndexedRelation → ℕ → List ℕ → Type 0
TablePrices w [] most prices = table_reads (Some w.folder) (listed_files w.listed) ≤ most + first_price prices
TablePrices w (r ∷ relations) most prices = HitPrices w most prices (prices_from w 0 (looked_groups w))

-- one key takes a look-up of it; with hits a look at its token
abbrev pub KeyPrices : PlanWorld → DecoratedKey → List IndexedRelation → ℕ → List ℕ → Type 0
KeyPrices w key [] most prices = key_reads w.partitioner key.key (contents_in_files w.parts) ≤ most + first_price prices
KeyPrices w key (r ∷ relations) most prices = HitPrices w most prices (token_cost w.partitioner w.parts key.token ∷ [])

-- what they take, by the source
abbrev pub PricesOf : PlanWorld → PlanSource → ℕ → List ℕ → Type 0
PricesOf w Nothing most prices = Unit {0}
PricesOf w (OfKey key relations) most prices = KeyPrices w key relations.items most prices
PricesOf w (OfTable relations) most prices = TablePrices w relations.items most prices

abbrev pub PendingPays : PlanSource → List ColumnType → List view.Part → Option Folder → Book → ℕ → List ℕ → Type 0
PendingPays source types listed files book most prices = (w : PlanWorld) × (origin : Book) × IsPending w origin source types listed files book × PricesOf w source most prices

-- each relation has a word, and the book has each map with the indexes of the relations
abbrev pub PendingReady : PlanSource → List view.Part → Book → Type 0
PendingReady Nothing listed book = Unit {0}
PendingReady (OfKey key relations) listed book = AllByRecursion HasWords relations.items × AllByRecursion (CanFind book relations.items) listed
PendingReady (OfTable relations) listed book = AllByRecursion HasWords relations.items × AllByRecursion (CanFind book relations.items) listed

-- the damage of a file of the view, as a source shows it
abbrev pub PendingShows : List ColumnType → List view.Part → Option Folder → Damage → Type 0
PendingShows types listed files damage = IsCandidateDamage listed types files damage ⊎ ShowsListed files (listed_files listed) types damage
