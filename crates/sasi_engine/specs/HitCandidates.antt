-- The candidates that hits give: what is left of them, and what they cost.
use Rattle.std.specs.Prelude.{◌≡◌, ℕ, ◌+◌, ◌≤◌, not, List, [], ◌∷◌, ◌++◌, length, map, nat_eq, reverse, Option, None, Some}
use Rattle.std.specs.FinMap as map_
use Rattle.std.specs.List.{AllByRecursion, filter, flat_map}
use Rattle.std.specs.Option.{option_to_list}
use Rattle.sasi_types.specs.declared.column.ColumnType.{ColumnType}
use Rattle.sasi_types.specs.declared.partitioner.Partitioner.{Partitioner}
use Rattle.sasi_types.specs.Token.{token_of}
use Rattle.sasi_host.specs.Names.{Folder}
use Rattle.sasi_cells.specs.Maps.{merged}
use Rattle.sasi_memtable.specs.MemtableView.{AreDecorated}
use Rattle.sasi_model.specs.Conditions.{Condition}
use Rattle.sasi_memindex.specs.Book.{Book}
use Rattle.sasi_layout.specs.Layout.{TableParts}
use Rattle.sasi_ranges.specs.declared.entry.Entry.{Entry}
use Rattle.sasi_ranges.specs.Lists.{intersection_by}
use Rattle.sasi_views.specs.declared.part.Part as view
use Rattle.sasi_candidates.specs.Costs.{files_of, is_on_disk, token_cost}
use Rattle.sasi_model.specs.Filters.{key_asked, where_of}
use Rattle.sasi_candidates.specs.Groups.{Group, by_token, candidates_in, is_looked, rows_in}
use Rattle.sasi_candidates.specs.Parts.{Part, maps_of}
use Rattle.sasi_lookup.specs.Lookups.{HasKeysOf, IsLookingIn}
use Rattle.sasi_lookup.specs.Reads.{found_pages}
use Rattle.sasi_recheck.specs.Sources.{Candidate, first_price}
use Rattle.sasi_engine.specs.declared.hand.Hand.{Hand}
use Rattle.sasi_engine.specs.declared.relation.IndexedRelation.{IndexedRelation}
use Rattle.sasi_engine.specs.Asked.{asked_of}
use Rattle.sasi_engine.specs.HitLists.{hit_lists, serving}
use Rattle.sasi_engine.specs.Parts.{hits_in, hits_of}
use Rattle.sasi_engine.specs.TokenHits.{AreSmall, contents_in_files, maps_numbered}
use Rattle.sasi_engine.specs.Views.{IsPlannedFor}

-- ---- the world of a plan

-- what a source of candidates was made for: a view of a table's parts, and conditions of which one is on an indexed column and none on the key
pub record PlanWorld : Type 0 where
  pub folder : Folder
  pub partitioner : Partitioner
  pub table : TableParts
  pub types : List ColumnType
  pub relations : List IndexedRelation
  pub listed : List view.Part
  pub conditions : List Condition
  pub parts : List Part

-- the parts that are maps
abbrev pub in_memory : List Part → List Part
in_memory parts = filter (λ (part : Part). not (is_on_disk part.origin)) parts

-- The data files come before the maps, and each key stands under the token that the partitioner gives it.
pub record IsWorld (w : PlanWorld) (book : Book) : Type 0 where
  pub planned : IsPlannedFor w.folder w.partitioner w.table book w.types w.relations w.listed (asked_of w.conditions) w.parts
  pub free : key_asked w.conditions ≡ None
  pub some : 1 ≤ length (asked_of w.conditions)
  pub ordered : w.parts ≡ files_of w.parts ++ in_memory w.parts
  pub own_tokens : AreDecorated w.partitioner (merged (maps_of w.parts))

-- it was made of these
pub record IsMadeOf (w : PlanWorld) (types : List ColumnType) (relations : List IndexedRelation) (listed : List view.Part) : Type 0 where
  pub types_are : w.types ≡ types
  pub relations_are : w.relations ≡ relations
  pub listed_are : w.listed ≡ listed

-- ---- tokens

-- the entries of the intersection
abbrev pub hit_entries : PlanWorld → List Entry
hit_entries w = intersection_by (serving (asked_of w.conditions) w.parts) (hit_lists w.partitioner (asked_of w.conditions) 0 w.parts)

-- the tokens that are looked at, each with the keys of all parts
abbrev pub looked_groups : PlanWorld → List Group
looked_groups w = filter (is_looked w.parts (where_of w.conditions)) (by_token (map_.entries (merged (maps_of w.parts))))

-- the entries of a group's token
abbrev pub entries_at : PlanWorld → Group → List Entry
entries_at w g = filter (λ (e : Entry). nat_eq e.token g.token) (hit_entries w)

-- its candidates
abbrev pub candidates_at : PlanWorld → Group → Group
candidates_at w g = candidates_in w.parts (where_of w.conditions) g

-- ---- what is left

-- the row has the token, which is that of its key, and is what all parts have of the key
pub record IsRowOf (w : PlanWorld) (token : ℕ) (e : Candidate) : Type 0 where
  pub of_token : e.0.token ≡ token
  pub own_token : token_of w.partitioner e.0.key ≡ token
  pub merged_is : map_.get (merged (maps_of w.parts)) e.0 ≡ Some e.1

-- the keys in hand, the next one last, are those of the rows that are left of a token
pub record AreInHand (w : PlanWorld) (hand : Hand) (rows : List Candidate) : Type 0 where
  pub keys_are : map (λ (e : Candidate). e.0.key) rows ≡ reverse hand.keys.items
  pub rows_are : AllByRecursion (IsRowOf w hand.token) rows
  pub turned : AllByRecursion (λ (e : Candidate). HasKeysOf w.partitioner hand.token (contents_in_files w.parts) hand.lookup) rows

-- **The candidates that are left**, as the files and the maps are: those of the token in hand, and those of the groups behind it, which the stream
-- of hits has still to give. The world was that of a folder and a book in which the files and the maps that are looked at were the same.
pub record IsLeft (w : PlanWorld) (files : Option Folder) (book : Book) (Hits : List Entry → Type 0) (ahead : Option Entry) (hand : Hand) (left : List Candidate) : Type 0 where
  pub origin : Book
  pub world : IsWorld w origin
  pub count : hand.relations ≡ length (asked_of w.conditions)
  pub hits_are : map hits_in hand.parts.items ≡ hits_of (asked_of w.conditions) 0 w.parts
  pub looks : IsLookingIn files w.partitioner (contents_in_files w.parts) hand.lookup
  pub maps_are : maps_numbered book hand.maps.items ≡ maps_of (in_memory w.parts)
  pub passed : List Group
  pub groups : List Group
  pub groups_are : looked_groups w ≡ passed ++ groups
  pub entries : List Entry
  pub given : Hits entries
  pub entries_are : option_to_list ahead ++ entries ≡ flat_map (entries_at w) groups
  pub rows : List Candidate
  pub in_hand : AreInHand w hand rows
  pub left_is : left ≡ rows ++ rows_in (map (candidates_at w) groups)

-- ---- prices

-- the candidates of a token: the first one pays what is owed so far, and each other one a look at the token
abbrev pub prices_of : ℕ → ℕ → List Candidate → List ℕ
prices_of owed price [] = []
prices_of owed price (e ∷ rows) = owed ∷ map (λ (x : Candidate). price) rows

-- what is owed behind them
abbrev pub owed_behind : ℕ → List Candidate → ℕ
owed_behind owed [] = owed
owed_behind owed (e ∷ rows) = 0

-- **What candidates cost**, where so much is owed: the first candidate of a token pays for it, and for the tokens without a candidate before it; the end
-- pays for those that are left then
abbrev pub prices_from : PlanWorld → ℕ → List Group → List ℕ
prices_from w owed [] = owed ∷ []
prices_from w owed (g ∷ gs) =
    let price : ℕ = token_cost w.partitioner w.parts g.token in
    prices_of (owed + price) price (candidates_at w g).rows ++ prices_from w (owed_behind (owed + price) (candidates_at w g).rows) gs

-- So much was read and isn't paid yet. The next price pays it, with the partition of the next key where one is in hand.
abbrev pub Owes : PlanWorld → ℕ → ℕ → List Candidate → List Group → List ℕ → Type 0
Owes w owed token [] [] prices = owed ≤ first_price prices
Owes w owed token [] (g ∷ gs) prices = prices ≡ prices_from w owed (g ∷ gs)
Owes w owed token (e ∷ rows) groups prices =
    (first : ℕ) × (prices ≡ first ∷ (map (λ (x : Candidate). token_cost w.partitioner w.parts token) rows ++ prices_from w 0 groups))
    × (owed + found_pages e.0.key (contents_in_files w.parts) ≤ first)

-- the stream of hits takes at most so many reads, and beside them these prices are paid
pub record IsOwing (w : PlanWorld) (files : Option Folder) (book : Book) (Hits : List Entry → Type 0) (Pays : ℕ → Type 0) (ahead : Option Entry) (hand : Hand) (most owed : ℕ) (prices : List ℕ) : Type 0 where
  pub left : List Candidate
  pub is_left : IsLeft w files book Hits ahead hand left
  pub small : AreSmall w.parts
  pub hits_pay : Pays most
  pub owes : Owes w owed hand.token is_left.rows is_left.groups prices
