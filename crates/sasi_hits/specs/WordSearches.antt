-- The searches of the words of a relation, in one index file.
use Rattle.std.specs.Prelude.{◌≡◌, ℕ, ◌+◌, ◌<◌, ◌≤◌, ◌^◌, Bool, true, false, not, if◌then◌else◌, List, [], ◌∷◌, map, Option, None, Some}
use Rattle.std.specs.List.{AllByRecursion, sum_by}
use Rattle.sasi_types.specs.declared.tree.Pair.{Pair}
use Rattle.sasi_host.specs.declared.name.FileName.{FileName}
use Rattle.sasi_host.specs.declared.damage.Damage.{Damage}
use Rattle.sasi_host.specs.Names.{Bytes, Folder}
use Rattle.sasi_host.specs.View.{View}
use Rattle.sasi_terms.specs.declared.op.Op.{Op}
use Rattle.sasi_treemerge.specs.Merges.{is_behind}
use Rattle.sasi_treemerge.specs.Sources.{is_before}
use Rattle.sasi_indexwrite.specs.Content.{IndexContent}
use Rattle.sasi_indexread.specs.Costs.{cost_left}
use Rattle.sasi_indexread.specs.Damages.{ShowsIndex}
use Rattle.sasi_indexread.specs.Opened.{OpenIndexFile}
use Rattle.sasi_indexread.specs.Searches.{CanSearch, IsFresh, IsSearching, Searching}
use Rattle.sasi_ranges.specs.EachStream.{SomeOpens, SomeShows}
use Rattle.sasi_candidates.specs.Searches.{is_asked_pair, same_pair}
use Rattle.sasi_hits.specs.declared.meeting.Met.{Met}
use Rattle.sasi_hits.specs.declared.meeting.Met.TheVariants.{All, NotAll, NoMore}
use Rattle.sasi_hits.specs.declared.meeting.Turn.{Turn}
use Rattle.sasi_hits.specs.declared.meeting.Turn.TheVariants.{Hit, Passed, Ended}
use Rattle.sasi_hits.specs.declared.word_search.WordSearch.{WordSearch}
use Rattle.sasi_hits.specs.Calls.{IsFile, ShowsIn}
use Rattle.sasi_hits.specs.HitPairs.{AreHits}

-- ---- a word behind the first

-- the search of the word gives the pair
abbrev pub word_gives : IndexContent → Searching → Pair → Bool
word_gives content search pair = is_asked_pair content search.op pair search.body

-- the pair is the head of a search, or can come behind it
abbrev pub IsToCome : Option Pair → Pair → Type 0
IsToCome None pair = Unit {0}
IsToCome (Some head) pair = is_before pair head ≡ false

-- the head, if there is one, was given by the search
abbrev pub IsGiven : IndexContent → Searching → Option Pair → Type 0
IsGiven content search None = Unit {0}
IsGiven content search (Some head) = word_gives content search head ≡ true

-- It searches the index file of this content. Of the pairs that its search gives, these are still to come.
pub record IsFollowing (v : View) (content : IndexContent) (These : Pair → Type 0) (word : WordSearch) : Type 0 where
  pub searching : IsSearching v word.search content
  pub given : IsGiven content word.search word.head
  pub comes : (pair : Pair) → These pair → word_gives content word.search pair ≡ true → IsToCome word.head pair

-- the pairs behind the last one, and those from one on
abbrev pub Behind : Option Pair → Pair → Type 0
Behind last pair = is_behind last pair ≡ true

abbrev pub From : Pair → Pair → Type 0
From first pair = is_before pair first ≡ false

-- it can go on in this file, whatever that is
pub record CanFollow (v : View) (index : OpenIndexFile) (word : WordSearch) : Type 0 where
  pub can : CanSearch v word.search
  pub index_is : word.search.index ≡ index
  pub last_is : word.search.merge.last ≡ word.head
  pub floor_is : word.search.merge.floor ≡ 0

-- the same is searched for in the same file
pub record AsksAgain (old new : Searching) : Type 0 where
  pub index : new.index ≡ old.index
  pub op : new.op ≡ old.op
  pub body : new.body ≡ old.body

-- the head has come to the pair
abbrev pub has_come_to : Option Pair → Pair → Bool
has_come_to None pair = false
has_come_to (Some head) pair = not (is_before head pair)

abbrev pub met_at : Option Pair → Pair → Met
met_at None pair = NotAll
met_at (Some head) pair = if same_pair head pair then All else NotAll

-- the head goes on to the next pair that the search gives, or stays where there is none
abbrev pub HeadAdvances : IndexContent → Searching → Option Pair → Option Pair → Bool → Type 0
HeadAdvances content search old new true =
    (head : Pair) × (new ≡ Some head) × (word_gives content search head ≡ true) × Behind old head × ((pair : Pair) → word_gives content search pair ≡ true → Behind old pair → From head pair)
HeadAdvances content search old new false = (new ≡ old) × ((pair : Pair) → word_gives content search pair ≡ true → Behind old pair → ⊥)

-- it rises, and its numbers fit their fields
abbrev pub HeadRises : Option Pair → Option Pair → Type 0
HeadRises old new = (head : Pair) × (new ≡ Some head) × Behind old head × (head.token < 2 ^ 64) × (head.place < 2 ^ 64)

-- the word gives the pair; it doesn't; or it gives none from the pair on
abbrev pub IsMetBy : IndexContent → Searching → Pair → Met → Type 0
IsMetBy content search pair All = word_gives content search pair ≡ true
IsMetBy content search pair NotAll = word_gives content search pair ≡ false
IsMetBy content search pair NoMore = (later : Pair) → From pair later → word_gives content search later ≡ false

-- ---- the words behind the first

-- a search, and for what it asks
abbrev pub Asking : Type 0
Asking = OpenIndexFile × Op × Bytes

abbrev pub asking : WordSearch → Asking
asking word = (word.search.index, word.search.op, word.search.body)

-- the same is searched for by each
abbrev pub AskAgain : List WordSearch → List WordSearch → Type 0
AskAgain old new = map asking new ≡ map asking old

abbrev pub is_all : Met → Bool
is_all All = true
is_all NotAll = false
is_all NoMore = false

-- all of them give the pair
abbrev pub AllGive : IndexContent → List WordSearch → Pair → Type 0
AllGive content others pair = AllByRecursion (λ (a : Asking). is_asked_pair content a.1 pair a.2 ≡ true) (map asking others)

-- all of them give the pair; not all of them do; or not all of them give any pair from it on
abbrev pub IsMet : IndexContent → List WordSearch → Pair → Met → Type 0
IsMet content others pair All = AllGive content others pair
IsMet content others pair NotAll = AllGive content others pair → ⊥
IsMet content others pair NoMore = (later : Pair) → From pair later → AllGive content others later → ⊥

abbrev pub AreFollowing : View → IndexContent → (Pair → Type 0) → List WordSearch → Type 0
AreFollowing v content These others = AllByRecursion (IsFollowing v content These) others

-- each can go on in its file, and all of them in one
abbrev pub EachCanFollow : View → List WordSearch → Type 0
EachCanFollow v others = AllByRecursion (λ (word : WordSearch). CanFollow v word.search.index word) others

abbrev pub AllCanFollow : View → OpenIndexFile → List WordSearch → Type 0
AllCanFollow v index others = AllByRecursion (CanFollow v index) others

abbrev pub WordOpens : WordSearch → FileName → Type 0
WordOpens word name = IsFile word.search.index.file name

abbrev pub WordShows : WordSearch → Option Folder → Damage → Type 0
WordShows word files damage = ShowsIn word.search.index.file (ShowsIndex word.search.index) files damage

abbrev pub OthersOpen : List WordSearch → FileName → Type 0
OthersOpen others name = SomeOpens WordOpens others name

abbrev pub OthersShow : Option Folder → List WordSearch → Damage → Type 0
OthersShow files others damage = SomeShows WordShows files others damage

-- the reads that are left to them
abbrev pub others_cost : IndexContent → List WordSearch → ℕ
others_cost content others = sum_by (λ (word : WordSearch). cost_left word.search content) others

-- ---- all words

-- the searches are those of these words
pub record AskWords (op : Op) (words : List Bytes) (first : Searching) (others : List WordSearch) : Type 0 where
  pub op_is : first.op ≡ op
  pub words_are : words ≡ first.body ∷ map (λ (word : WordSearch). word.search.body) others
  pub ops_are : AllByRecursion (λ (word : WordSearch). word.search.op ≡ op) others
  pub files_are : AllByRecursion (λ (word : WordSearch). word.search.index.file ≡ first.index.file) others

-- they search the index file of this content, for these words
pub record AreSearching (v : View) (op : Op) (words : List Bytes) (first : Searching) (others : List WordSearch) (content : IndexContent) : Type 0 where
  pub asked : AskWords op words first others
  pub searching : IsSearching v first content
  pub following : AreFollowing v content (Behind first.merge.last) others

-- they can go on in their file, whatever that is
pub record CanMeet (v : View) (first : Searching) (others : List WordSearch) : Type 0 where
  pub can : CanSearch v first
  pub floor_is : first.merge.floor ≡ 0
  pub follow : AllCanFollow v first.index others

abbrev pub words_cost : IndexContent → Searching → List WordSearch → ℕ
words_cost content first others = cost_left first content + others_cost content others

-- they search the index file of this content, for some words
abbrev pub AskedOf : View → Searching → List WordSearch → IndexContent → Type 0
AskedOf v first others content = (op : Op) × (words : List Bytes) × AreSearching v op words first others content

-- what a pair of the first word turns out to be
abbrev pub turn_of : Met → Pair → Turn
turn_of All pair = Hit pair
turn_of NotAll pair = Passed
turn_of NoMore pair = Ended

-- a hit is the first of those that are left, and a pair that is passed is none of them
abbrev pub TurnGives : (List Pair → Type 0) → List Pair → Turn → Type 0
TurnGives Left left (Hit pair) = (rest : List Pair) × (left ≡ pair ∷ rest) × Left rest
TurnGives Left left Passed = Left left
TurnGives Left left Ended = (left ≡ []) × Left []

-- the searches leave these hits
abbrev pub MeetLeaves : View → Op → List Bytes → ℕ → Searching → List WordSearch → List Pair → Type 0
MeetLeaves v op words floor first others left = (content : IndexContent) × AreSearching v op words first others content × AreHits content op words first.merge.last floor left

-- and take at most so many reads for them
abbrev pub MeetPays : View → Op → List Bytes → Searching → List WordSearch → ℕ → Type 0
MeetPays v op words first others most = (content : IndexContent) × AreSearching v op words first others content × (words_cost content first others ≤ most)

-- ---- new searches

-- a search of the file of which nothing was read
pub record IsFreshWord (index : OpenIndexFile) (op : Op) (word : WordSearch) : Type 0 where
  pub fresh : IsFresh word.search
  pub head : word.head ≡ None
  pub index_is : word.search.index ≡ index
  pub op_is : word.search.op ≡ op
