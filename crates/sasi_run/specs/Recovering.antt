-- What the replies that were emitted tell of the state for which a folder stands after a crash.
use Rattle.std.specs.Prelude.{◌≡◌, ◌⊎◌, ℕ, suc, ◌<◌, ◌≤◌, List, [], ◌++◌, length, take, drop, Option, Some}
use Rattle.std.specs.List.{concat}
use Rattle.sasi_types.specs.declared.partitioner.Partitioner.{Partitioner}
use Rattle.sasi_host.specs.Names.{Folder}
use Rattle.sasi_host.specs.View.{View}
use Rattle.sasi_model.specs.Pieces.{Piece}
use Rattle.sasi_model.specs.State.{State}
use Rattle.sasi_model.specs.Parsers.{Parser}
use Rattle.sasi_model.specs.Step.{state_by}

-- ---- the state

-- when a folder stands for a state, where this partitioner is asked
abbrev pub StandsRelation : Type 1
StandsRelation = Option Partitioner → Folder → State → Type 0

-- n is the number of whole replies that were emitted: what was shown begins with the first n of the replies, and with no more of them
pub record IsReplyCount (answers : List (List ℕ)) (shown : List ℕ) (n : ℕ) : Type 0 where
  pub within : n ≤ length answers
  pub rest : List ℕ
  pub begins : shown ≡ concat (take n answers) ++ rest
  pub no_more : (m : ℕ) (more : List ℕ) → n < m → m ≤ length answers → shown ≡ concat (take m answers) ++ more → ⊥

-- the reply behind the first n, or nothing where there is none
abbrev pub next_reply : List (List ℕ) → ℕ → List ℕ
next_reply answers n = concat (take 1 (drop n answers))

-- the bytes are a first part of it
pub record IsPartOfNextReply (answers : List (List ℕ)) (n : ℕ) (bytes : List ℕ) : Type 0 where
  pub back : List ℕ
  pub parts : next_reply answers n ≡ bytes ++ back

-- the state after the first n pieces, or after one more
abbrev pub IsStateAfter : Parser → State → List Piece → ℕ → State → Type 0
IsStateAfter parser s pieces n state = (state ≡ state_by parser s (take n pieces)) ⊎ ((n < length pieces) × (state ≡ state_by parser s (take (suc n) pieces)))

-- nothing was shown, and an image of the start stood for the state
pub record IsStateOfImage (StandsFor : StandsRelation) (asked : Option Partitioner) (start : View) (shown : List ℕ) (state : State) : Type 0 where
  pub nothing : shown ≡ []
  pub image : Folder
  pub was : start.image image
  pub stood : StandsFor asked image state

-- What a crash leaves of a run of these pieces, to which these are the replies, where so much was emitted before the run: the replies to the first `count` pieces, for the largest such number, with a first part of the next reply behind them; and a folder that stands for the state after these pieces, or after one more.
pub record Recovers (StandsFor : StandsRelation) (parser : Parser) (asked : Option Partitioner) (start : View) (s : State) (pieces : List Piece) (answers : List (List ℕ)) (before : List ℕ) (folder : Folder) (out : List ℕ) : Type 0 where
  pub shown : List ℕ
  pub went : out ≡ before ++ shown
  pub count : ℕ
  pub whole : IsReplyCount answers shown count
  pub next : IsPartOfNextReply answers count whole.rest
  pub state : State
  pub stands : StandsFor asked folder state
  pub after : IsStateOfImage StandsFor asked start shown state ⊎ IsStateAfter parser s pieces count state

-- ---- the next run

-- the host's files are this folder, with nothing pending
pub record IsAtRest (host : View) (folder : Folder) : Type 0 where
  pub reads : host.files ≡ Some folder
  pub only : (image : Folder) → host.image image → image ≡ folder
