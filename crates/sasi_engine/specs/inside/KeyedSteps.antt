-- The one candidate of a key that hits leave, too: what is left of it, and what it costs.
use Rattle.std.specs.Prelude.{◌≡◌, ℕ, ◌≤◌, nat_eq, Bool, true, false, List, [], ◌∷◌, Option, None, Some}
use Rattle.std.specs.FinMap as map_
use Rattle.std.specs.List.{filter}
use Rattle.sasi_types.specs.declared.decorated_key.DecoratedKey.{DecoratedKey}
use Rattle.sasi_host.specs.Names.{Folder}
use Rattle.sasi_cells.specs.Maps.{merged}
use Rattle.sasi_model.specs.State.{decorated}
use Rattle.sasi_model.specs.Tokens.{same}
use Rattle.sasi_memindex.specs.Book.{Book}
use Rattle.sasi_ranges.specs.declared.entry.Entry.{Entry}
use Rattle.sasi_candidates.specs.Costs.{token_cost}
use Rattle.sasi_candidates.specs.Parts.{maps_of}
use Rattle.sasi_lookup.specs.Lookups.{HasKeysOf, IsLookingIn}
use Rattle.sasi_recheck.specs.Sources.{Candidate, first_price}
use Rattle.sasi_engine.specs.declared.hand.Hand.{Hand}
use Rattle.sasi_engine.specs.HitCandidates.{IsLeft, PlanWorld, in_memory}
use Rattle.sasi_engine.specs.TokenHits.{AreSmall, contents_in_files, maps_numbered}

-- ---- entries

-- the first entry has the token
abbrev pub begin_with : ℕ → List Entry → Bool
begin_with token [] = false
begin_with token (e ∷ es) = nat_eq e.token token

-- ---- before the look-up

-- the candidates with a key
abbrev pub rows_of_key : List ℕ → List Candidate → List Candidate
rows_of_key key rows = filter (λ (e : Candidate). same e.0.key key) rows

-- Nothing is in hand yet, and the key has the token that the partitioner gives it. Of the candidates that the hits leave, those with the key are left.
pub record IsKeyLeft (w : PlanWorld) (files : Option Folder) (book : Book) (Hits : List Entry → Type 0) (hand : Hand) (key : DecoratedKey) (left : List Candidate) : Type 0 where
  pub by_hits : List Candidate
  pub are_left : IsLeft w files book Hits None hand by_hits
  pub none : hand.keys.items ≡ []
  pub own : key ≡ decorated w.partitioner key.key
  pub left_is : left ≡ rows_of_key key.key by_hits

-- the stream of hits takes at most so many reads, and the first price pays a look at the key's token
pub record IsKeyOwing (w : PlanWorld) (files : Option Folder) (book : Book) (Hits : List Entry → Type 0) (Pays : ℕ → Type 0) (hand : Hand) (key : DecoratedKey) (most : ℕ) (prices : List ℕ) : Type 0 where
  pub left : List Candidate
  pub is_left : IsKeyLeft w files book Hits hand key left
  pub small : AreSmall w.parts
  pub hits_pay : Pays most
  pub look_pays : token_cost w.partitioner w.parts key.token ≤ first_price prices

-- ---- a source, which has the key until it was looked up

abbrev pub KeyLeaves : (List Entry → Type 0) → Hand → Option DecoratedKey → Option Folder → Book → List Candidate → Type 0
KeyLeaves Hits hand None files book left = left ≡ []
KeyLeaves Hits hand (Some key) files book left = (w : PlanWorld) × IsKeyLeft w files book Hits hand key left

abbrev pub KeyOwes : (List Entry → Type 0) → (ℕ → Type 0) → Hand → Option DecoratedKey → Option Folder → Book → ℕ → List ℕ → Type 0
KeyOwes Hits Pays hand None files book most prices = Unit {0}
KeyOwes Hits Pays hand (Some key) files book most prices = (w : PlanWorld) × IsKeyOwing w files book Hits Pays hand key most prices

-- ---- with the keys of its token in hand

-- the key is the one candidate, which the parts have so
pub record IsKeyFound (w : PlanWorld) (files : Option Folder) (book : Book) (hand : Hand) (key : DecoratedKey) (left : List Candidate) : Type 0 where
  pub row : Candidate
  pub left_is : left ≡ row ∷ []
  pub key_is : row.0.key ≡ key.key
  pub merged_is : map_.get (merged (maps_of w.parts)) key ≡ Some row.1
  pub turned : HasKeysOf w.partitioner key.token (contents_in_files w.parts) hand.lookup
  pub looks : IsLookingIn files w.partitioner (contents_in_files w.parts) hand.lookup
  pub maps_are : maps_numbered book hand.maps.items ≡ maps_of (in_memory w.parts)

-- the hits leave the key, or no candidate is left
abbrev pub IsKeyTurned : PlanWorld → Option Folder → Book → Hand → DecoratedKey → List Candidate → Bool → Type 0
IsKeyTurned w files book hand key left true = IsKeyFound w files book hand key left
IsKeyTurned w files book hand key left false = left ≡ []
