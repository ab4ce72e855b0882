-- The pairs that the searches of all words of a relation give in one index file.
use Rattle.std.specs.Prelude.{◌≡◌, ℕ, ◌≤◌, Bool, true, List, Option}
use Rattle.std.specs.List.{list_all}
use Rattle.sasi_types.specs.declared.tree.Pair.{Pair}
use Rattle.sasi_host.specs.Names.{Bytes}
use Rattle.sasi_terms.specs.declared.op.Op.{Op}
use Rattle.sasi_indexwrite.specs.Content.{IndexContent}
use Rattle.sasi_treemerge.specs.Merges.{is_behind}
use Rattle.sasi_candidates.specs.Searches.{is_asked_pair}
use Rattle.sasi_hits.specs.Pairs.{IsIn, PairsRise}

-- the pair itself is among the lists of each word: the words meet in one partition, and not only at one token
abbrev pub all_give : IndexContent → Op → List Bytes → Pair → Bool
all_give content op words pair = list_all (is_asked_pair content op pair) words

-- the pair comes behind the last one, its token isn't below the floor, and each word's search gives it
pub record IsHit (content : IndexContent) (op : Op) (words : List Bytes) (last : Option Pair) (floor : ℕ) (pair : Pair) : Type 0 where
  pub behind : is_behind last pair ≡ true
  pub from : floor ≤ pair.token
  pub given : all_give content op words pair ≡ true

-- **The hits that are left**: exactly these pairs, in their order and each once.
pub record AreHits (content : IndexContent) (op : Op) (words : List Bytes) (last : Option Pair) (floor : ℕ) (left : List Pair) : Type 0 where
  pub rise : PairsRise left
  pub each : (pair : Pair) → IsIn pair left → IsHit content op words last floor pair
  pub all : (pair : Pair) → IsHit content op words last floor pair → IsIn pair left
