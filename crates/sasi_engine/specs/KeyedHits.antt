-- The candidate of a key that hits leave, too.
use Rattle.std.specs.Prelude.{◌≡◌, ℕ, ◌≤◌, Bool, true, ◌&&◌, List, [], ◌∷◌, ◌++◌, length, Some}
use Rattle.sasi_types.specs.declared.decorated_key.DecoratedKey.{DecoratedKey}
use Rattle.sasi_cells.specs.Maps.{merged}
use Rattle.sasi_memtable.specs.MemtableView.{AreDecorated}
use Rattle.sasi_memindex.specs.Book.{Book}
use Rattle.sasi_model.specs.Conditions.{Condition, Indexed, OfKey, Plain}
use Rattle.sasi_model.specs.State.{decorated}
use Rattle.sasi_model.specs.Tokens.{same}
use Rattle.sasi_candidates.specs.Costs.{files_of}
use Rattle.sasi_model.specs.Filters.{key_asked}
use Rattle.sasi_candidates.specs.Parts.{maps_of}
use Rattle.sasi_engine.specs.Asked.{asked_of}
use Rattle.sasi_engine.specs.HitCandidates.{PlanWorld, in_memory}
use Rattle.sasi_engine.specs.Views.{IsPlannedFor}

-- each condition on the key asks for this one
abbrev pub agree : List ℕ → List Condition → Bool
agree bytes [] = true
agree bytes (OfKey other ∷ conditions) = same other bytes && agree bytes conditions
agree bytes (Indexed index search ∷ conditions) = agree bytes conditions
agree bytes (Plain column comparison ∷ conditions) = agree bytes conditions

-- Conditions ask for this one key, and one is on an indexed column. The data files come before the maps, and each key stands under the token that the
-- partitioner gives it.
pub record IsKeyedWorld (w : PlanWorld) (key : DecoratedKey) (book : Book) : Type 0 where
  pub planned : IsPlannedFor w.folder w.partitioner w.table book w.types w.relations w.listed (asked_of w.conditions) w.parts
  pub asked : key_asked w.conditions ≡ Some key.key
  pub agreed : agree key.key w.conditions ≡ true
  pub own : key ≡ decorated w.partitioner key.key
  pub some : 1 ≤ length (asked_of w.conditions)
  pub ordered : w.parts ≡ files_of w.parts ++ in_memory w.parts
  pub own_tokens : AreDecorated w.partitioner (merged (maps_of w.parts))
