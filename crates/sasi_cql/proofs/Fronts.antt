-- The first token of a text.
use Rattle.std.proofs.Common.{◌≡◌, ℕ, true, false, List, [], ◌∷◌, length, Option, None, Some, is_some, refl}
use Rattle.std.specs.Borrow.{Bor}
use Rattle.sasi_model.specs.Tokens as model
use Rattle.sasi_model.specs.FormReader.{Got, Stuck, ended}
use Rattle.sasi_cql.specs.declared.token.Token.{Token}
use Rattle.sasi_cql.specs.Finds.{HasToken, IsFirst}

pub first_there : (all : List model.Token) (first : Option (Token × Bor (List ℕ))) → IsFirst all first → HasToken all (is_some first)
first_there all (Some r) is = rw is refl
first_there all None is = rw is refl

-- behind a value that has tokens behind it nothing may stand
pub ended_stuck : {A : Type 0} (value : A) (behind : List model.Token) → HasToken behind true → ended (Got value behind) ≡ Stuck (length behind)
ended_stuck value [] there = absurd cc
ended_stuck value (t ∷ behind) there = refl

pub ended_got : {A : Type 0} (value : A) (behind : List model.Token) → HasToken behind false → ended (Got value behind) ≡ Got value []
ended_got value [] there = refl
ended_got value (t ∷ behind) there = absurd cc
