-- Lists of one part.
use Rattle.std.specs.Prelude.{ℕ, List, [], ◌∷◌}
use Rattle.sasi_views.specs.declared.part.Part.{Part}
use Rattle.sasi_views.specs.declared.part.Part.TheVariants.{File, Map}

-- a data file and one index file
abbrev pub one_file : ℕ → ℕ → ℕ → List Part
one_file number index part = File number (record { index = index; part = part } ∷ []) ∷ []

abbrev pub one_map : ℕ → List Part
one_map number = Map number ∷ []
