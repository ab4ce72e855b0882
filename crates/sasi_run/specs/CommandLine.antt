-- The words of the command line: a folder and a script, and before them perhaps the partitioner that is asked.
use Rattle.std.specs.Prelude.{◌≡◌, ℕ, codes, Bool, true, false, not, ◌==◌, if◌then◌else◌, List, [], ◌∷◌, Option, None, Some}
use Rattle.sasi_types.specs.declared.partitioner.Partitioner.{Partitioner}
use Rattle.sasi_types.specs.declared.partitioner.Partitioner.TheVariants.{Lead8, Murmur3}
use Rattle.sasi_model.specs.Tokens.{same}
use Rattle.sasi_run.specs.declared.arguments.Command.{Command}

-- a path isn't empty, and doesn't begin with `-`
abbrev pub is_path : List ℕ → Bool
is_path [] = false
is_path (b ∷ bs) = not (b == 45)

-- the option that asks for a partitioner
abbrev pub is_option : List ℕ → Bool
is_option word = same word (codes "--partitioner")

-- the partitioner of this name
abbrev pub partitioner_named : List ℕ → Option Partitioner
partitioner_named name =
    if same name (codes "lead8") then Some Lead8
    else if same name (codes "murmur3") then Some Murmur3
    else None

-- the partitioner that is asked, if one is
abbrev pub asked_by : List (List ℕ) → Option Partitioner
asked_by (option ∷ name ∷ folder ∷ script ∷ []) = partitioner_named name
asked_by words = None

-- the words are the paths of a folder and of a script, in this order, behind the option with a partitioner's name if there is one
abbrev pub IsCommand : List (List ℕ) → Command → Type 0
IsCommand (folder ∷ script ∷ []) command = (is_path folder ≡ true) × (is_path script ≡ true) × (command ≡ record { partitioner = None; folder = 0; script = 1 })
IsCommand (option ∷ name ∷ folder ∷ script ∷ []) command = (is_option option ≡ true) × (is_path folder ≡ true) × (is_path script ≡ true)
    × ((p : Partitioner) × (partitioner_named name ≡ Some p) × (command ≡ record { partitioner = Some p; folder = 2; script = 3 }))
IsCommand _ command = ⊥

-- the words are in the grammar
abbrev pub IsCommandLine : List (List ℕ) → Type 0
IsCommandLine words = (command : Command) × IsCommand words command
