-- Trees of numbers.
use Rattle.std.specs.Prelude.{◌≡◌, ℕ, List}
use Rattle.std.specs.BTreeSet.{BTreeSet, contains}
use Rattle.std.specs.Ordering.{nat_cmp}
use Rattle.sasi_manifest.specs.ListedFiles.{is_among}

-- the tree has these numbers
abbrev pub IsTreeOf : List ℕ → BTreeSet ℕ → Type 0
IsTreeOf numbers tree = (n : ℕ) → contains nat_cmp tree n ≡ is_among numbers n
