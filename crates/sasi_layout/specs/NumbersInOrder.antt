-- What holds of every layout that a store goes through, by numbers alone.
use Rattle.std.specs.Prelude.{◌≡◌, ◌<◌, ◌≤◌, ℕ, List, [], ◌∷◌, length}
use Rattle.std.specs.List.{AllByRecursion}
use Rattle.sasi_manifest.specs.declared.files.ListedFile.{ListedFile}
use Rattle.sasi_manifest.specs.ListedDefinition.{ListedDefinition}
use Rattle.sasi_layout.specs.Layout.{Layout, listing_of}

-- the numbers of the files rise, above the one and up to the other
abbrev pub Rising : ℕ → ℕ → List ListedFile → Type 0
Rising low high [] = low ≤ high
Rising low high (f ∷ fs) = (low < f.number) × Rising f.number high fs

pub record HasFilesInOrder (high last : ℕ) (t : ListedDefinition) : Type 0 where
  pub rise : Rising 0 high t.files
  pub since : t.since ≤ last

-- each index has a number, up to the last used one
pub record HasIndexesNumbered (high : ℕ) (t : ListedDefinition) : Type 0 where
  pub counted : length t.numbers ≡ length t.definition.indexes
  pub within : AllByRecursion (λ (n : ℕ). n ≤ high) t.numbers

-- Files rise by number up to the last used one, indexes have numbers up to the last used one, and no table begins after the log.
pub record HasNumbersInOrder (l : Layout) : Type 0 where
  pub files : AllByRecursion (HasFilesInOrder l.used.«data» l.last) (listing_of l).tables
  pub indexes : AllByRecursion (HasIndexesNumbered l.used.index) (listing_of l).tables
