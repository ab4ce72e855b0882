-- The numbers that a flush and a new index draw.
use Rattle.std.specs.Prelude.{◌≡◌, ℕ, ◌+◌, ◌<◌, ◌^◌, suc, List, [], ◌∷◌, ◌++◌, length, None, Some}
use Rattle.sasi_manifest.specs.declared.files.PartNumber.{PartNumber}
use Rattle.sasi_layout.specs.Spent.{first_spent, part_draws}
use Rattle.sasi_layout.specs.declared.number_kind.NumberKind.{NumberKind}
use Rattle.sasi_layout.specs.declared.number_kind.NumberKind.TheVariants as kinds
use Rattle.sasi_recover.specs.declared.opened.Numbers.{Numbers}

-- the kinds of which a flush draws the next number whose file has index files of these parts, with the last used ones
abbrev pub flush_draws : Numbers → List PartNumber → List (NumberKind × ℕ)
flush_draws old parts = (kinds.Data, old.data) ∷ (part_draws old.part parts ++ (kinds.Log, old.log) ∷ [])

-- these are the next ones
pub record AreNext (parts : List PartNumber) (old new : Numbers) : Type 0 where
  pub file : new.data ≡ suc old.data
  pub log : new.log ≡ suc old.log
  pub manifest : new.manifest ≡ old.manifest
  pub index : new.index ≡ old.index
  pub part : new.part ≡ old.part + length parts
  pub unspent : first_spent (flush_draws old parts) None ≡ None
  pub file_fits : new.data < 2 ^ 32
  pub log_fits : new.log < 2 ^ 32

-- no number of this kind is left
abbrev pub AreSpent : List PartNumber → Numbers → NumberKind → Type 0
AreSpent parts old kind = first_spent (flush_draws old parts) None ≡ Some kind

-- ---- an index

-- it is the next one
pub record IsNextIndex (last next : ℕ) : Type 0 where
  pub next_is : next ≡ suc last
  pub unspent : first_spent ((kinds.Index, last) ∷ []) None ≡ None
  pub fits : next < 2 ^ 32

-- no number of an index is left
abbrev pub IsSpentIndex : ℕ → NumberKind → Type 0
IsSpentIndex last kind = first_spent ((kinds.Index, last) ∷ []) None ≡ Some kind
