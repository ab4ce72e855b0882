-- What a call on a stream needs, and what it leaves.
use Rattle.std.specs.Prelude.{◌≡◌, ◌⊎◌, ℕ, ◌+◌, ◌-◌, ◌≤◌, List, [], ◌∷◌, Option, None, Some, IfErr, Result, Ok, Err}
use Rattle.sasi_host.specs.declared.name.FileName.{FileName}
use Rattle.sasi_host.specs.declared.damage.Damage.{Damage}
use Rattle.sasi_host.specs.declared.fault.ReadFault.{ReadFault}
use Rattle.sasi_host.specs.Names.{Folder}
use Rattle.sasi_host.specs.View.{View, IsThere, ReadCost}
use Rattle.sasi_host.specs.Disk.{Changes, Same}
use Rattle.sasi_host.specs.Damages.{OnDamage}
use Rattle.sasi_ranges.specs.declared.entry.Entry.{Entry}

-- the files that the stream may read are there, and the pages that the reader caches are those of the folder
pub record CanStream (Agrees : Option Folder → Type 0) (Opens : FileName → Type 0) (v : View) : Type 0 where
  pub there : (name : FileName) → Opens name → IsThere v name
  pub agrees : Agrees v.files

-- the folder is unchanged; the pages that the reader then caches are those of it, and of no further file but the stream's, which has no further file either
pub record HasStreamed (Agrees : Option Folder → Type 0) (Before After Opened Opens : FileName → Type 0) (old new : View) : Type 0 where
  pub agrees : Agrees new.files
  pub covers : (name : FileName) → After name → Before name ⊎ Opened name
  pub opens : (name : FileName) → Opens name → Opened name
  pub changes : Changes Same old new

-- the first of the entries is given, and the others are left; none is given exactly where there is none
abbrev pub Gives : (List Entry → Type 0) → List Entry → Option Entry → Type 0
Gives Left es None = (es ≡ []) × Left []
Gives Left es (Some e) = (rest : List Entry) × (es ≡ e ∷ rest) × Left rest

-- the reads of a call, and those that what is left may take, are together at most so many
abbrev pub Spends : {T : Type 0} → (ℕ → Type 0) → ℕ → ℕ → ℕ → Result T ReadFault → Type 0
Spends Pays most before now (Ok value) = (rest : ℕ) × Pays rest × (now + rest ≤ before + most)
Spends Pays most before now (Err fault) = now ≤ before + most

-- A fault has its cause. Damage is reported only if the files show it, and never where they have what the stream leaves.
pub record StreamFaults {T L : Type 0} (Shown Shows : Damage → Type 0) (Leaves : L → Type 0) (old new : View) (result : Result T ReadFault) : Type 0 where
  pub causes : ReadCost (new.reads - old.reads) old new result
  pub damaged : IfErr result (OnDamage Shown)
  pub undamaged : IfErr result (OnDamage (λ _. (left : L) → Leaves left → ⊥))
  pub shows : (damage : Damage) → Shows damage → Shown damage
