-- What a part of a step promises that makes moves of the layout.
use Rattle.std.specs.Prelude.{◌≡◌, ◌≤◌, ℕ, Bool, List, IfErr, OnOk, None, Some, Result}
use Rattle.sasi_host.specs.declared.name.FileName.{FileName}
use Rattle.sasi_host.specs.Disk.{Changes}
use Rattle.sasi_host.specs.View.{View}
use Rattle.sasi_layout.specs.Between.{Between}
use Rattle.sasi_layout.specs.Kept.{AreAside}
use Rattle.sasi_layout.specs.Layout.{Layout}
use Rattle.sasi_layout.specs.Moves.{Move, after_moves}
use Rattle.sasi_layout.specs.Serving.{CanChange, HasExactlyBeside, Serves, StoreInMemory}
use Rattle.sasi_layout.specs.Spent.{spent}
use Rattle.sasi_model.specs.State.{Definition}
use Rattle.sasi_recover.specs.OpenedFolder.{AnyFolderChange}
use Rattle.sasi_tables.specs.Faults.{OnMissing, OnSpent, OnStepDamage, StepCauses}
use Rattle.sasi_tables.specs.Frames.{KeepsTables, KeepsUsed}
use Rattle.sasi_tables.specs.declared.fault.StepFault.{StepFault}

-- what the store knows of its state without its files
pub record Knows (store : StoreInMemory) (definitions : List Definition) (max_timestamp : ℕ) : Type 0 where
  pub definitions_are : store.definitions ≡ definitions
  pub timestamp_is : store.max_timestamp ≡ max_timestamp

-- the moves of each layout
abbrev pub MovesOf : Type 0
MovesOf = Layout → List Move

-- Whichever layout the store serves, each moment is one between its moves. Afterwards it serves the layout after them. It ends early only where a number is spent that they need, or where a call or memory fails, and never for an analyzer.
pub record MakesMoves {T : Type 0} (moves : MovesOf) (a b : View) (old new : StoreInMemory) (result : Result T StepFault) : Type 0 where
  pub any_moment : (l : Layout) → Serves a old l → Changes (λ x y. Between l (moves l) y) a b
  pub serves : OnOk result ((l : Layout) → Serves a old l → Serves b new (after_moves (moves l) l))
  pub ready : OnOk result (CanChange b new)
  pub unspent : OnOk result ((l : Layout) → Serves a old l → spent l (moves l) ≡ None)
  pub spent_is : IfErr result (OnSpent (λ kind. (l : Layout) → Serves a old l → spent l (moves l) ≡ Some kind))
  pub undamaged : IfErr result (OnStepDamage (λ _. ⊥))
  pub present : IfErr result (OnMissing (λ _. ⊥))
  pub changes : Changes AnyFolderChange a b
  -- the files of numbers that are used before it stay, also where it fails; where it doesn't, the listed ones stay listed, and each used number stays used
  pub files_stay : Changes (KeepsUsed old.used.«data») a b
  pub listed_stay : OnOk result (KeepsTables old.used.«data» new.used.«data» old.manifest.listing new.manifest.listing)
  pub numbers_stay : OnOk result (old.used.«data» ≤ new.used.«data»)
  -- the files aside stay aside, and no other one comes
  pub exactly : OnOk result ((aside : FileName → Bool) → AreAside old.used.«data» aside → HasExactlyBeside a aside old → AreAside new.used.«data» aside × HasExactlyBeside b aside new)
  pub reads : b.reads ≡ a.reads
  pub causes : StepCauses a b result
