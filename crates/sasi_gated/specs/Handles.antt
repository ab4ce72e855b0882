-- A durable gated file, and the gate before which its handle stands.
use Rattle.std.specs.Prelude.{Bool, true, false, [], ◌≡◌, ℕ, List, ◌∷◌, ◌++◌}
use Rattle.sasi_host.specs.declared.name.FileName.{FileName}
use Rattle.sasi_host.specs.Names.{Bytes}
use Rattle.sasi_host.specs.View.{View}
use Rattle.sasi_host.specs.Buffered.{Buffered}
use Rattle.sasi_host.specs.Disk.{IsFileDurable}
use Rattle.sasi_gated.specs.Format.{Closes, FromGate}
use Rattle.sasi_gated.specs.Gates.{IsAtGate}

-- what contracts see of an open gated file
pub record Handle : Type 0 where
  pub file : FileName
  -- the offset of the gate before which it stands
  pub at : ℕ
  -- no call on it has failed
  pub usable : Bool
  -- the page that is buffered
  pub buffered : Buffered

-- The file is durable. These records stand before the gate at this offset, and these from it on.
pub record IsReading (v : View) (file : FileName) (at : ℕ) (done left : List Bytes) : Type 0 where
  pub bytes : Bytes
  pub rest : Bytes
  pub kept : IsFileDurable v file bytes
  pub at_gate : IsAtGate file bytes at done rest
  pub records_left : FromGate rest left

-- The file is durable, with these records, and the closed gate stands at this offset.
pub record IsAtEnd (v : View) (file : FileName) (at : ℕ) (records : List Bytes) : Type 0 where
  pub bytes : Bytes
  pub rest : Bytes
  pub kept : IsFileDurable v file bytes
  pub at_gate : IsAtGate file bytes at records rest
  pub closed : Closes rest

-- what a read gives of the records that are left: true and the first of them, or false where there is none
abbrev pub ReadsOn : Bool → View → FileName → ℕ → List Bytes → List Bytes → Bytes → Type 0
ReadsOn true v file at done [] out = ⊥
ReadsOn true v file at done (first ∷ others) out = (out ≡ first) × IsReading v file at (done ++ first ∷ []) others
ReadsOn false v file at done [] out = IsAtEnd v file at done
ReadsOn false v file at done (first ∷ others) out = ⊥
