-- What reads of a gated file give, over what the host tells.
use Rattle.std.specs.Prelude.{Bool, ◌≡◌, ℕ, List, [], ◌∷◌, ◌++◌, Some}
use Rattle.sasi_host.specs.declared.name.FileName.{FileName}
use Rattle.sasi_host.specs.declared.fault.ReadFault.{ReadFault}
use Rattle.sasi_host.specs.Names.{Bytes}
use Rattle.sasi_host.specs.Damages.{OnDamage}
use Rattle.sasi_host.specs.View.{View, IsTold, contents}
use Rattle.sasi_gated.specs.Format.{IsGated}
use Rattle.sasi_gated.specs.Gates.{IsAtGate, ReadsAt}
use Rattle.sasi_gated.specs.Damages.{IsGatedDamage}
use Rattle.sasi_gated.specs.Handles.{IsAtEnd, IsReading, ReadsOn}

-- the file as it reads begins with its header, behind which the first gate stands
abbrev pub HasHeader : View → FileName → ℕ → Type 0
HasHeader v file at = (bytes : Bytes) → contents v file ≡ Some bytes → (rest : Bytes) × IsAtGate file bytes at [] rest

-- at a gate of the file as it reads, this is read, and the reader then stands at the second offset
abbrev pub ReadsGate : View → FileName → ℕ → ℕ → Bool → Bytes → Type 0
ReadsGate v file at after more out =
    (bytes : Bytes) (done : List Bytes)
    (rest : Bytes) → contents v file ≡ Some bytes → IsAtGate file bytes at done rest → ReadsAt more file bytes after done rest out

-- of the records that are left, this is read, and the reader then stands at the second offset
abbrev pub ReadsRecords : View → View → FileName → ℕ → ℕ → Bool → Bytes → Type 0
ReadsRecords old new file at after more out =
    (done left : List Bytes) → IsTold old → IsReading old file at done left → ReadsOn more new file after done left out

-- where the records end at the first offset, there is now this one more, and they end at the second offset
abbrev pub AppendsRecord : View → View → FileName → ℕ → ℕ → Bytes → Type 0
AppendsRecord old new file at after payload = (records : List Bytes) → IsAtEnd old file at records → IsAtEnd new file after (records ++ payload ∷ [])

-- ---- damage

-- damage is what the file shows as it reads
abbrev pub GatedDamageShown : View → FileName → ReadFault → Type 0
GatedDamageShown v file = OnDamage (λ damage. (bytes : Bytes) → contents v file ≡ Some bytes → IsGatedDamage file bytes damage)

-- the same, where the reader stood at a gate
abbrev pub GatedDamageShownAt : View → FileName → ℕ → ReadFault → Type 0
GatedDamageShownAt v file at =
    OnDamage
    (λ damage. (bytes : Bytes) (done : List Bytes) (rest : Bytes) → contents v file ≡ Some bytes → IsAtGate file bytes at done rest → IsGatedDamage file bytes damage)

-- a file that is a gated one isn't reported as damaged
abbrev pub NoFalseGatedDamage : View → FileName → ReadFault → Type 0
NoFalseGatedDamage v file = OnDamage (λ _. (bytes : Bytes) (records : List Bytes) → contents v file ≡ Some bytes → IsGated file bytes records → ⊥)

-- nor is one whose records are being read
abbrev pub NoFalseRecordDamage : View → FileName → ℕ → ReadFault → Type 0
NoFalseRecordDamage v file at = OnDamage (λ _. (done left : List Bytes) → IsTold v → IsReading v file at done left → ⊥)
